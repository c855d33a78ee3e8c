-- The part that live_rows returns is the one that rules' purge answers with. Definition: specs/Part.antt.
-- In order: of a purge, of a refused one.
-- Assumes nothing.
use mathlib.Core.Path.{◌≡◌, refl}
use mathlib.Core.List.{List, []}
use Prim.Native.Nat.{ℕ}
use Rattle.rules.specs.Store.{Store}
use Rattle.rules.specs.Step.{step, purge}
use Rattle.rules.specs.declared.Refusal.{Refusal}
use Rattle.rules.specs.declared.Answer.TheVariants.{Refused}
use Rattle.rules.specs.declared.Entry.{Entry}
use Rattle.rules.specs.declared.State.{State}
use Rattle.store.specs.Kept.{store_of, Left}
use Rattle.store.specs.Part.{part_of}
use Rattle.rules.specs.declared.Kept.{Kept}

-- of any store and any number of a partition
pub part-purge : (p : ℕ) (st : Store)
    → part_of st.state (step (purge p) st).store.rows p (step (purge p) st).answer ≡ (step (purge p) st).live
unfolding step
part-purge p st = refl

-- so what live_rows returns of the books and the rows that store's purge was given and left is the part of step's purge
pub purge_in_force : (s : State) (rs : List ℕ) (es : List Entry) (p : ℕ)
    (r : Kept) (rs' : List ℕ) (es' : List Entry) → Left (step (purge p) (store_of s rs es)) r rs' es'
    → part_of s rs' p r.answer ≡ (step (purge p) (store_of s rs es)).live
unfolding step
purge_in_force s rs es p r rs' es' left = λ j. part_of s (left.1 j).rows p (left.0 j)

-- a refused purge answers the empty part, whatever books and rows are handed over
pub part-refused : (s : State) (rows : List ℕ) (p : ℕ) (r : Refusal) → part_of s rows p (Refused r) ≡ []
part-refused s rows p r = refl
