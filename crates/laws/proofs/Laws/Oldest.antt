-- The oldest open transaction, in the books and in the ledger. Definitions: rules/specs/Close.antt `oldest_open`,
-- rules/specs/Histories.antt `oldest`.
-- In order: settling leaves it; the manager's is the ledger's. Elsewhere: it holds back what is committed above LCE
-- (Laws/Tracks.antt).
-- Assumes nothing.
use mathlib.Core.Path.{◌≡◌, sym, ap, ◌∙◌}
use mathlib.Core.List.{List, map}
use Prim.Native.Nat.{ℕ}
use lib.Dec.{ltb, eqb}
use Rattle.lists.specs.Lists.{keep_if, any_of, elem, least_of}
use Rattle.lists.proofs.Laws.All.{All, All_every, keep_if-keep_if, keep_if_ext}
use Rattle.lists.proofs.Laws.Bools.{split, and-false, eqb_comm}
use Rattle.lists.proofs.Laws.Filter.{any_of-same, any_of-map}
use Rattle.lists.proofs.Laws.Order.{least_of-same}
use Rattle.rules.specs.Manager.{Manager, Writer, is_open, open_epochs, writers_of}
use Rattle.rules.specs.Close.{settled_lce, oldest_open, settled}
use Rattle.rules.specs.Ledger.{Snapshot, Ledger, named}
use Rattle.rules.specs.Histories.{oldest}
use Rattle.laws.proofs.Laws.Views.{Fits, writers_of_with}
use Rattle.laws.proofs.Laws.Close.{kept, kept-fit}
use Rattle.laws.proofs.Laws.Tracks.{Tracks}
use Rattle.laws.proofs.Laws.TracksBegin.{elem-open_epochs}

-- ---- settling takes no open one away

open_kept : (lce : ℕ) (ts : List Writer) → keep_if is_open (keep_if (kept lce) ts) ≡ keep_if is_open ts
open_kept lce ts = keep_if-keep_if is_open (kept lce) ts ∙ keep_if_ext _ _ ts (All_every _
    (λ (t : Writer). split (is_open t) (λ o. rw o) (λ n. rw n (and-false (ltb lce t.epoch)))) ts)

pub oldest-settled : (m : Manager) (ts : List Writer) → All Fits ts
    → oldest_open (writers_of (settled ts m)) ≡ oldest_open ts
unfolding oldest_open settled
oldest-settled m ts fits = let lce = settled_lce m.clock.lce ts in
    ap (λ ws. least_of (open_epochs ws)) (writers_of_with (keep_if (kept lce) ts) m (kept-fit (kept lce) ts fits))
    ∙ ap (λ (ws : List Writer). least_of (map (λ w. w.epoch) ws)) (open_kept lce ts)

-- ---- beside the ledger

elem_names : (j : ℕ) (ws : List Snapshot) → elem j (map (λ w. w.name) ws) ≡ any_of (named j) ws
elem_names j ws = any_of-map (eqb j) (λ (w : Snapshot). w.name) ws
    ∙ any_of-same _ (named j) ws (λ w i. eqb_comm j w.name)

pub tracks-oldest : {m : Manager} {g : Ledger} → Tracks m g → oldest_open (writers_of m) ≡ oldest g
unfolding oldest_open
tracks-oldest {m} {g} T = least_of-same (open_epochs (writers_of m)) (map (λ w. w.name) g.writers)
    (λ j. elem-open_epochs j (writers_of m) ∙ (sym (T.writers.same j) ∙ sym (elem_names j g.writers)))
