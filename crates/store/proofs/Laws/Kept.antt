-- What the calls by value keep is what step leaves. Definitions: specs/Kept.antt.
-- Assumes nothing.
use mathlib.Core.Path.{◌≡◌, refl, sym, ap, ◌∙◌}
use mathlib.Core.Bool.{Bool, true, false, ◌&&◌}
use mathlib.Core.List.{List}
use Prim.Native.Nat.{ℕ}
use lib.ListN.{length}
use Rattle.lists.proofs.Laws.Bools.{split, and_left, and_right}
use Rattle.rules.specs.Answers.{accepted}
use Rattle.rules.specs.WellFormed.{sound, totals_ok, lengths_ok, manager_ok}
use Rattle.rules.specs.Calls.{create_answer, manager_answer, manager_after}
use Rattle.rules.specs.Step.{step, create, manage}
use Rattle.rules.specs.Store.{Store, spans_at, total_at, totals_of, state_of, created_store}
use Rattle.rules.specs.Limits.{partitions_max}
use Rattle.rules.specs.declared.ManagerCall.{ManagerCall}
use Rattle.rules.specs.declared.ManagerCall.TheVariants.{Begin, Commit, BeginRo, EndRo, AdvanceLse}
use Rattle.rules.specs.declared.Entry.{Entry}
use Rattle.rules.specs.Manager.{Manager, manager_in}
use Rattle.rules.specs.Totals.{leaves_totals}
use Rattle.rules.specs.declared.State.{State}
use Rattle.partition_sound.specs.Sound.{partitions_ok}
use Rattle.partition_sound.specs.Asked.{asked_of, asked_for, lengths_are, spans_of, totals_are, rest_ok, rest_asked}
use Rattle.partition_sound.specs.Rest.{landed_below, rest_found}
use Rattle.partition_sound.specs.declared.Verdict.{Verdict}
use Rattle.partition_sound.proofs.Laws.Asked.{rest-asked}
use Rattle.partition_sound.proofs.Laws.Lands.{lands-commit}
use Rattle.partition_sound.proofs.Laws.Sound.{well_formed-is}
use Rattle.laws.proofs.Laws.ManagerCalls.{manager-passed, lce-rises, lce-stays}
use Rattle.laws.proofs.Laws.Totals.{sound-facts, totals-still}
use Rattle.txn_close.proofs.Laws.Close.{lce-after}
use Rattle.store.specs.Kept.{store_of, Left, create_kept, manager_kept, reached_by, asked_call, rest_kept}

-- whether the lots are sound, as a call asks it of the books
abbrev pub rest_in : State → List Entry → List ℕ → Bool
rest_in s es rs = rest_asked es rs (asked_of s.clock s.writers s.partitions s.totals)

-- with the manager's own test it is rules' sound
pub sound-is : (s : State) (es : List Entry) (rs : List ℕ)
    → rest_in s es rs && manager_ok (manager_in s) ≡ sound (store_of s rs es)
unfolding rest_ok lengths_are lengths_ok sound totals_ok totals_are total_at spans_at spans_of
sound-is s es rs = rw (rest-asked s es rs, well_formed-is (store_of s rs es))
    (exchange (lengths_are (length es) (length rs)) (partitions_ok (manager_in s) es s.partitions)
    (totals_ok (store_of s rs es)) (manager_ok (manager_in s))) where
      exchange : (a b t c : Bool) → ((a && b) && t) && c ≡ ((a && c) && b) && t
      exchange false b t c = refl
      exchange true true true true = refl
      exchange true true true false = refl
      exchange true true false true = refl
      exchange true true false false = refl
      exchange true false t true = refl
      exchange true false t false = refl

-- whatever lands by the call
pub rest_for : (s : State) (es : List Entry) (rs : List ℕ) (high gone : ℕ)
    → rest_asked es rs (asked_for s.clock s.writers s.partitions s.totals high gone) ≡ rest_in s es rs
unfolding rest_asked
rest_for s es rs high gone = refl

-- ---- a call on the manager

-- the books have eight partitions and eight totals
module _ (s : State) (n : length s.partitions.at ≡ partitions_max) (n' : length s.totals ≡ partitions_max)
    (es : List Entry) (rs : List ℕ) where
  abbrev st : Store
  st = store_of s rs es

  abbrev m : Manager
  m = manager_in s

  -- LCE stays where it was, and the totals with it
  pub manage-left : (c : ManagerCall) → leaves_totals (manage c) ≡ true
      → Left (step (manage c) st) (manager_kept s (rest_in s es rs) c) rs es
  unfolding step
  manage-left c h = let e = lce-stays c m h in rw (sound-is s es rs) (split (accepted (manager_answer c (sound st) m))
      (λ t. let ok = sound-facts st n (manager-passed c (sound st) m t) in
      rw t (
        refl,
        λ j. store_of (state_of (manager_after c m) s.partitions (sym (totals-still st ok n'
            (manager_after c m) e)
            j)) rs es,
      ))
      (λ f. rw f (refl, refl)))

  -- LCE then is where the pass over the records says
  reached-is : (c : ManagerCall) → manager_ok m ≡ true
      → reached_by s.clock s.writers c ≡ (manager_after c m).clock.lce
  reached-is Begin ok = sym (lce-stays Begin m refl)
  reached-is (Commit i) ok = lce-after true i s ok
  reached-is (BeginRo e) ok = sym (lce-stays (BeginRo e) m refl)
  reached-is (EndRo t) ok = sym (lce-stays (EndRo t) m refl)
  reached-is (AdvanceLse t) ok = sym (lce-stays (AdvanceLse t) m refl)

  -- what the lots' test finds for the call
  abbrev pub found_for : ManagerCall → Verdict
  found_for c = rest_found es rs (asked_call s.clock s.writers s.partitions s.totals c)

  -- LCE may rise: what lands is weighed
  pub manage_lands : (c : ManagerCall)
      → Left (step (manage c) st) (rest_kept (manager_kept s (found_for c).ok c) (found_for c)) rs es
  unfolding step totals_of total_at spans_at
  manage_lands c = let up = lce-rises c m in rw (
    rest_for s es rs (reached_by s.clock s.writers c) 0,
    sound-is s es
        rs,
  ) (split (accepted (manager_answer c (sound st) m))
      (λ t. let y = sound-is s es rs ∙ manager-passed c (sound st) m t in
      let ok = sound-facts st n (manager-passed c (sound st) m t) in
      let f = and_left (rest_in s es rs) (manager_ok m) y in let h = (manager_after c m).clock.lce in
      let e = ap (λ k. (landed_below es rs (asked_for s.clock s.writers s.partitions s.totals k 0)
      partitions_max).totals) (reached-is c (and_right (rest_in s es rs) (manager_ok m) y))
      ∙ lands-commit st ok n n' h up (rest_for s es rs h 0 ∙ f) in
      rw t (refl, λ j. store_of (state_of (manager_after c m) s.partitions (e j)) rs es))
      (λ f. rw f (refl, refl)))

pub create-left : (s : State) (es : List Entry) (rs : List ℕ) (a : ℕ)
    → Left (step (create a) (store_of s rs es)) (create_kept s (length es) (length rs) a) rs es
unfolding step lengths_ok lengths_are created_store
create-left s es rs a = (
  refl,
  split (accepted (create_answer a (lengths_ok (store_of s rs es)))) (λ t. rw t) (λ f. rw
      f),
)
