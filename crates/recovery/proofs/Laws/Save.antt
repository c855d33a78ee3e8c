-- What a save decides by value is what step leaves. Definitions: plan_save/specs/Save.antt.
-- In order: what a save leaves, what is found before it, a refusal, save-left.
-- Elsewhere: what the plan of a sound store writes (plan_save/proofs/Laws/Planned.antt).
-- Assumes nothing.
use mathlib.Core.Path.{◌≡◌, refl, ap, subst, ◌∙◌}
use mathlib.Core.Bool.{true, false, ◌&&◌}
use mathlib.Core.List.{List}
use Prim.Native.Nat.{ℕ, ◌≤◌}
use native.Mathlib.Omega.{arith}
use lib.ListN.{length, get_or}
use lib.Dec.{ltb, leb}
use borrow.Author.Tests.{ltb-false, leb-true, le-ltb}
use Rattle.std.specs.Prelude.{Result, Ok, Err}
use Rattle.lists.proofs.Laws.All.{All_imp}
use Rattle.lists.proofs.Laws.Bools.{split, and_left, and_right}
use Rattle.rules.specs.Limits.{partitions_max}
use Rattle.rules.specs.Checkpoint.{encoded}
use Rattle.rules.specs.Manager.{manager_in}
use Rattle.rules.specs.Store.{Store, entries_at}
use Rattle.rules.specs.WellFormed.{manager_ok, sound}
use Rattle.rules.specs.Calls.{within}
use Rattle.rules.specs.Recovery.{checkpoint_at, save_answer}
use Rattle.rules.specs.Step.{Outcome, write_outcome, saved_over, step, save}
use Rattle.rules.specs.declared.Answer.TheVariants.{Saved, Refused}
use Rattle.rules.specs.declared.Refusal.{Refusal}
use Rattle.rules.specs.declared.Refusal.TheVariants.{ShortOutput, OutOfRange, Unsound}
use Rattle.rules.specs.declared.Entry.{Entry}
use Rattle.rules.specs.declared.State.{State}
use Rattle.laws.proofs.Laws.Answers.{refused}
use Rattle.laws.proofs.Laws.Totals.{sound-facts}
use Rattle.partition_sound.specs.Asked.{asked_of}
use Rattle.partition_sound.specs.Rest.{low_of, rest_found}
use Rattle.partition_sound.specs.declared.Verdict.{Verdict}
use Rattle.partition_sound.proofs.Laws.Whole.{low-found, rest-whole}
use Rattle.plan_save.specs.Runs.{runs_of}
use Rattle.plan_save.specs.Save.{size_of_runs, save_plan, save_written}
use Rattle.plan_save.specs.declared.Save.{Save}
use Rattle.plan_save.proofs.Laws.Shown.{WholeShown}
use Rattle.plan_save.proofs.Laws.Planned.{plan-size, plan_writes}
use Rattle.store.specs.Kept.{store_of, Showed}
use Rattle.store.proofs.Laws.Kept.{sound-is}

-- what a save of the store st leaves, by what was decided, with this output lent
abbrev pub Leaves : List ℕ → Store → Outcome → Result Save Refusal → Type 0
Leaves lent st out (Ok w) = Showed out (Saved w.size) (save_written w st.rows lent) st
Leaves lent st out (Err why) = Showed out (Refused why) lent st

-- what the test of the lots finds, where nothing lands
abbrev found_in : State → List Entry → List ℕ → Verdict
found_in s es rs = rest_found es rs (asked_of s.clock s.writers s.partitions s.totals)

-- of a sound store a page at e is shown each entry of a partition that is whole by it
whole-shown : (s : State) → length s.partitions.at ≡ partitions_max → (es : List Entry) (rs : List ℕ) (e : ℕ)
    → (found_in s es rs).ok ≡ true → WholeShown (store_of s rs es) (found_in s es rs) e
whole-shown s n es rs e ok p h t =
    let a = asked_of s.clock s.writers s.partitions s.totals in let v = found_in s es rs in
    let x = leb v.low e in let y = ltb p partitions_max in let z = get_or v.whole p false in
    let l : low_of a ≤ e = subst (λ j. j ≤ e) (low-found es rs a partitions_max) (leb-true v.low e
    (and_left x y (and_left (x && y) z t))) in
    All_imp _ _ (λ d g. let k = g.seen in record { some = g.some; seen = omega arith; rows = g.rows })
    (entries_at p (store_of s rs es)) (rest-whole es rs a n ok p h (and_right (x && y) z t))

refused-left : (r : Refusal) (next lent : List ℕ) (st : Store)
    → Leaves lent st (write_outcome (Refused r) next lent st) (Err r)
refused-left r next lent st = rw (refused r) (refl, refl, refl)

pub save-left : (s : State) → length s.partitions.at ≡ partitions_max → (es : List Entry) (rs lent : List ℕ) (e : ℕ)
    → Leaves lent (store_of s rs es) (step (save e lent) (store_of s rs es))
    (let v = found_in s es rs in save_plan s v.ok (runs_of es s.partitions v e).at (length lent) e)
unfolding step save_answer save_plan
save-left s n es rs lent e = let st = store_of s rs es in let v = found_in s es rs in
    let next = saved_over (checkpoint_at e st) lent in
    rw (sound-is s es rs) (split (sound st)
    (λ t. let ok = (sound-facts st n t).shape in
    let whole = whole-shown s n es rs e (and_left v.ok (manager_ok (manager_in s)) (sound-is s es rs ∙ t)) in
    let size = plan-size st ok v e whole in rw t
    (split (within s.clock.lse s.clock.lce e)
    (λ u. split (ltb (length lent) (length (encoded (checkpoint_at e st))))
    (λ f. rw (u, size, f) (refused-left ShortOutput next lent st))
    (λ f. let k = ltb-false (length lent) (length (encoded (checkpoint_at e st))) f in
    let ws = (runs_of es s.partitions v e).at in let l : size_of_runs ws ≤ length lent = omega (arith, size) in
    rw (u, f, le-ltb (length lent) (size_of_runs ws) l) (ap Saved size, plan_writes st ok v e whole lent l, refl)))
    (λ u. rw u (refused-left OutOfRange next lent st))))
    (λ f. rw f (refused-left Unsound next lent st)))
