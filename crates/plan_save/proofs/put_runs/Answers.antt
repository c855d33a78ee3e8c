-- Assumes nothing.
use Rattle.std.proofs.Common.{arith, ◌≡◌, ◌≤◌, ◌*◌, ℕ, List, [], sym, ◌∙◌, ap}
use mathlib.Core.List.{foldl}
use lib.ListN.{drop_of_length-le}
use borrow.Author.Tests.{lt-ltb, le-ltb}
use Rattle.rules.specs.Limits.{rows_max, areas_max}
use Rattle.plan_save.specs.Runs.{runs_in}
use Rattle.plan_save.specs.Save.{Put, put_to, run_put, runs_put}
use Rattle.plan_save.proofs.Laws.Words.{runs-next, runs_stop, runs_none}
use Rattle.plan_save.proofs.put_runs.Goals as goal

-- where base is a row of those lent
puts : (base : ℕ) (rows ws : List ℕ) (x : Put) → base ≤ rows_max * areas_max
    → runs_put base rows ws x ≡ foldl (run_put base rows) x (runs_in ws)
unfolding runs_put
puts base rows ws x h = rw (le-ltb (rows_max * areas_max) base h)

pub returns-then-base-gt-ROWS_LENT-clause-end : goal.returns-then-base-gt-ROWS_LENT-clause-end
unfolding runs_put
returns-then-base-gt-ROWS_LENT-clause-end c =
    rw (lt-ltb (rows_max * areas_max) c.args.base c.if-base-gt-ROWS_LENT.true)

pub returns-then-base-gt-ROWS_LENT-clause-bytes : goal.returns-then-base-gt-ROWS_LENT-clause-bytes
unfolding runs_put
returns-then-base-gt-ROWS_LENT-clause-bytes c =
    rw (lt-ltb (rows_max * areas_max) c.args.base c.if-base-gt-ROWS_LENT.true)

pub loop-w-preserved : goal.loop-w-preserved
loop-w-preserved c = let l = c.loop-w in let p = c.put_rows-at.ensures in let k = c.width_in-k.ensures in
    rw (p.end, p.bytes, c.from_in.ensures, k.0)
    (rw (runs-next c.args.ws.now l.w-index (omega arith) (omega arith)) at l.invariant)

-- where no word is left with rows, what is put is what all do
ended : (base : ℕ) (rows ws rest : List ℕ) (x y : Put) → base ≤ rows_max * areas_max → runs_in rest ≡ []
    → foldl (run_put base rows) y (runs_in rest) ≡ foldl (run_put base rows) x (runs_in ws)
    → y ≡ runs_put base rows ws x
ended base rows ws rest x y h n e = (rw n at e) ∙ sym (puts base rows ws x h)

pub returns-after-loop-w-clause-end : goal.returns-after-loop-w-clause-end
returns-after-loop-w-clause-end c = let l = c.loop-w in let ws = c.args.ws.now in
    let none = ap runs_in (drop_of_length-le ws {i = l.w-index} (omega arith)) ∙ runs_none in
    ap (λ (x : Put). x.at) (ended c.args.base c.args.rows.now ws _ _ (put_to l.at l.out) (omega arith) none l.invariant)

pub returns-after-loop-w-clause-bytes : goal.returns-after-loop-w-clause-bytes
returns-after-loop-w-clause-bytes c = let l = c.loop-w in let ws = c.args.ws.now in
    let none = ap runs_in (drop_of_length-le ws {i = l.w-index} (omega arith)) ∙ runs_none in
    ap (λ (x : Put). x.out)
    (ended c.args.base c.args.rows.now ws _ _ (put_to l.at l.out) (omega arith) none l.invariant)

pub returns-then-k-eq0-clause-end : goal.returns-then-k-eq0-clause-end
returns-then-k-eq0-clause-end c = let l = c.loop-w in let ws = c.args.ws.now in let k = c.width_in-k.ensures in
    let none = runs_stop ws l.w-index (omega arith) (omega arith) in
    ap (λ (x : Put). x.at) (ended c.args.base c.args.rows.now ws _ _ (put_to l.at l.out) (omega arith) none l.invariant)

pub returns-then-k-eq0-clause-bytes : goal.returns-then-k-eq0-clause-bytes
returns-then-k-eq0-clause-bytes c = let l = c.loop-w in let ws = c.args.ws.now in let k = c.width_in-k.ensures in
    let none = runs_stop ws l.w-index (omega arith) (omega arith) in
    ap (λ (x : Put). x.out)
    (ended c.args.base c.args.rows.now ws _ _ (put_to l.at l.out) (omega arith) none l.invariant)
