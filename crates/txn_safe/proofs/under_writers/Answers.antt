-- Assumes nothing.
use Rattle.std.proofs.Common.{◌≡◌, ◌∙◌, ◌≤◌, sym, refl, length, take, arith}
use lib.ListN.{length-take}
use borrow.Author.Tests.{eq-eqb, ne_eqb}
use Rattle.lists.proofs.Laws.Places.{take-used}
use Rattle.rules.specs.Limits.{writers_max}
use Rattle.txn_find.proofs.Laws.Places.{writers_32}
use Rattle.txn_safe.specs.Safe.{under_deps}
use Rattle.txn_safe.proofs.Laws.Rows.{lowest-views, views-end}
use Rattle.txn_safe.proofs.under_writers.Goals as goal
use Rattle.txn_safe.proofs.under_writers.Goals.{then-x-eq0, else-x-eq0}

pub loop-i-init : goal.loop-i-init
loop-i-init c = refl

pub loop-i-preserved : goal.loop-i-preserved
loop-i-preserved c =
    let ts = c.args.ts in let xs = take c.min-n.result ts.at in let ds = c.args.deps.now in
    let few : length xs ≤ writers_max = omega (arith, length-take c.min-n.result ts.at) in
    let next = lowest-views ds xs few c.loop-i.i c.loop-i-test.true c.loop-i.low under_deps in
    elim c.if-x-eq0.branch [
      | then-x-eq0 w ↦ c.loop-i.invariant ∙ next
          ∙ rw (w.low-is, w.under_row-low.ensures, eq-eqb _ _ w.if-x-eq0.true, w.row_of.ensures)
      | else-x-eq0 w ↦ c.loop-i.invariant ∙ next ∙ rw (w.low-is, ne_eqb _ _ w.if-x-eq0.false)
    ]

pub returns : goal.returns
returns c =
    let ts = c.args.ts in let xs = take c.min-n.result ts.at in let ds = c.args.deps.now in
    let e : xs ≡ take ts.count ts.at =
    rw c.min-n.ensures (take-used ts.at ts.count writers_max (writers_32 ts _ c.well_formed.0)) in
    rw (← e) (sym (c.loop-i.invariant ∙ rw (views-end ds xs c.loop-i.i c.loop-i-test.false)))
