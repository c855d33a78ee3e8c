-- `dep_blocks` looks through the row of each open record, and leaves both loops at the first dep at or below t.
-- Assumes nothing.
use Rattle.std.proofs.Common.{◌≡◌, ◌∙◌, ◌≤◌, sym, length, take, arith}
use lib.ListN.{length-take, drop_of_length-le}
use borrow.Author.Tests.{eq-eqb, ne_eqb, le-leb}
use Rattle.lists.proofs.Laws.Places.{take-used, from_next}
use Rattle.rules.specs.Limits.{writers_max}
use Rattle.txn_find.proofs.Laws.Places.{writers_32}
use Rattle.txn_safe.proofs.Laws.Rows.{views-next, views-end}
use Rattle.txn_safe.proofs.dep_blocks.Goals as goal
use Rattle.txn_safe.proofs.dep_blocks.Goals.{then-x-eq0+else-loop-d-test, else-x-eq0}

pub writers-preserved : goal.writers-preserved
writers-preserved c =
    let ts = c.args.ts in let xs = take c.min-n.result ts.at in let ds = c.args.deps.now in
    let few : length xs ≤ writers_max = omega (arith, length-take c.min-n.result ts.at) in
    let next = views-next ds xs few c.writers.i c.writers-test.true in let o = c.writers.invariant in
    elim c.if-x-eq0.branch [
      | then-x-eq0+else-loop-d-test w ↦ (
        w.held-is ∙ w.loop-d.invariant.0,
        o.1 ∙ rw (
          next,
          eq-eqb _ _ w.if-x-eq0.true,
          ← w.row_of-row.ensures,
          w.loop-d.invariant.1,
          drop_of_length-le w.row_of-row.result.now {i = w.loop-d.d-index} (omega (arith, w.loop-d-test.false)),
        ),
      )
      | else-x-eq0 w ↦ (w.held-is ∙ o.0, o.1 ∙ rw (next, ne_eqb _ _ w.if-x-eq0.false))
    ]

pub returns-after-writers : goal.returns-after-writers
returns-after-writers c =
    let ts = c.args.ts in let xs = take c.min-n.result ts.at in let ds = c.args.deps.now in
    let e : xs ≡ take ts.count ts.at =
    rw c.min-n.ensures (take-used ts.at ts.count writers_max (writers_32 ts _ c.well_formed.0)) in
    let o = c.writers.invariant in
    rw (← e) (o.0 ∙ sym (o.1 ∙ rw (views-end ds xs c.writers.i c.writers-test.false)))

pub returns-then-d-t : goal.returns-then-d-t
returns-then-d-t c =
    let ts = c.args.ts in let xs = take c.min-n.result ts.at in let ds = c.args.deps.now in
    let few : length xs ≤ writers_max = omega (arith, length-take c.min-n.result ts.at) in
    let e : xs ≡ take ts.count ts.at =
    rw c.min-n.ensures (take-used ts.at ts.count writers_max (writers_32 ts _ c.well_formed.0)) in
    let row = c.row_of-row.result.now in
    rw (← e) (sym (c.writers.invariant.1 ∙ rw (
      views-next ds xs few c.writers.i c.writers-test.true,
      eq-eqb _ _ c.if-x-eq0.true,
      ← c.row_of-row.ensures,
      c.loop-d.invariant.1,
      from_next row 0 c.loop-d.d-index c.loop-d-test.true,
      le-leb _ _ c.if-d-t.true,
    )))
