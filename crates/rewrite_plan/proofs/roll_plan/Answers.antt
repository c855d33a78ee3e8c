-- `rewrite_plan::roll_plan` meets its contract, place by place.
-- Assumes nothing.
use Rattle.rewrite_plan.proofs.Laws.Plan.{roll-next, roll-all}
use Rattle.rewrite_plan.proofs.roll_plan.Goals as goal

pub loop-k-preserved : goal.loop-k-preserved
loop-k-preserved c = let e = c.entries-es.ensures in let l = c.loop-k in
    rw (l.invariant, c.roll_epoch.ensures, ← e.value)
    (roll-next c.entries-es.result.now e.few c.args.i l.k c.loop-k-test.true)

pub returns : goal.returns
returns c = let e = c.entries-es.ensures in let l = c.loop-k in
    rw (l.invariant, ← e.value, roll-all c.entries-es.result.now l.k c.loop-k-test.false c.args.i)
