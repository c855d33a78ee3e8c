-- `rewrite_plan::purge_plan` meets its contract, place by place.
-- Assumes nothing.
use Rattle.visible.specs.View.{sees_view}
use Rattle.visible.specs.Passes.{as_top}
use Rattle.rewrite_plan.proofs.Laws.Plan.{purge-next, purge-all}
use Rattle.rewrite_plan.proofs.purge_plan.Goals as goal

pub loop-k-preserved : goal.loop-k-preserved
unfolding sees_view
loop-k-preserved c = let e = c.entries-es.ensures in let l = c.loop-k in
    rw (l.invariant, c.purge_epoch.ensures, ← e.value)
    (purge-next c.entries-es.result.now e.few c.args.l l.k c.loop-k-test.true
    (as_top c.find_top-top.result) c.find_top-top.ensures)

pub returns : goal.returns
returns c = let e = c.entries-es.ensures in let l = c.loop-k in
    rw (l.invariant, ← e.value, purge-all c.entries-es.result.now l.k c.loop-k-test.false c.args.l)
