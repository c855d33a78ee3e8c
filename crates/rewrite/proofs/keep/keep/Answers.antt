-- `rewrite::keep::keep` meets its contract: the entries are kept in their turns.
-- Assumes nothing.
use Rattle.std.proofs.Common.{refl, arith}
use Rattle.rewrite_plan.proofs.Laws.Plan.{plan-length}
use Rattle.rewrite.proofs.Laws.Kept.{kept-none, kept-turn, kept-all}
use Rattle.rewrite.proofs.keep.keep.Goals as goal

pub loop-k-init : goal.loop-k-init
loop-k-init c = kept-none c.args.plan.at c.args.es.now (plan-length c.args.plan _ c.well_formed.1.0) c.requires.0 _ refl
    c.requires.1

pub step-last-requires : goal.step-last-requires
step-last-requires c = let t = kept-turn c.loop-k.invariant c.loop-k-test.true in (t.count, t.begins, t.rows)

pub offset_bounds-at-last : goal.offset_bounds-at-last
offset_bounds-at-last c = let t = kept-turn c.loop-k.invariant c.loop-k-test.true in
    rw c.step-last.ensures (omega (arith, t.place))

pub bounds-at-last : goal.bounds-at-last
bounds-at-last c = rw c.step-last.ensures (kept-turn c.loop-k.invariant c.loop-k-test.true).place

pub loop-k-preserved : goal.loop-k-preserved
loop-k-preserved c = rw c.step-last.ensures (kept-turn c.loop-k.invariant c.loop-k-test.true).next

pub returns : goal.returns
returns c = kept-all c.loop-k.invariant c.loop-k-test.false
