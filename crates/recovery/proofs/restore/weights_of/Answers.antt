-- Assumes nothing.
use Rattle.std.proofs.Common.{arith, ◌≡◌, refl}
use Rattle.rules.specs.Limits.{partitions_max}
use Rattle.laws.proofs.Laws.Each.{filled_none, filled_next, filled-all}
use Rattle.recovery.proofs.restore.weights_of.Goals as goal

pub loop-p-init : goal.loop-p-init
loop-p-init c = filled_none _ _ _ refl

pub loop-p-preserved : goal.loop-p-preserved
loop-p-preserved c = let l = c.loop-p in
    filled_next _ _ l.totals l.p _ (omega arith) c.weigh.ensures l.invariant

pub returns : goal.returns
returns c = let l = c.loop-p in let all : l.p ≡ partitions_max = omega arith in
    filled-all _ _ l.totals (rw all at l.invariant)
