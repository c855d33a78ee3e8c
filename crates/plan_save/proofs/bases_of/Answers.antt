-- Assumes nothing.
use Rattle.std.proofs.Common.{arith, ◌≡◌, refl}
use Rattle.rules.specs.Limits.{partitions_max}
use Rattle.laws.proofs.Laws.Each.{filled_none, filled_next, filled-all}
use Rattle.plan_save.specs.Save.{bases_of}
use Rattle.plan_save.proofs.bases_of.Goals as goal

pub loop-p-init : goal.loop-p-init
loop-p-init c = filled_none _ _ _ refl

pub loop-p-preserved : goal.loop-p-preserved
loop-p-preserved c = let l = c.loop-p in
    filled_next _ _ l.bases l.p _ (omega arith) (rw (c.row_base.ensures, c.partition_at.ensures)) l.invariant

pub returns : goal.returns
unfolding bases_of
returns c = let l = c.loop-p in let all : l.p ≡ partitions_max = omega arith in
    filled-all _ _ l.bases (rw all at l.invariant)
