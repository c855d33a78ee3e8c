-- Assumes nothing.
use Rattle.std.proofs.Common.{arith, ◌≡◌, refl, ◌∙◌, add-one}
use Rattle.rules.specs.Limits.{partitions_max}
use Rattle.recovery.specs.Restore.{rows_restored}
use Rattle.recovery.proofs.restore.write_rows.Goals as goal

pub loop-p-init : goal.loop-p-init
unfolding rows_restored
loop-p-init c = refl

pub loop-p-preserved : goal.loop-p-preserved
unfolding rows_restored
loop-p-preserved c = let l = c.loop-p in rw (add-one l.p) (c.copy_rows.ensures ∙ rw l.invariant)

pub returns : goal.returns
returns c = let l = c.loop-p in let all : l.p ≡ partitions_max = omega arith in rw all at l.invariant
