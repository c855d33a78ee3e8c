-- Assumes nothing.
use Rattle.std.proofs.Common.{arith, ◌≡◌, refl, ap, List}
use Rattle.rules.specs.Limits.{partitions_max}
use Rattle.rules.specs.declared.Partition.{Partition}
use Rattle.laws.proofs.Laws.Each.{filled_none, filled-all}
use Rattle.recovery.proofs.restore.partitions_of.Goals as goal

pub loop-p-init : goal.loop-p-init
loop-p-init c = filled_none _ _ _ refl

pub returns : goal.returns
returns c = let l = c.loop-p in let all : l.p ≡ partitions_max = omega arith in
    ap (λ (at : List Partition). record { at = at; spare = partitions_max })
    (filled-all _ _ l.at (rw all at l.invariant))
