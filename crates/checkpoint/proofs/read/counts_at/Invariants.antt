-- With the counts that are left read behind those that are, all are. Assumes nothing.
use Rattle.std.proofs.Common.{◌≡◌, ◌+◌, ◌-◌, ◌*◌, length, drop}
use Rattle.lists.specs.Lists.{over}
use Rattle.rules.specs.Limits.{partitions_max}
use Rattle.rules.specs.Checkpoint.{numbers_in}
use Rattle.checkpoint.proofs.read.counts_at.Given as goal

abbrev pub invariant-loop-k : goal.invariant-loop-k
invariant-loop-k l =
    (length l.counts ≡ partitions_max)
    × (over l.k (numbers_in 2 (partitions_max - l.k) (drop (l.at + 2 * l.k) l.file)) l.counts
    ≡ numbers_in 2 partitions_max (drop l.at l.file))
