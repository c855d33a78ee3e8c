-- With the counts that are left written behind those that are, all are. Assumes nothing.
use Rattle.std.proofs.Common.{◌≡◌, ◌+◌, ◌-◌, ◌*◌}
use Rattle.lists.specs.Lists.{gather, part, over}
use Rattle.rules.specs.Limits.{partitions_max}
use Rattle.rules.specs.Checkpoint.{bytes_of}
use Rattle.checkpoint.proofs.write.put_counts.Given as goal

abbrev pub invariant-loop-k : goal.invariant-loop-k
invariant-loop-k l =
    over (8 + 2 * l.k) (gather (bytes_of 2) (part l.k (partitions_max - l.k) l.counts)) l.out
    ≡ over 8 (gather (bytes_of 2) l.counts) l.fn.out
