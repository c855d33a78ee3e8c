-- The partitions below p are filled in. Assumes nothing.
use Rattle.rules.specs.Store.{no_partition}
use Rattle.laws.proofs.Laws.Each.{Filled}
use Rattle.recovery.specs.Restore.{partition_for}
use Rattle.recovery.proofs.restore.partitions_of.Given as goal

abbrev pub invariant-loop-p : goal.invariant-loop-p
invariant-loop-p l = Filled no_partition (partition_for l.counts) l.at l.p
