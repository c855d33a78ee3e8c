-- What a call answers and keeps, of the books and its plan. Where a plan names a place that there is not, no partition
-- changes.
-- Assumes nothing.
use Rattle.rules.specs.Store.{with_partitions_in}
use Rattle.rules.specs.declared.Answer.{Answer}
use Rattle.rules.specs.declared.Partitions.{Partitions}
use Rattle.rules.specs.declared.State.{State}
use Rattle.partition.specs.Areas.{with_partition}
use Rattle.plan_write.specs.declared.Write.{Write}
use Rattle.rules.specs.declared.Kept.{Kept}

-- the books with the partition of the plan in its place
abbrev pub done_write : State → Write → State
done_write s w = with_partitions_in (with_partition w.place w.partition s.partitions) s

-- the books with the partitions that a purge or a roll back left
abbrev pub done_rewrite : State → Partitions → Answer → Kept
done_rewrite s ps answer = record { state = with_partitions_in ps s; answer = answer }
