-- What every call on one partition asks first: 5 and 1, in 01's order. 01 "Refusals".
-- In order: partition_of, admitted, by_admission.
-- Assumes nothing.
use Rattle.std.specs.Prelude.{Bool, not, cond, ℕ, get_or, leb, Result, Ok, Err}
use Rattle.rules.specs.Limits.{partitions_max}
use Rattle.rules.specs.Store.{no_partition}
use Rattle.rules.specs.declared.Refusal.{Refusal}
use Rattle.rules.specs.declared.Refusal.TheVariants.{UnknownPartition, Unsound}
use Rattle.rules.specs.declared.Partition.{Partition}
use Rattle.rules.specs.declared.Partitions.{Partitions}
use Rattle.rules.specs.declared.State.{State}

abbrev pub partition_of : ℕ → State → Partition
partition_of p s = get_or s.partitions.at p no_partition

abbrev pub admitted : Bool → Partitions → ℕ → Result Partition Refusal
admitted sound ps p =
    cond (not sound) (Err Unsound)
    (cond (leb partitions_max p) (Err UnknownPartition)
    (Ok (get_or ps.at p no_partition)))

-- f of the refusal, or g of the partition
abbrev pub by_admission : {A : Type 0} → (Refusal → A) → (Partition → A) → Result Partition Refusal → A
by_admission f g (Err why) = f why
by_admission f g (Ok q) = g q
