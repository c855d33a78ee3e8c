-- A partition put in its place, or into the spare area. 01 "Lots".
-- In order: with_partition, moved_to.
-- Assumes nothing.
use Rattle.std.specs.Prelude.{cond, ℕ, get_or, set, ltb}
use Rattle.rules.specs.Limits.{partitions_max}
use Rattle.rules.specs.Store.{no_partition}
use Rattle.rules.specs.declared.Partition.{Partition}
use Rattle.rules.specs.declared.Partitions.{Partitions}

-- q in place p; past the last place nothing changes
abbrev pub with_partition : ℕ → Partition → Partitions → Partitions
with_partition p q ps = record { at = set ps.at p q; spare = ps.spare }

-- partition p in the area that was spare, with so many rows and entries; its old area is the spare
unfoldable pub moved_to : ℕ → ℕ → ℕ → Partitions → Partitions
moved_to p rows entries ps =
    cond (ltb p partitions_max)
    (record {
      at = set ps.at p (record { area = ps.spare; rows = rows; entries = entries });
      spare = (get_or ps.at p no_partition).area;
    })
    ps
