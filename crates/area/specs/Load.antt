-- One partition's entries out of those lent, and the last of them. 01 "Lots".
-- In order: a partition by its number, its entries, its last entry. Laws: proofs/Laws/Load.antt (of 576 lent entries
-- the area is area_at).
-- Assumes nothing.
use Rattle.std.specs.Prelude.{◌||◌, cond, List, ℕ, ◌+◌, ◌*◌, ◌-◌, get_or, replicate, ltb, leb}
use Rattle.std.specs.Prelude.{Option, None, Some}
use Rattle.rules.specs.Limits.{areas_max, entries_max}
use Rattle.rules.specs.Store.{no_partition}
use Rattle.rules.specs.declared.Entry.{Entry}
use Rattle.rules.specs.declared.Partition.{Partition}
use Rattle.rules.specs.declared.Partitions.{Partitions}
use Rattle.lent.specs.Entries.{none}
use Rattle.lent.specs.Shapes.{loaded}
use Rattle.area.specs.Area.{base_of}
use Rattle.area.specs.declared.Area.{Area}

abbrev pub partition_in : Partitions → ℕ → Partition
partition_in ps p = get_or ps.at p no_partition

-- ---- its entries

unfoldable pub no_entries : List Entry
no_entries = replicate entries_max none

unfoldable pub loaded_area : List Entry → Partitions → ℕ → Area
loaded_area es ps p = record {
  at = loaded no_entries es (base_of entries_max (partition_in ps p).area) entries_max;
  count = (partition_in ps p).entries;
}

-- ---- its last entry

-- its index, where it has one, and its area and count are in range
unfoldable pub last_index : Partition → Option ℕ
last_index q =
    cond (ltb q.entries 1 || ltb entries_max q.entries || leb areas_max q.area) None
    (Some (entries_max * q.area + (q.entries - 1)))

-- the entry at such an index; where there is none, that behind all areas, where more are lent than they have
abbrev pub entry_at : List Entry → Option ℕ → Entry
entry_at es None = get_or es (entries_max * areas_max) none
entry_at es (Some i) = get_or es i none

unfoldable pub last_entry : List Entry → Partitions → ℕ → Entry
last_entry es ps p = entry_at es (last_index (partition_in ps p))
