-- One partition's entries out of those lent: of 576 they are the area's, and the last is the one at its index.
-- Definitions: specs/Load.antt.
-- Assumes nothing.
use mathlib.Core.Path.{◌≡◌, refl}
use mathlib.Core.List.{List}
use Prim.Native.Nat.{ℕ, ◌+◌, ◌*◌, ◌-◌, ◌≤◌, ◌<◌}
use native.Mathlib.Omega.{arith}
use lib.ListN.{length, get_or}
use borrow.Author.Tests.{le-ltb, lt-leb}
use Rattle.rules.specs.Limits.{areas_max, entries_max}
use Rattle.rules.specs.declared.Entry.{Entry}
use Rattle.rules.specs.declared.Partitions.{Partitions}
use Rattle.lent.specs.Entries.{none}
use Rattle.lent.proofs.Loaded.{loaded-part}
use Rattle.area.specs.Area.{base_of, area_at}
use Rattle.area.specs.Load.{partition_in, no_entries, loaded_area, last_index, last_entry}
use Rattle.area.proofs.Laws.Area.{base-fits}

blank-length : length no_entries ≡ entries_max
unfolding no_entries
blank-length = refl

module _ (es : List Entry) (len : length es ≡ entries_max * areas_max) (ps : Partitions) (p : ℕ) where
  pub loaded-area : loaded_area es ps p ≡ area_at es (partition_in ps p)
  unfolding loaded_area area_at
  loaded-area = let q = partition_in ps p in let b = base_of entries_max q.area in let f = base-fits q.area in
      rw (loaded-part no_entries es b entries_max blank-length (omega arith))

  -- where there is one
  pub last-entry-at : 0 < (partition_in ps p).entries → (partition_in ps p).entries ≤ entries_max
      → (partition_in ps p).area < areas_max
      → last_entry es ps p ≡ get_or es (entries_max * (partition_in ps p).area + ((partition_in ps p).entries - 1)) none
  unfolding last_entry last_index
  last-entry-at a b c = let q = partition_in ps p in
      rw (le-ltb q.entries 1 (omega arith), le-ltb entries_max q.entries b, lt-leb areas_max q.area c)
