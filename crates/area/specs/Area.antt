-- Where the elements of an area stand among those of all nine, and the entries of one area. 01 "Lots".
-- In order: base_of, place_at, entries_in, area_at. Laws: proofs/Laws/Area.antt.
-- Assumes nothing.
use Rattle.std.specs.Prelude.{◌&&◌, cond, List, ℕ, ◌+◌, ◌*◌, take, ltb}
use Rattle.lists.specs.Lists.{part}
use Rattle.rules.specs.Limits.{areas_max, entries_max}
use Rattle.rules.specs.declared.Entry.{Entry}
use Rattle.rules.specs.declared.Partition.{Partition}
use Rattle.area.specs.declared.Area.{Area}

-- the index of an area's first element, where each has k; of the first area's where it is none of the nine
abbrev pub base_of : ℕ → ℕ → ℕ
base_of k area = cond (ltb area areas_max) (k * area) 0

-- where entry i goes of `count` that are put from index base on; `past` for one that is not in use, or out of range
unfoldable pub place_at : ℕ → ℕ → ℕ → ℕ → ℕ
place_at count base past i =
    cond (ltb i count && (ltb i entries_max && ltb base (entries_max * areas_max))) (base + i) past

-- the entries in use, at most entries_max
abbrev pub entries_in : Area → List Entry
entries_in a = take a.count a.at

-- the entries of partition q
unfoldable pub area_at : List Entry → Partition → Area
area_at es q = record {
  at = part (base_of entries_max q.area) entries_max es;
  count = q.entries;
}
