-- Where the entries of a partition (01: lot) begin and end among those of all areas: nowhere where its numbers are out
-- of range.
-- Assumes nothing.
use Rattle.std.specs.Prelude.{Bool, ◌&&◌, cond, ℕ, ◌+◌, ◌*◌, ltb, leb}
use Rattle.rules.specs.Limits.{entries_max, areas_max}
use Rattle.rules.specs.declared.Partition.{Partition}

-- an area of the nine, and at most 64 entries
abbrev pub in_place : Partition → Bool
in_place q = ltb q.area areas_max && leb q.entries entries_max

unfoldable pub from_of : Partition → ℕ
from_of q = cond (in_place q) (entries_max * q.area) 0

unfoldable pub to_of : Partition → ℕ
to_of q = cond (in_place q) (entries_max * q.area + q.entries) 0
