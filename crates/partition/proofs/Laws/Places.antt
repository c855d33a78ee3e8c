-- How many places the partitions have, from what a function is told of its parameters.
-- Assumes nothing.
use mathlib.Core.Path.{◌≡◌}
use mathlib.Core.List.{List}
use lib.ListN.{length}
use mir.Val.{Val}
use denote.Laws.{Is}
use denote.Struct.Declared.{row}
use Rattle.rules.specs.Limits.{partitions_max}
use Rattle.rules.specs.declared.Partitions.{Partitions}
use Rattle.rules.specs.contracts.Partitions as partitions-type

pub partitions_8 : (x : Partitions) (vs : List Val) → Is (row partitions-type.the_type) x vs
    → length x.at ≡ partitions_max
partitions_8 x vs g = g.1.1.0.1.0.1
