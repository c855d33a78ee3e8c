-- An area of entries copied out of all entries. Definitions: specs/Area.antt.
-- In order: an area's place among the nine.
-- Assumes nothing.
use Prim.Native.Nat.{ℕ, ◌+◌, ◌*◌, ◌≤◌}
use native.Mathlib.Omega.{arith}
use lib.Dec.{ltb}
use borrow.Author.Tests.{ltb-true}
use Rattle.lists.proofs.Laws.Bools.{split}
use Rattle.rules.specs.Limits.{areas_max, entries_max}
use Rattle.area.specs.Area.{base_of}

-- an area's entries are among those lent
pub base-fits : (area : ℕ) → base_of entries_max area + entries_max ≤ entries_max * areas_max
base-fits area = split (ltb area areas_max)
    (λ t. let g = ltb-true area areas_max t in rw t (omega arith)) (λ f. rw f (omega arith))
