-- What was summed and what the rows left weigh are the weight of all, and the sum is at most 4,294,967,295 for each row
-- passed. Assumes nothing.
use Rattle.std.proofs.Common.{◌≡◌, ◌+◌, ◌-◌, ◌*◌, ◌≤◌, drop}
use Rattle.rules.specs.Checkpoint.{numbers_in}
use Rattle.rules.specs.Weight.{weight}
use Rattle.checkpoint.proofs.read.sum.Given as goal

abbrev pub invariant-loop-j : goal.invariant-loop-j
invariant-loop-j l =
    (l.s ≤ 4294967295 * l.j)
    × (l.s + weight (numbers_in 8 (l.count - l.j) (drop (l.from + 8 * l.j) l.file))
    ≡ weight (numbers_in 8 l.count (drop l.from l.file)))
