-- What was summed and what the rows left weigh are the weight of all, and the sum is at most 4,294,967,295 for each row
-- passed.
-- Assumes nothing.
use Rattle.std.proofs.Common.{◌≡◌, ◌+◌, ◌*◌, ◌≤◌, drop}
use Rattle.rules.specs.Weight.{weight}
use Rattle.totals.proofs.weigh.sum.Given as goal

abbrev pub invariant-loop-x : goal.invariant-loop-x
invariant-loop-x l = (l.s + weight (drop l.x-index l.xs) ≡ weight l.xs) × (l.s ≤ 4294967295 * l.x-index)
