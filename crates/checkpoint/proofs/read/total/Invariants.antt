-- What is summed and what is left are the sum of all, and it is at most 512 for each count passed. Assumes nothing.
use Rattle.std.proofs.Common.{◌≡◌, ◌+◌, ◌*◌, ◌≤◌, drop}
use Rattle.rules.specs.Limits.{rows_max}
use Rattle.rules.specs.Checkpoint.{sum_of}
use Rattle.checkpoint.proofs.read.total.Given as goal

abbrev pub invariant-loop-n : goal.invariant-loop-n
invariant-loop-n l = (l.sum + sum_of (drop l.n-index l.fn.counts) ≡ sum_of l.fn.counts) × (l.sum ≤ rows_max * l.n-index)
