-- What is summed and the runs left are those of all, and it is at most 65,535 for each word passed. Assumes nothing.
use Rattle.std.proofs.Common.{◌≡◌, ◌+◌, ◌*◌, ◌≤◌, drop}
use Rattle.plan_save.specs.Runs.{runs_in, size_of}
use Rattle.plan_save.proofs.size_of.Given as goal

abbrev pub invariant-loop-w : goal.invariant-loop-w
invariant-loop-w l =
    (l.n ≤ 65535 * l.w-index) × (l.n + size_of (runs_in (drop l.w-index l.ws)) ≡ size_of (runs_in l.ws))
