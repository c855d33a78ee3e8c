-- The counts below p are filled in, and the rows are those of the partitions below p. Assumes nothing.
use Rattle.std.proofs.Common.{◌≡◌, ◌*◌, ◌≤◌}
use Rattle.laws.proofs.Laws.Each.{Filled}
use Rattle.plan_save.specs.Runs.{runs_max}
use Rattle.plan_save.proofs.Laws.Words.{size_below, size_at}
use Rattle.plan_save.proofs.sizes_of.Given as goal

abbrev pub invariant-loop-p : goal.invariant-loop-p
invariant-loop-p l =
    (l.rows ≤ 65535 * runs_max * l.p) × (l.rows ≡ size_below l.ws l.p) × Filled 0 (size_at l.ws) l.counts l.p
