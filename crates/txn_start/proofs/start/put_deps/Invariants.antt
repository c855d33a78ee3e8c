-- The epochs of the records passed are in place.
-- Assumes nothing.
use Rattle.std.proofs.Common.{◌≤◌, ◌*◌}
use Rattle.rules.specs.Limits.{deps_max}
use Rattle.txn_start.proofs.Laws.Begin.{Filled}
use Rattle.txn_start.proofs.start.put_deps.Given as goal

abbrev pub invariant-loop-t : goal.invariant-loop-t
invariant-loop-t l = record {
  few : l.k ≤ l.t-index;
  filled : Filled l.t-items l.initial.deps (deps_max * l.n) l.t-index l.deps l.k;
}
