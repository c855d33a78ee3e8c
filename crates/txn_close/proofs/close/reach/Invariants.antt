-- LCE, the count and the first open one of the whole pass are those of what is left, from the last epoch passed.
-- Assumes nothing.
use Rattle.std.proofs.Common.{◌≡◌, ◌+◌, [], map, drop}
use Rattle.rules.specs.Manager.{view}
use Rattle.txn_close.specs.Close.{lead, run_lce, first_open}
use Rattle.txn_close.proofs.close.reach.Given as goal

abbrev pub invariant-loop-k : goal.invariant-loop-k
invariant-loop-k l = record {
  lce : run_lce l.lce (map (view []) l.t-items) ≡ run_lce l.last (map (view []) (drop l.k l.t-items));
  count : lead (map (view []) l.t-items) ≡ l.k + lead (map (view []) (drop l.k l.t-items));
  oldest : first_open (map (view []) l.t-items) ≡ first_open (map (view []) (drop l.k l.t-items));
}
