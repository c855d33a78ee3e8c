-- LCE of the whole pass is that of what is left, from the last LCE passed.
-- Assumes nothing.
use Rattle.std.proofs.Common.{◌≡◌, [], map, drop}
use Rattle.rules.specs.Manager.{view}
use Rattle.txn_close.specs.Close.{lce_after}
use Rattle.txn_close.proofs.lce_after.Given as goal

abbrev pub invariant-loop-t : goal.invariant-loop-t
invariant-loop-t l = lce_after l.waits l.i l.lce (map (view []) l.t-items)
    ≡ lce_after l.waits l.i l.last (map (view []) (drop l.t-index l.t-items))
