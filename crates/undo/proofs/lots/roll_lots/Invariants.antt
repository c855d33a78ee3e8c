-- The partitions below p are rolled back.
-- Assumes nothing.
use Rattle.std.proofs.Common.{◌≡◌}
use Rattle.undo.specs.Lots.{rolling_of, rolling_below}
use Rattle.undo.proofs.lots.roll_lots.Given as goal

abbrev pub invariant-loop-p : goal.invariant-loop-p
invariant-loop-p l =
    rolling_of l.entries l.rows l.places
    ≡ rolling_below l.go l.i l.p (rolling_of l.initial.entries l.initial.rows l.fn.ps)
