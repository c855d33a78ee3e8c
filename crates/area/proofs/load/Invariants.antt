-- The entries before i are read.
-- Assumes nothing.
use Rattle.std.proofs.Common.{◌≡◌}
use Rattle.lent.specs.Shapes.{loaded}
use Rattle.area.specs.Load.{no_entries}
use Rattle.area.proofs.load.Given as goal

abbrev pub invariant-loop-i : goal.invariant-loop-i
invariant-loop-i l = l.at ≡ loaded no_entries l.entries l.base l.i
