-- What is left to write, at k, are the words at the ones from row i on, as many as have room.
-- Assumes nothing.
use Rattle.std.proofs.Common.{◌≤◌, length}
use Rattle.session_line.proofs.Laws.Shown.{Rest}
use Rattle.session_line.proofs.shown.pick.Given as goal

abbrev pub invariant-loop-i : goal.invariant-loop-i
invariant-loop-i l = (l.k ≤ length l.out) × Rest l.bitmap l.words l.fn.out l.out l.k l.i
