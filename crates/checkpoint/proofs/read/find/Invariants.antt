-- What is found in the file is what the search from index i on finds, after header h. The measure is what is left of
-- the file.
-- Assumes nothing.
use Rattle.std.proofs.Common.{◌-◌, ◌≤◌, length}
use Rattle.checkpoint.proofs.Laws.Header.{Sought}
use Rattle.checkpoint.proofs.read.find.Given as goal

abbrev pub invariant-loop-i : goal.invariant-loop-i
invariant-loop-i l = (l.i ≤ length l.file) × Sought l.last l.file l.h l.i

abbrev pub decreases-loop-i : goal.decreases-loop-i
decreases-loop-i l = length l.file - l.i
