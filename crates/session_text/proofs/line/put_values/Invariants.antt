-- What is left to write are the values that are left, at `end`.
-- Assumes nothing.
use Rattle.std.proofs.Common.{◌≡◌, ◌+◌, ◌≤◌, length, drop}
use Rattle.lists.specs.Lists.{over, gather}
use Rattle.session_text.specs.Print.{spaced}
use Rattle.session_text.proofs.line.put_values.Given as goal

abbrev pub invariant-loop-value : goal.invariant-loop-value
invariant-loop-value l = let left = gather spaced (drop l.value-index l.values) in
    (l.end + length left ≤ length l.out)
    × (l.at + length (gather spaced l.values) ≡ l.end + length left)
    × (over l.at (gather spaced l.values) l.fn.out ≡ over l.end left l.out)
