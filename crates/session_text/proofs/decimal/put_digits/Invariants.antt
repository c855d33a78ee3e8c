-- What is left to write are the digits of the rest, and they end before `end`. The measure is the rest.
-- Assumes nothing.
use Rattle.std.proofs.Common.{◌≡◌, ◌+◌, ◌≤◌, ◌<◌, ◌^◌, length}
use Rattle.lists.specs.Lists.{over}
use Rattle.session_text.specs.Print.{decimal}
use Rattle.session_text.proofs.decimal.put_digits.Given as goal

abbrev pub invariant-loop-rest : goal.invariant-loop-rest
invariant-loop-rest l = (l.rest < 2 ^ 64) × (l.end ≤ length l.out)
    × (l.end ≡ l.at + length (decimal l.rest))
    × (over l.at (decimal l.n) l.fn.out ≡ over l.at (decimal l.rest) l.out)

abbrev pub decreases-loop-rest : goal.decreases-loop-rest
decreases-loop-rest l = l.rest
