-- The power is that of so many digits, and n is not below the one before it. The measure is how many digits are left.
-- Assumes nothing.
use Rattle.std.proofs.Common.{◌≡◌, ◌-◌, ◌≤◌, ◌^◌}
use Rattle.session_text.proofs.decimal.digits.Given as goal

abbrev pub invariant-loop-power : goal.invariant-loop-power
invariant-loop-power l =
    (1 ≤ l.count) × (l.count ≤ 19) × (l.power ≡ 10 ^ l.count) × (2 ≤ l.count → 10 ^ (l.count - 1) ≤ l.n)

abbrev pub decreases-loop-power : goal.decreases-loop-power
decreases-loop-power l = 20 - l.count
