-- `session_text::decimal::digits` meets its contract.
-- Assumes nothing.
use Rattle.std.proofs.Common.{◌≡◌, ◌+◌, ◌-◌, ◌≤◌, ◌^◌, arith}
use native.Mathlib.Nat.{pow-le-pow_right}
use Rattle.session_text.proofs.Laws.Print.{length-between, power-next}
use Rattle.session_text.proofs.decimal.digits.Goals as goal

pub returns-then-count-eq-DIGITS_MAX : goal.returns-then-count-eq-DIGITS_MAX
returns-then-count-eq-DIGITS_MAX c = let l = c.loop-power in
    let e : l.count ≡ 19 = omega arith in
    let g : 10 ^ 19 ≤ c.args.n = rw e at (rw l.invariant.2 at c.loop-power-test.true) in
    rw e (length-between 20 c.args.n (omega arith) (λ h. g) (omega arith) (omega arith))

pub overflow_mul-power : goal.overflow_mul-power
overflow_mul-power c = let l = c.loop-power in
    let g : 10 ^ l.count ≤ 10 ^ 18 = pow-le-pow_right (omega arith) {i = l.count} {j = 18} (omega arith) in
    let e = l.invariant.2 in record { fits = omega arith }

pub loop-power-preserved : goal.loop-power-preserved
loop-power-preserved c = let l = c.loop-power in let e : l.count + 1 - 1 ≡ l.count = omega arith in (
  omega arith,
  omega arith,
  rw l.invariant.2 (power-next l.count),
  λ h. rw (e, ← l.invariant.2) c.loop-power-test.true,
)

pub returns : goal.returns
returns c = let l = c.loop-power in
    length-between l.count c.args.n l.invariant.0 l.invariant.3 (rw (← l.invariant.2) c.loop-power-test.false)
    (omega arith)
