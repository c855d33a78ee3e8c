-- `session_text::decimal::put_digits` meets its contract.
-- Assumes nothing.
use Rattle.std.proofs.Common.{◌≡◌, ◌+◌, ◌-◌, ◌/◌, length, length-set, sym, ◌∙◌, arith}
use Rattle.session_text.specs.Print.{decimal}
use Rattle.session_text.proofs.Laws.Print.{decimal-some, length_large, put_next, put_last}
use Rattle.session_text.proofs.decimal.put_digits.Goals as goal

pub overflow_sub-end : goal.overflow_sub-end
overflow_sub-end c = omega (arith, decimal-some c.loop-rest.rest)

pub bounds-out-end : goal.bounds-out-end
bounds-out-end c = omega (arith, decimal-some c.loop-rest.rest)

pub loop-rest-preserved : goal.loop-rest-preserved
loop-rest-preserved c = let l = c.loop-rest in let n = l.rest in
    let one = length_large n c.loop-rest-test.true l.invariant.0 in
    let e : l.end - 1 ≡ c.args.at + length (decimal (n / 10)) = omega arith in (
      omega arith,
      simp length-set (omega arith),
      e,
      rw e (l.invariant.3 ∙ put_next c.args.at n l.out c.loop-rest-test.true l.invariant.0 (omega arith)),
    )

pub bounds-out-at : goal.bounds-out-at
bounds-out-at c = omega (arith, decimal-some c.loop-rest.rest)

pub returns : goal.returns
returns c = let l = c.loop-rest in
    sym (l.invariant.3 ∙ put_last c.args.at l.rest l.out c.loop-rest-test.false (omega (arith, decimal-some l.rest)))
