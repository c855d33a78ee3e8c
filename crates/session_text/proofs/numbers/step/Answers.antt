-- `session_text::numbers::step` meets its contract, by the byte and by whether the value fits.
-- Assumes nothing.
use Rattle.std.proofs.Common.{◌≡◌, sym, ◌∙◌, ap, arith, None, Some}
use Rattle.std.specs.ControlFlow.{continue_value}
use Rattle.std.specs.Option.{unwrap_or}
use Rattle.session_text.specs.Numbers.{grown_by}
use Rattle.session_text.proofs.Laws.Numbers.{step-blank, step_other, step-wide, step-digit}
use Rattle.session_text.proofs.numbers.step.Goals as goal

pub returns-in_err-p : goal.returns-in_err-p
returns-in_err-p c = let e : c.args.p.value ≡ None = c.branch-p.ensures ∙ ap continue_value c.in_err-p.is in
    rw (c.if-byte-eq32.true, step-blank c.args.p, e) c.from_residual.ensures

pub returns-then-byte-eq32 : goal.returns-then-byte-eq32
returns-then-byte-eq32 c =
    let e : c.args.p.value ≡ Some c.in_ok-p.field-0 = c.branch-p.ensures ∙ ap continue_value c.in_ok-p.is in
    rw (c.if-byte-eq32.true, step-blank c.args.p, e)

pub returns-then-not-is_ascii_digit : goal.returns-then-not-is_ascii_digit
returns-then-not-is_ascii_digit c =
    sym (step_other c.args.p c.args.byte c.if-byte-eq32.false (sym c.if-not-is_ascii_digit.ensures.value))

pub returns-in_err-tens : goal.returns-in_err-tens
returns-in_err-tens c = c.from_residual-in_err-tens.ensures ∙ sym (step-wide c.args.p c.args.byte
    (sym c.if-not-is_ascii_digit.ensures.value) (omega (arith, c.in_err-tens.ensures, c.unwrap_or.ensures)))

pub returns-in_err-value : goal.returns-in_err-value
returns-in_err-value c = c.from_residual-in_err-value.ensures ∙ sym (step-wide c.args.p c.args.byte
    (sym c.if-not-is_ascii_digit.ensures.value)
    (omega (arith, c.in_err-value.ensures, c.in_ok-tens.ensures.1, c.unwrap_or.ensures)))

pub returns : goal.returns
returns c =
    let v : c.in_ok-value.value ≡ grown_by (unwrap_or c.args.p.value 0) c.args.byte =
    omega (arith, c.in_ok-value.ensures.1, c.in_ok-tens.ensures.1, c.unwrap_or.ensures) in
    rw v (sym (step-digit c.args.p c.args.byte (sym c.if-not-is_ascii_digit.ensures.value)
    (omega (arith, v, c.in_ok-value.ensures.0, c.in_ok-value.ensures.1))))
