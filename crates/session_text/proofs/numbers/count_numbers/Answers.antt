-- `session_text::numbers::count_numbers` meets its contract: what the step at each byte says, and what the end says.
-- Assumes nothing.
use Rattle.std.proofs.Common.{◌≡◌, ◌∙◌, ap, arith, None, Some}
use Rattle.std.specs.ControlFlow.{continue_value}
use Rattle.std.specs.Option.{is_some}
use Rattle.session_text.proofs.Laws.Grammar.{ok-start}
use Rattle.session_text.proofs.Laws.Numbers.{count-stops, count-goes, count-ends, no-count, full-count}
use Rattle.session_text.proofs.numbers.count_numbers.Goals as goal

pub loop-byte-init : goal.loop-byte-init
loop-byte-init c = (omega arith, omega arith, omega arith, ok-start c.args.bytes.now)

pub returns-in_err-p : goal.returns-in_err-p
returns-in_err-p c = let l = c.loop-byte in
    c.from_residual.ensures ∙ no-count c.args.bytes.now
    (count-stops c.args.bytes.now l.p l.byte-index c.loop-byte-test.true l.invariant.1 l.invariant.3 c.in_err-p.ensures)

pub loop-byte-preserved : goal.loop-byte-preserved
loop-byte-preserved c = let l = c.loop-byte in
    let s = count-goes c.args.bytes.now l.p l.byte-index c.loop-byte-test.true l.invariant.1 l.invariant.3 c.in_ok-p.p
    c.in_ok-p.ensures in
    (omega (arith, s.0), s.1, omega (arith, s.2), s.3)

pub returns-in_err-p-2 : goal.returns-in_err-p-2
returns-in_err-p-2 c = let l = c.loop-byte in
    let e : l.p.value ≡ None = c.branch-p-2.ensures ∙ ap continue_value c.in_err-p-2.is in
    let s = count-ends c.args.bytes.now l.p l.byte-index c.loop-byte-test.false l.invariant.1 l.invariant.3 in
    c.from_residual-in_err-p-2.ensures ∙ no-count c.args.bytes.now (s.1 ∙ ap is_some e)

pub returns : goal.returns
returns c = let l = c.loop-byte in
    let e : l.p.value ≡ Some c.in_ok-p-2.field-0 = c.branch-p-2.ensures ∙ ap continue_value c.in_ok-p-2.is in
    let s = count-ends c.args.bytes.now l.p l.byte-index c.loop-byte-test.false l.invariant.1 l.invariant.3 in
    full-count c.args.bytes.now l.p.count (s.1 ∙ ap is_some e) (omega (arith, s.0))
