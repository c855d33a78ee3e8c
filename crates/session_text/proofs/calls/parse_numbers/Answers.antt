-- `session_text::calls::parse_numbers` meets its contract. Each test that fails is one by which the line is no call or
-- has no room; after them its numbers are written.
-- Assumes nothing.
use Rattle.std.proofs.Common.{◌≤◌, sym, ◌∙◌, ap, arith, length}
use Rattle.std.proofs.Math.Seq.{length-take-le}
use Rattle.session_text.specs.Grammar.{is_call, numbers_of}
use Rattle.session_text.proofs.Laws.Calls.{some-numbers, some-counted, some-count}
use Rattle.session_text.proofs.Laws.Calls.{other_letter, call_line}
use Rattle.session_text.proofs.calls.parse_numbers.Goals as goal

pub call_of-requires : goal.call_of-requires
call_of-requires c = some-count c.args.bytes.now c.in_ok-count.count c.in_ok-count.ensures

pub returns-in_err-call_of-clause-answer : goal.returns-in_err-call_of-clause-answer
returns-in_err-call_of-clause-answer c = let bs = c.args.bytes.now in let k = c.in_ok-count in
    c.from_residual-in_err-call_of.ensures ∙ other_letter c.args.letter c.args.who bs c.args.numbers.now k.count
    (some-numbers bs k.count k.ensures) (some-counted bs k.count k.ensures) (ap is_call (sym c.in_err-call_of.ensures))

pub call_with-requires : goal.call_with-requires
call_with-requires c = let bs = c.args.bytes.now in let k = c.in_ok-count in
    let room : k.count ≤ length c.put_numbers.new.numbers = omega arith in
    rw (length-take-le k.count c.put_numbers.new.numbers room) (some-count bs k.count k.ensures)

pub returns : goal.returns
returns c = let bs = c.args.bytes.now in let k = c.in_ok-count in let n = some-counted bs k.count k.ensures in
    let room : length (numbers_of bs) ≤ length c.args.numbers.now = omega arith in
    let s = call_line c.args.letter c.args.who bs c.args.numbers.now k.count (some-numbers bs k.count k.ensures) n
    c.call_with.result c.put_numbers.new.numbers room (ap is_call (sym c.in_ok-call_of.ensures)) c.put_numbers.ensures
    c.call_with.ensures in record { answer = s.0; words = s.1 }
