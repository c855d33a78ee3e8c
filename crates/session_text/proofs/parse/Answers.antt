-- `session_text::parse` meets its contract. The tests go by the line's length and its second byte; the rest is
-- parse_letter's and parse_numbers'.
-- Assumes nothing.
use Rattle.std.proofs.Common.{refl}
use Rattle.std.proofs.lemmas.List.{take_rest}
use Rattle.session_text.proofs.Laws.Calls.{long-line, bad-line, short-line, unblank-line, whole-line}
use Rattle.session_text.proofs.parse.Goals as goal

pub returns-then-line-gt-LINE_MAX : goal.returns-then-line-gt-LINE_MAX
returns-then-line-gt-LINE_MAX c = record {
  answer = bad-line c.args.line.now c.args.numbers.now (long-line c.args.line.now c.if-line-gt-LINE_MAX.true);
  words = refl;
}

pub returns-then-line-lt3 : goal.returns-then-line-lt3
returns-then-line-lt3 c = let s = short-line c.args.line.now c.args.numbers.now c.parse_letter.result
    c.if-line-lt3.true c.parse_letter.ensures in record { answer = s.0; words = s.1 }

pub returns-then-line-ne32 : goal.returns-then-line-ne32
returns-then-line-ne32 c = record {
  answer = bad-line c.args.line.now c.args.numbers.now
      (unblank-line c.args.line.now c.if-line-gt-LINE_MAX.false c.if-line-lt3.false c.if-line-ne32.true);
  words = refl;
}

pub returns : goal.returns
returns c = let line = c.args.line.now in
    let s = whole-line line c.args.numbers.now c.parse_numbers.new.numbers c.parse_numbers.result c.from_of.result
    c.if-line-gt-LINE_MAX.false c.if-line-lt3.false c.if-line-ne32.false c.from_of.ensures
    (rw (take_rest line c.from_of.result) at c.parse_numbers.ensures.answer)
    (rw (take_rest line c.from_of.result) at c.parse_numbers.ensures.words) in record { answer = s.0; words = s.1 }
