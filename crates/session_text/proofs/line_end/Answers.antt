-- `session_text::line_end` meets its contract.
-- Assumes nothing.
use Rattle.std.proofs.Common.{drop, sym}
use Rattle.std.proofs.lemmas.List.{take_rest}
use Rattle.session_text.proofs.Laws.Lines.{end-past, end-within, end-position}
use Rattle.session_text.proofs.line_end.Goals as goal

pub returns-then-input-from : goal.returns-then-input-from
returns-then-input-from c = end-past c.args.input.now c.args.from c.if-input-from.true

pub returns : goal.returns
returns c = let input = c.args.input.now in
    rw (c.unwrap_or.ensures, c.first_end.ensures, take_rest input c.args.from, ← end-position (drop c.args.from input))
    (sym (end-within input c.args.from c.if-input-from.false))
