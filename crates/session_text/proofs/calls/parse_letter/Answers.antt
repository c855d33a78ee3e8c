-- `session_text::calls::parse_letter` meets its contract.
-- Assumes nothing.
use Rattle.std.proofs.Common.{get_or, ◌∙◌}
use borrow.Author.Tests.{eq-eqb, ne_eqb}
use Rattle.session_text.proofs.Laws.Calls.{no_bytes, one_byte}
use Rattle.session_text.proofs.calls.parse_letter.Goals as goal

pub returns-then-line-ne1 : goal.returns-then-line-ne1
returns-then-line-ne1 c = no_bytes c.args.line.now c.requires c.if-line-ne1.true

pub returns-then-line-ne66 : goal.returns-then-line-ne66
returns-then-line-ne66 c = let line = c.args.line.now in
    rw (ne_eqb (get_or line 0 0) 66 c.if-line-ne66.true) at (one_byte line c.if-line-ne1.false)

pub returns : goal.returns
returns c = let line = c.args.line.now in c.bare.ensures
    ∙ (rw (eq-eqb (get_or line 0 0) 66 c.if-line-ne66.false) at (one_byte line c.if-line-ne1.false))
