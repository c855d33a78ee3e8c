-- `session_text::line::put_parts` meets its contract.
-- Assumes nothing.
use Rattle.session_text.proofs.Laws.Lines.{parts-line}
use Rattle.session_text.proofs.line.put_parts.Goals as goal

pub returns : goal.returns
returns c = let a = c.args in let r = c.put_number-after in let w = c.put_values-end in
    parts-line a.letter a.number a.values.now a.out.now r.new.out w.new.out r.result w.result c.requires r.ensures.0
    r.ensures.1 w.ensures.0 w.ensures.1
