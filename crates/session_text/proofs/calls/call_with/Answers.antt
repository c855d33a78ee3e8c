-- `session_text::calls::call_with` meets its contract.
-- Assumes nothing.
use Rattle.std.proofs.Common.{◌∙◌}
use Rattle.session_text.proofs.Laws.Calls.{call-one, call-numbers}
use Rattle.session_text.proofs.calls.call_with.Goals as goal

pub returns-then-numbers-eq1 : goal.returns-then-numbers-eq1
returns-then-numbers-eq1 c =
    c.call_of.ensures ∙ call-one c.args.letter c.args.who c.args.numbers.now c.if-numbers-eq1.true

pub returns : goal.returns
returns c = c.call_of-2.ensures ∙ call-numbers c.args.letter c.args.who c.args.numbers.now c.requires
