-- `serve::turn::turn` meets its contract: what is taken in is what was held and what came, and `answer` answers that.
-- Assumes nothing.
use Rattle.std.proofs.Common.{◌≡◌, ◌∙◌, ap, drop}
use Rattle.serve.specs.Turn.{ended_by}
use Rattle.serve.proofs.Laws.Turn.{turned}
use Rattle.serve.proofs.turn.turn.Goals as goal
use Rattle.serve.proofs.turn.turn.Goals.{then-s, else-s}

pub returns : goal.returns
returns c = let s = c.args.s in
    let e : c.if-s.ended ≡ ended_by s c.args.count =
    elim c.if-s.branch [ then-s w ↦ rw (w.ended-is, w.if-s.true) | else-s w ↦ rw (w.ended-is, w.if-s.false) ] in
    turned s c.args.count c.args.input.now c.requires.standing _ _ _ _ _ _
    (ap (drop s.from) c.take_in-end.ensures.input_after) (c.answer.ensures.ended_value ∙ e) c.answer.ensures.answered
