-- `serve::serve` meets its contract: a read leaves what is held, a turn leads on, and the loop ends where none is left.
-- Assumes nothing.
use Rattle.std.proofs.Common.{refl, sym}
use Rattle.lists.proofs.Laws.Bools.{and-false}
use Rattle.serve.proofs.Laws.Turn.{opened-stands}
use Rattle.serve.proofs.Laws.Run.{reached-first, reached-next, run-failed, run-all}
use Rattle.serve.proofs.serve.Goals as goal

pub turns-init : goal.turns-init
turns-init c = let s = c.args.s.now in let o = c.requires.opened in (
  opened-stands s c.args.input.now o,
  rw o.ended (and-false s.reads),
  reached-first s c.args.input.now _ o,
)

pub returns-in_err-send : goal.returns-in_err-send
returns-in_err-send c = let v = c.turns in let q = c.read_more in
    run-failed _ _ _ _
    (reached-next _ v.s v.input _ v.invariant.2 q.new.input q.ensures.same v.invariant.1 _ _ _ _ _ c.turn.ensures) _
    c.from_residual-in_err-send.ensures.0

pub returns-then-is_done : goal.returns-then-is_done
returns-then-is_done c = let v = c.turns in let q = c.read_more in
    run-all _ _ _ _
    (reached-next _ v.s v.input _ v.invariant.2 q.new.input q.ensures.same v.invariant.1 _ _ _ _ _ c.turn.ensures)
    (sym c.if-is_done.ensures) c.turn.ensures.stands

pub turns-preserved : goal.turns-preserved
turns-preserved c = let v = c.turns in let q = c.read_more in (
  c.turn.ensures.stands,
  sym c.if-is_done.ensures,
  reached-next _ v.s v.input _ v.invariant.2 q.new.input q.ensures.same v.invariant.1 _ _ _ _ _ c.turn.ensures,
)

pub returns : goal.returns
returns c = run-failed _ _ _ _ c.turns.invariant.2 _ refl
