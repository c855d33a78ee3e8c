-- Assumes nothing.
use Rattle.std.proofs.Common.{arith, ◌≡◌, refl, sym, suc, add-one}
use Rattle.rules.specs.Limits.{partitions_max}
use Rattle.laws.proofs.Laws.Each.{filled_none, filled_next, filled-all}
use Rattle.recovery.proofs.Laws.Bodies.{body-next, body_end}
use Rattle.recovery.proofs.restore.bodies_of.Goals as goal

pub loop-p-init : goal.loop-p-init
loop-p-init c = (omega arith, filled_none _ _ _ refl)

-- the next one begins before the end
pub overflow_mul-at : goal.overflow_mul-at
overflow_mul-at c = let l = c.loop-p in let h = c.args.h in
    omega (arith, body-next h l.p, body_end h (suc l.p), c.requires.end_fits)

pub overflow_add-at : goal.overflow_add-at
overflow_add-at c = let l = c.loop-p in let h = c.args.h in
    omega (arith, body-next h l.p, body_end h (suc l.p), c.requires.end_fits, l.invariant.0)

pub loop-p-preserved : goal.loop-p-preserved
loop-p-preserved c = let l = c.loop-p in let h = c.args.h in (
  rw (l.invariant.0, add-one l.p) (sym (body-next h l.p)),
  filled_next _ _ l.bodies l.p _ (omega arith) l.invariant.0 l.invariant.1,
)

pub returns : goal.returns
returns c = let l = c.loop-p in let all : l.p ≡ partitions_max = omega arith in
    filled-all _ _ l.bodies (rw all at l.invariant.1)
