-- `visible::pack::pack` meets its contract, byte by byte.
-- Assumes nothing.
use Rattle.std.proofs.Common.{add-one, arith, refl}
use Rattle.rules.specs.Bitmap.{packed}
use Rattle.visible.proofs.Laws.Pack.{pack-next}
use Rattle.visible.proofs.pack.pack.Goals as goal

pub loop-j-init : goal.loop-j-init
unfolding packed
loop-j-init c = refl

pub loop-j-preserved : goal.loop-j-preserved
loop-j-preserved c = let l = c.loop-j in
    rw (c.byte_at.ensures, l.invariant, add-one) (pack-next c.args.shown.now c.args.bitmap.now l.j (omega arith))
