-- `visible::pack::byte_at` meets its contract: each flag goes below those of the byte so far.
-- Assumes nothing.
use Rattle.std.proofs.Common.{◌≡◌, suc, ◌+◌, ◌-◌, ◌*◌, ◌<◌, Bool, true}
use Rattle.std.proofs.Common.{false, cond, take, drop, get_or, sym, refl, arith}
use mir.Val.{bool_byte}
use Rattle.rules.specs.Bitmap.{byte_of}
use Rattle.visible.proofs.Laws.Pack.{byte-cons, byte_fits}
use Rattle.visible.proofs.pack.byte_at.Goals as goal

bit : (b : Bool) → bool_byte b ≡ cond b 1 0
bit true = refl
bit false = refl

-- the byte with one more flag, below the others
made : (c : goal.After-from) → let at = c.args.from + (c.loop-k.k - 1) in
    c.from.result + 2 * c.loop-k.byte ≡ byte_of (take (8 - (c.loop-k.k - 1)) (drop at c.args.shown.now))
made c = let l = c.loop-k in let at = c.args.from + (l.k - 1) in
    let m : 8 - (l.k - 1) ≡ suc (8 - l.k) = omega arith in
    let next : suc at ≡ c.args.from + l.k = omega arith in
    rw (c.from.ensures, bit (get_or c.args.shown.now at false), l.invariant, m)
    (sym (rw next at (byte-cons c.args.shown.now at (8 - l.k) (omega arith))))

small : (c : goal.After-from) → c.from.result + 2 * c.loop-k.byte < 256
small c = let k = c.loop-k.k - 1 in
    rw (made c) (byte_fits (drop (c.args.from + k) c.args.shown.now) (8 - k) (omega arith))

pub loop-k-init : goal.loop-k-init
unfolding byte_of
loop-k-init c = refl

pub overflow_mul-byte : goal.overflow_mul-byte
overflow_mul-byte c = omega (arith, small c)

pub overflow_add-byte : goal.overflow_add-byte
overflow_add-byte c = omega (arith, small c)

pub loop-k-preserved : goal.loop-k-preserved
loop-k-preserved c = made c
