-- Assumes nothing.
use Rattle.std.proofs.Common.{arith, ◌≡◌, suc, ◌+◌, ◌-◌, ◌*◌, drop}
use Rattle.checkpoint.proofs.Laws.Numbers.{weight-next, weight-end}
use Rattle.checkpoint.proofs.read.sum.Goals as goal

pub loop-j-init : goal.loop-j-init
loop-j-init c = let a = c.args in let y : a.from + 8 * 0 ≡ a.from = omega arith in
    let z : a.count - 0 ≡ a.count = omega arith in (omega arith, rw (y, z) (omega arith))

pub loop-j-preserved : goal.loop-j-preserved
loop-j-preserved c = let l = c.loop-j in let a = c.args in
    let n : a.count - l.j ≡ suc (a.count - (l.j + 1)) = omega arith in
    let y : a.from + 8 * (l.j + 1) ≡ a.from + 8 * l.j + 8 = omega arith in let m = rw n at l.invariant.1 in (
      omega arith,
      rw (y, c.word_at.ensures)
          (omega (arith, m, weight-next 8 (a.count - (l.j + 1)) (a.from + 8 * l.j) a.file.now)),
    )

pub returns : goal.returns
returns c = let l = c.loop-j in let a = c.args in
    omega (arith, l.invariant.1, weight-end 8 (a.count - l.j) (drop (a.from + 8 * l.j) a.file.now) (omega arith))
