-- Assumes nothing.
use Rattle.std.proofs.Common.{arith, ◌≡◌, sym, ◌∙◌, suc, ◌+◌, ◌-◌, ◌*◌}
use Rattle.checkpoint.proofs.Laws.Numbers.{write-next, write-end}
use Rattle.checkpoint.proofs.write.copy.Goals as goal

pub loop-j-init : goal.loop-j-init
loop-j-init c = let a = c.args in let x : a.at + 8 * 0 ≡ a.at = omega arith in
    let y : a.from + 0 ≡ a.from = omega arith in let z : a.count - 0 ≡ a.count = omega arith in rw (x, y, z)

pub loop-j-preserved : goal.loop-j-preserved
loop-j-preserved c = let l = c.loop-j in let a = c.args in
    let n : a.count - l.j ≡ suc (a.count - (l.j + 1)) = omega arith in
    let x : a.at + 8 * (l.j + 1) ≡ a.at + 8 * l.j + 8 = omega arith in
    let y : a.from + (l.j + 1) ≡ a.from + l.j + 1 = omega arith in
    rw (x, y, c.put_number.ensures)
    (write-next 8 (a.count - (l.j + 1)) (a.at + 8 * l.j) (a.from + l.j) a.rows.now l.out (omega arith) (omega arith)
    ∙ (rw n at l.invariant))

pub returns : goal.returns
returns c = let l = c.loop-j in let a = c.args in
    sym (write-end 8 (a.count - l.j) (a.at + 8 * l.j) (a.from + l.j) a.rows.now l.out (omega arith)) ∙ l.invariant
