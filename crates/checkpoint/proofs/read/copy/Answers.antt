-- Assumes nothing.
use Rattle.std.proofs.Common.{arith, ◌≡◌, sym, ◌∙◌, suc, ◌+◌, ◌-◌, ◌*◌}
use Rattle.checkpoint.proofs.Laws.Numbers.{read_next, read-end}
use Rattle.checkpoint.proofs.read.copy.Goals as goal

pub loop-j-init : goal.loop-j-init
loop-j-init c = let a = c.args in let x : a.at + 0 ≡ a.at = omega arith in
    let y : a.from + 8 * 0 ≡ a.from = omega arith in let z : a.count - 0 ≡ a.count = omega arith in rw (x, y, z)

pub loop-j-preserved : goal.loop-j-preserved
loop-j-preserved c = let l = c.loop-j in let a = c.args in
    let n : a.count - l.j ≡ suc (a.count - (l.j + 1)) = omega arith in
    let x : a.at + (l.j + 1) ≡ a.at + l.j + 1 = omega arith in
    let y : a.from + 8 * (l.j + 1) ≡ a.from + 8 * l.j + 8 = omega arith in
    rw (x, y, c.word_at.ensures)
    (read_next 8 (a.count - (l.j + 1)) (a.from + 8 * l.j) (a.at + l.j) a.file.now l.rows (omega arith)
    ∙ (rw n at l.invariant))

pub returns : goal.returns
returns c = let l = c.loop-j in let a = c.args in
    sym (read-end 8 (a.count - l.j) (a.from + 8 * l.j) (a.at + l.j) a.file.now l.rows (omega arith)) ∙ l.invariant
