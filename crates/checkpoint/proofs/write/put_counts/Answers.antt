-- Assumes nothing.
use Rattle.std.proofs.Common.{arith, ◌≡◌, sym, ◌∙◌, suc, ◌+◌, ◌-◌, ◌*◌}
use lib.Seq.{take_all}
use Rattle.rules.specs.Limits.{partitions_max}
use Rattle.checkpoint.proofs.Laws.Numbers.{write-next, write-end}
use Rattle.checkpoint.proofs.write.put_counts.Goals as goal

pub loop-k-init : goal.loop-k-init
loop-k-init c = rw (take_all partitions_max c.args.counts (omega arith))

pub loop-k-preserved : goal.loop-k-preserved
loop-k-preserved c = let l = c.loop-k in let a = c.args in
    let n : partitions_max - l.k ≡ suc (partitions_max - (l.k + 1)) = omega arith in
    let x : 8 + 2 * (l.k + 1) ≡ 8 + 2 * l.k + 2 = omega arith in
    rw (x, c.put_number.ensures)
    (write-next 2 (partitions_max - (l.k + 1)) (8 + 2 * l.k) l.k a.counts l.out (omega arith) (omega arith)
    ∙ (rw n at l.invariant))

pub returns : goal.returns
returns c = let l = c.loop-k in let a = c.args in
    sym (write-end 2 (partitions_max - l.k) (8 + 2 * l.k) l.k a.counts l.out (omega arith)) ∙ l.invariant
