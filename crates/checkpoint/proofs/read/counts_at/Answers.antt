-- Assumes nothing.
use Rattle.std.proofs.Common.{rules, arith, ◌≡◌, refl, sym, ◌∙◌, suc, ◌+◌, ◌-◌, ◌*◌, replicate}
use Rattle.rules.specs.Limits.{partitions_max}
use Rattle.checkpoint.proofs.Laws.Numbers.{read_all, read_next, read-end}
use Rattle.checkpoint.proofs.read.counts_at.Goals as goal

pub loop-k-init : goal.loop-k-init
loop-k-init c = let a = c.args in let z : a.at + 2 * 0 ≡ a.at = omega arith in
    (refl, rw z (read_all 2 partitions_max a.at a.file.now (replicate partitions_max 0) refl))

pub loop-k-preserved : goal.loop-k-preserved
loop-k-preserved c = let l = c.loop-k in let a = c.args in
    let n : partitions_max - l.k ≡ suc (partitions_max - (l.k + 1)) = omega arith in
    let e : a.at + 2 * (l.k + 1) ≡ a.at + 2 * l.k + 2 = omega arith in (
      search rules,
      rw (e, c.count_at.ensures)
          (read_next 2 (partitions_max - (l.k + 1)) (a.at + 2 * l.k) l.k a.file.now l.counts (omega arith)
          ∙ (rw n at l.invariant.1)),
    )

pub returns : goal.returns
returns c = let l = c.loop-k in let a = c.args in
    sym (read-end 2 (partitions_max - l.k) (a.at + 2 * l.k) l.k a.file.now l.counts (omega arith)) ∙ l.invariant.1
