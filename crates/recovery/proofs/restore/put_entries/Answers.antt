-- Assumes nothing.
use Rattle.std.proofs.Common.{arith, ◌≡◌, refl, ◌∙◌, add-one, get_or}
use borrow.Author.Tests.{ne_eqb}
use Rattle.rules.specs.Limits.{partitions_max}
use Rattle.recovery.specs.Restore.{entries_restored}
use Rattle.recovery.proofs.restore.put_entries.Goals as goal
use Rattle.recovery.proofs.restore.put_entries.Goals.{then-w-p-gt0, else-w-p-gt0}

pub loop-p-init : goal.loop-p-init
unfolding entries_restored
loop-p-init c = refl

pub loop-p-preserved : goal.loop-p-preserved
unfolding entries_restored
loop-p-preserved c = let l = c.loop-p in
    elim c.if-w-p-gt0.branch [
      | then-w-p-gt0 w ↦
          let some = ne_eqb (get_or c.args.w.counts l.p 0) 0 (λ z. omega (arith, w.if-w-p-gt0.true)) in
          rw (add-one l.p, some, ← l.invariant) (w.entries-is ∙ w.append_entry.ensures)
      | else-w-p-gt0 w ↦ let none : get_or c.args.w.counts l.p 0 ≡ 0 = omega (arith, w.if-w-p-gt0.false) in
          rw (add-one l.p, none, ← l.invariant) w.entries-is
    ]

pub returns : goal.returns
returns c = let l = c.loop-p in let all : l.p ≡ partitions_max = omega arith in rw all at l.invariant
