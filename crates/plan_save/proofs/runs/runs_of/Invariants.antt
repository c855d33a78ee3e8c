-- Outer: the partitions below p are gone over. Inner: of partition p the entries before i.
-- Assumes nothing.
use Rattle.std.proofs.Common.{◌-◌, ◌≡◌, ◌≤◌}
use Rattle.lent.specs.Shapes.{turned}
use Rattle.plan_save.specs.Runs.{Laid, first_of, laid_turn, laid_below}
use Rattle.plan_save.proofs.runs.runs_of.Given as goal

abbrev pub invariant-loop-p : goal.invariant-loop-p
invariant-loop-p l = l.a ≡ laid_below l.entries l.fn.ps l.fn.found l.fn.e l.p

abbrev pub invariant-loop-i : goal.invariant-loop-i
invariant-loop-i l =
    (l.i - l.from ≤ l.to - l.from)
    × (◌≡◌ {A = Laid} (record { pending = l.s; words = l.a })
    (turned (laid_turn l.cut) (record { pending = first_of l.p; words = l.initial.a }) l.entries l.from (l.i - l.from)))
