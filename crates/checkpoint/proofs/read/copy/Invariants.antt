-- With the rows that are left written behind those that are, all are. Assumes nothing.
use Rattle.std.proofs.Common.{◌≡◌, ◌+◌, ◌-◌, ◌*◌, drop}
use Rattle.lists.specs.Lists.{over}
use Rattle.rules.specs.Checkpoint.{numbers_in}
use Rattle.checkpoint.proofs.read.copy.Given as goal

abbrev pub invariant-loop-j : goal.invariant-loop-j
invariant-loop-j l =
    over (l.at + l.j) (numbers_in 8 (l.count - l.j) (drop (l.from + 8 * l.j) l.file)) l.rows
    ≡ over l.at (numbers_in 8 l.count (drop l.from l.file)) l.fn.rows
