-- With the rows that are left written behind those that are, all are. Assumes nothing.
use Rattle.std.proofs.Common.{◌≡◌, ◌+◌, ◌-◌, ◌*◌}
use Rattle.lists.specs.Lists.{gather, part, over}
use Rattle.rules.specs.Checkpoint.{bytes_of}
use Rattle.checkpoint.proofs.write.copy.Given as goal

abbrev pub invariant-loop-j : goal.invariant-loop-j
invariant-loop-j l =
    over (l.at + 8 * l.j) (gather (bytes_of 8) (part (l.from + l.j) (l.count - l.j) l.rows)) l.out
    ≡ over l.at (gather (bytes_of 8) (part l.from l.count l.rows)) l.fn.out
