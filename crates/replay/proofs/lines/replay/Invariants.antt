-- The lines before the cursor are answered: the invariant stands in Laws/Turn.antt. The measure is what is left of the
-- input.
-- Assumes nothing.
use Rattle.std.proofs.Common.{◌-◌, length}
use Rattle.replay.proofs.Laws.Turn.{Inv}
use Rattle.replay.proofs.lines.replay.Given as goal

abbrev pub invariant-loop-at : goal.invariant-loop-at
invariant-loop-at l =
    Inv l.input l.fn.state l.fn.table.at l.fn.rows l.fn.numbers l.fn.out (record {
      state = l.books;
      entries = l.entries;
      rows = l.rows;
      numbers = l.numbers;
      out = l.out;
      at = l.at;
    })

abbrev pub decreases-loop-at : goal.decreases-loop-at
decreases-loop-at l = length l.input - l.at.used
