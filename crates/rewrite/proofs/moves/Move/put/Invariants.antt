-- The entries from i on are still to be put.
-- Assumes nothing.
use Rattle.std.proofs.Common.{◌≡◌, ◌+◌, drop}
use Rattle.rewrite.specs.Move.{puts_from, entries_moved}
use Rattle.rewrite.proofs.moves.Move.put.Given as goal

abbrev pub invariant-loop-i : goal.invariant-loop-i
invariant-loop-i l =
    entries_moved l.self l.initial.entries
    ≡ puts_from (l.self.entry + l.i) (drop l.i l.e-items) l.entries
