-- No number stands twice just where none of those left does.
-- Assumes nothing.
use Rattle.std.proofs.Common.{◌≡◌, drop}
use Rattle.lists.specs.Lists.{distinct}
use Rattle.partition_sound.proofs.numbers.all_differ.Given as goal

abbrev pub invariant-loop-i : goal.invariant-loop-i
invariant-loop-i l = distinct l.xs ≡ distinct (drop l.i l.xs)
