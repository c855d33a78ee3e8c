-- The numbers are those between lo and hi just where the ones left are those between the last one and hi.
-- Assumes nothing.
use Rattle.std.proofs.Common.{◌≡◌, drop}
use Rattle.partition_sound.specs.Asked.{fills}
use Rattle.partition_sound.proofs.numbers.fill.Given as goal

abbrev pub invariant-loop-x : goal.invariant-loop-x
invariant-loop-x l = fills l.lo l.hi l.xs ≡ fills l.last l.hi (drop l.x-index l.xs)
