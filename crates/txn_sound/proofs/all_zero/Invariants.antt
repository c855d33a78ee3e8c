-- All words are 0 just where what was joined is 0 and all that are left are.
-- Assumes nothing.
use Rattle.std.proofs.Common.{◌≡◌, ◌&&◌, eqb, drop}
use Rattle.rules.specs.WellFormed.{zeros}
use Rattle.txn_sound.proofs.all_zero.Given as goal

abbrev pub invariant-loop-x : goal.invariant-loop-x
invariant-loop-x l = zeros l.xs ≡ eqb l.left 0 && zeros (drop l.x-index l.xs)
