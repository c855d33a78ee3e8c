-- Each step adds 16 at most.
-- Assumes nothing.
use Rattle.std.proofs.Common.{◌≡◌, ◌*◌, ◌≤◌, [], ◌∷◌}
use Rattle.partition_sound.proofs.numbers.likely.Given as goal

abbrev pub invariant-loop-half : goal.invariant-loop-half
invariant-loop-half l = (l.half-items ≡ 16 ∷ 8 ∷ 4 ∷ 2 ∷ 1 ∷ []) × (l.at ≤ 16 * l.half-index)
