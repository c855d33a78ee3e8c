-- The first i epochs are in place, and the rest are 0.
-- Assumes nothing.
use Rattle.std.proofs.Common.{◌≡◌, take}
use Rattle.lists.specs.Lists.{pad}
use Rattle.rules.specs.Limits.{writers_max}
use Rattle.partition_sound.specs.Sound.{epochs_of}
use Rattle.partition_sound.proofs.epochs_of.Given as goal

abbrev pub invariant-loop-i : goal.invariant-loop-i
invariant-loop-i l = l.at ≡ pad writers_max 0 (take l.i (epochs_of l.ts))
