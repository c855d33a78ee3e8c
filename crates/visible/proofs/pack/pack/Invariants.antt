-- The first j bytes are those of the flags, and the others are as they were.
-- Assumes nothing.
use Rattle.std.proofs.Common.{◌≡◌, ◌++◌, drop}
use Rattle.rules.specs.Bitmap.{packed}
use Rattle.visible.proofs.pack.pack.Given as goal

abbrev pub invariant-loop-j : goal.invariant-loop-j
invariant-loop-j l = l.bitmap ≡ packed l.j l.shown ++ drop l.j l.initial.bitmap
