-- The byte so far is that of the flags from index k on, of the eight.
-- Assumes nothing.
use Rattle.std.proofs.Common.{◌≡◌, ◌+◌, ◌-◌, take, drop}
use Rattle.rules.specs.Bitmap.{byte_of}
use Rattle.visible.proofs.pack.byte_at.Given as goal

abbrev pub invariant-loop-k : goal.invariant-loop-k
invariant-loop-k l = l.byte ≡ byte_of (take (8 - l.k) (drop (l.from + l.k) l.shown))
