-- The bodies below p are filled in, and the next one begins at `at`. Assumes nothing.
use Rattle.std.proofs.Common.{◌≡◌}
use Rattle.laws.proofs.Laws.Each.{Filled}
use Rattle.recovery.specs.Restore.{body_of}
use Rattle.recovery.proofs.restore.bodies_of.Given as goal

abbrev pub invariant-loop-p : goal.invariant-loop-p
invariant-loop-p l = (l.at ≡ body_of l.h l.p) × Filled 0 (body_of l.h) l.bodies l.p
