-- The ends fit exactly if those from the index on do, after the end before them.
-- Assumes nothing.
use Rattle.std.proofs.Common.{◌≡◌, drop}
use Rattle.rewrite.specs.Kept.{ends_fit}
use Rattle.rewrite.proofs.ends.ends_fit.Given as goal

abbrev pub invariant-loop-e : goal.invariant-loop-e
invariant-loop-e l = ends_fit 0 l.es ≡ ends_fit l.from (drop l.e-index l.es)
