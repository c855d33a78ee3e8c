-- The ends are right exactly if those from the index on are, after the end before them.
-- Assumes nothing.
use Rattle.std.proofs.Common.{◌≡◌, drop}
use Rattle.rules.specs.WellFormed.{ends_ok}
use Rattle.visible.proofs.ends.ends_ok.Given as goal

abbrev pub invariant-loop-e : goal.invariant-loop-e
invariant-loop-e l = ends_ok l.rows 0 l.es ≡ ends_ok l.rows l.end (drop l.e-index l.es)
