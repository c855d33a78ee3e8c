-- The entries before k are kept, and the next begins at row `from`.
-- Assumes nothing.
use Rattle.rewrite.proofs.Laws.Kept.{Kept}
use Rattle.rewrite.proofs.keep.keep.Given as goal

abbrev pub invariant-loop-k : goal.invariant-loop-k
invariant-loop-k l = Kept l.plan.at l.es l.k l.from l.last l.at
