-- The rows of the entries before k are copied, and the next begins at row `start`.
-- Assumes nothing.
use Rattle.rewrite.proofs.Laws.Copied.{Copied}
use Rattle.rewrite.proofs.copying.copy_entries.Given as goal

abbrev pub invariant-loop-k : goal.invariant-loop-k
invariant-loop-k l = Copied l.ps l.es l.from l.to l.initial.rows l.k l.start l.done l.rows
