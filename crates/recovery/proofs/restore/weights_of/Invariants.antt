-- The totals below p are filled in. Assumes nothing.
use Rattle.std.proofs.Common.{get_or}
use Rattle.laws.proofs.Laws.Each.{Filled}
use Rattle.checkpoint.specs.Rows.{weight_read}
use Rattle.recovery.proofs.restore.weights_of.Given as goal

abbrev pub invariant-loop-p : goal.invariant-loop-p
invariant-loop-p l = Filled 0 (λ p. weight_read (get_or l.bodies p 0) (get_or l.counts p 0) l.file) l.totals l.p
