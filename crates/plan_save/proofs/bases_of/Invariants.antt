-- The bases below p are filled in. Assumes nothing.
use Rattle.rules.specs.Limits.{rows_max}
use Rattle.area.specs.Area.{base_of}
use Rattle.area.specs.Load.{partition_in}
use Rattle.laws.proofs.Laws.Each.{Filled}
use Rattle.plan_save.proofs.bases_of.Given as goal

abbrev pub invariant-loop-p : goal.invariant-loop-p
invariant-loop-p l = Filled 0 (λ p. base_of rows_max (partition_in l.fn.ps p).area) l.bases l.p
