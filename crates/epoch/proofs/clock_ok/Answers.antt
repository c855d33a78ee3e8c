-- Each test as its word, and all of them joined.
-- Assumes nothing.
use Rattle.std.proofs.Common.{arith}
use Rattle.std.proofs.lemmas.Bool.Decides.{nat_tests}
use Rattle.rules.specs.Limits.{last_epoch}
use Rattle.rules.specs.WellFormed.{clock_ok}
use Rattle.epoch.proofs.clock_ok.Goals as goal
use Rattle.epoch.proofs.clock_ok.Goals.{then-c, else-c, then-c-2, else-c-2}

pub returns-then-c-3 : goal.returns-then-c-3
unfolding clock_ok last_epoch
returns-then-c-3 c = elim c.if-c-2.branch [
  | then-c-2 w ↦ elim c.if-c.branch [ then-c v ↦ grind (arith, nat_tests) | else-c v ↦ grind (arith, nat_tests) ]
  | else-c-2 w ↦ grind (arith, nat_tests)
]

pub returns-else-c-3 : goal.returns-else-c-3
unfolding clock_ok last_epoch
returns-else-c-3 c = elim c.if-c-2.branch [
  | then-c-2 w ↦ elim c.if-c.branch [ then-c v ↦ grind (arith, nat_tests) | else-c v ↦ grind (arith, nat_tests) ]
  | else-c-2 w ↦ elim c.if-c.branch [ then-c v ↦ grind (arith, nat_tests) | else-c v ↦ grind (arith, nat_tests) ]
]
