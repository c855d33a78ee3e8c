-- Each test as its word, and all of them joined.
-- Assumes nothing.
use Rattle.std.proofs.Common.{arith}
use Rattle.std.proofs.lemmas.Bool.Decides.{nat_tests}
use Rattle.txn_sound.specs.Sound.{reader_ok}
use Rattle.txn_sound.proofs.reader_ok.Goals as goal
use Rattle.txn_sound.proofs.reader_ok.Goals.{then-lo-p, else-lo-p, then-p-next, else-p-next}

pub returns-then-c-p : goal.returns-then-c-p
unfolding reader_ok
returns-then-c-p c = elim c.if-p-next.branch [
  | then-p-next w ↦ elim c.if-lo-p.branch [
    | then-lo-p v ↦ grind (arith, nat_tests)
    | else-lo-p v ↦ grind (arith, nat_tests)
  ]
  | else-p-next w ↦ grind (arith, nat_tests)
]

pub returns-else-c-p : goal.returns-else-c-p
unfolding reader_ok
returns-else-c-p c = elim c.if-p-next.branch [
  | then-p-next w ↦ elim c.if-lo-p.branch [
    | then-lo-p v ↦ grind (arith, nat_tests)
    | else-lo-p v ↦ grind (arith, nat_tests)
  ]
  | else-p-next w ↦ elim c.if-lo-p.branch [
    | then-lo-p v ↦ grind (arith, nat_tests)
    | else-lo-p v ↦ grind (arith, nat_tests)
  ]
]
