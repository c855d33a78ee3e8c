-- A command that does nothing: the purge of a partition that no store has, for callers whose input names no call.
-- Assumes nothing.
use mathlib.Core.Path.{◌≡◌}
use mathlib.Core.Bool.{true}
use Prim.Native.Nat.{ℕ, ◌<◌}
use native.Mathlib.Omega.{arith}
use Rattle.lists.proofs.Laws.Bools.{split}
use Rattle.rules.specs.Limits.{partitions_max}
use Rattle.rules.specs.Answers.{accepted}
use Rattle.rules.specs.Store.{Store}
use Rattle.rules.specs.WellFormed.{sound}
use Rattle.rules.specs.Step.{step, purge}
use Rattle.laws.proofs.Laws.Calls.{purge-passed}
use Rattle.laws.proofs.Laws.Sound.{refused-same}

pub passed : (p : ℕ) (st : Store) → accepted (step (purge p) st).answer ≡ true
    → (sound st ≡ true) × (p < partitions_max)
unfolding step
passed p st t = purge-passed p st t

pub purge-none : (st : Store) → (step (purge partitions_max) st).store ≡ st
purge-none st = split (accepted (step (purge partitions_max) st).answer)
    (λ t. let h = (passed partitions_max st t).1 in absurd (omega arith))
    (λ f. (refused-same (purge partitions_max) st f).store)
