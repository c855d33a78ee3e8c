-- Where an epoch stands to a read-write transaction, case by case: the test of rules that each one names. 02 (iv).
-- Assumes nothing.
use Rattle.std.specs.Prelude.{Bool, List, ℕ}
use Rattle.rules.specs.Sees.{is_own, is_later, is_pending, is_finished}
use Rattle.visible.specs.declared.sees.Category.{Category}
use Rattle.visible.specs.declared.sees.Category.TheVariants.{Own, Later, Pending, Finished}

-- exactly one holds (rules' `one_category`)
abbrev pub is_in : Category → ℕ → List ℕ → ℕ → Bool
is_in Own i deps j = is_own i j
is_in Later i deps j = is_later i j
is_in Pending i deps j = is_pending i deps j
is_in Finished i deps j = is_finished i deps j
