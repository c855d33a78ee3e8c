-- Laws of areas_of: eight partitions, one by one, and the test areas_ok. Definitions: specs/Areas.antt.
-- Assumes nothing.
use mathlib.Core.Path.{◌≡◌, refl}
use mathlib.Core.Bool.{Bool, ◌&&◌}
use mathlib.Core.List.{List, [], ◌∷◌}
use Prim.Native.Nat.{ℕ}
use native.Mathlib.Omega.{arith}
use lib.ListN.{length, get_or}
use Rattle.lists.specs.Lists.{distinct}
use Rattle.rules.specs.Limits.{areas_max}
use Rattle.rules.specs.WellFormed.{areas_ok}
use Rattle.rules.specs.declared.Partitions.{Partitions}
use Rattle.partition_sound.specs.Areas.{areas_of, all_below}

module _ {A : Type 0} where
  pub eight : (xs : List A) (d : A) → length xs ≡ 8 → xs ≡ get_or xs 0 d ∷ get_or xs 1 d ∷ get_or xs 2 d ∷ get_or xs 3 d
      ∷ get_or xs 4 d ∷ get_or xs 5 d ∷ get_or xs 6 d ∷ get_or xs 7 d ∷ []
  eight (x₀ ∷ x₁ ∷ x₂ ∷ x₃ ∷ x₄ ∷ x₅ ∷ x₆ ∷ x₇ ∷ []) d h = refl
  eight (x₀ ∷ x₁ ∷ x₂ ∷ x₃ ∷ x₄ ∷ x₅ ∷ x₆ ∷ x₇ ∷ y ∷ ys) d h = absurd (omega arith)
  eight (x₀ ∷ x₁ ∷ x₂ ∷ x₃ ∷ x₄ ∷ x₅ ∷ x₆ ∷ []) d h = absurd (omega arith)
  eight (x₀ ∷ x₁ ∷ x₂ ∷ x₃ ∷ x₄ ∷ x₅ ∷ []) d h = absurd (omega arith)
  eight (x₀ ∷ x₁ ∷ x₂ ∷ x₃ ∷ x₄ ∷ []) d h = absurd (omega arith)
  eight (x₀ ∷ x₁ ∷ x₂ ∷ x₃ ∷ []) d h = absurd (omega arith)
  eight (x₀ ∷ x₁ ∷ x₂ ∷ []) d h = absurd (omega arith)
  eight (x₀ ∷ x₁ ∷ []) d h = absurd (omega arith)
  eight (x₀ ∷ []) d h = absurd (omega arith)
  eight [] d h = absurd (omega arith)

-- the test, from what was found of a list of the areas
pub areas_ok-is : (ps : Partitions) (xs : List ℕ) (below once : Bool) → xs ≡ areas_of ps → below
    ≡ all_below areas_max xs
    → once ≡ distinct xs → areas_ok ps ≡ below && once
unfolding areas_ok
areas_ok-is ps xs below once e f g = rw (f, g, e)
