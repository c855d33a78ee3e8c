-- The greatest applied delete, entry by entry. Definitions: rules' top_step and top_from, over bare entries.
-- Assumes nothing.
use mathlib.Core.Path.{◌≡◌, refl}
use mathlib.Core.Bool.{Bool}
use mathlib.Core.List.{List, [], ◌∷◌}
use Prim.Native.Nat.{ℕ, ◌+◌}
use native.Mathlib.Numerals.{add-one}
use Rattle.rules.specs.declared.Entry.{Entry}
use Rattle.rules.specs.Top.{Top, top_step, top_from}
use Rattle.rules.specs.Bare.{bare_span, bare}

module _ (a : ℕ → Bool) (i : ℕ) (top : Top) (e : Entry) where
  -- where an entry's rows begin makes no difference
  pub top-next : (m n : ℕ) (es : List Entry)
      → top_from a i top (bare m (e ∷ es)) ≡ top_from a (i + 1) (top_step a i top (bare_span 0 e)) (bare n es)
  unfolding top_from bare
  top-next m n [] = refl
  top-next m n (d ∷ es) = rw (add-one i)
