-- The ends of entries, one entry at a time. Definition: ends_fit of specs/Kept.antt.
-- What ends_fit says of a first entry, and of where it begins.
-- Assumes nothing.
use mathlib.Core.Path.{◌≡◌}
use mathlib.Core.Bool.{true}
use mathlib.Core.List.{List, [], ◌∷◌}
use Prim.Native.Nat.{ℕ, ◌≤◌}
use native.Mathlib.Omega.{arith}
use lib.Dec.{leb}
use borrow.Author.Tests.{leb-true}
use Rattle.lists.proofs.Laws.Bools.{and_left, and_right}
use Rattle.rules.specs.Limits.{rows_max}
use Rattle.rules.specs.declared.Entry.{Entry}
use Rattle.rewrite.specs.Kept.{ends_fit}

module _ (n : ℕ) (e : Entry) (es : List Entry) where
  pub end_low : ends_fit n (e ∷ es) ≡ true → n ≤ e.end
  unfolding ends_fit
  end_low h = leb-true n e.end (and_left (leb n e.end) (ends_fit e.end es) h)

  pub ends-rest : ends_fit n (e ∷ es) ≡ true → ends_fit e.end es ≡ true
  unfolding ends_fit
  ends-rest h = and_right (leb n e.end) (ends_fit e.end es) h

pub ends-high : (n : ℕ) (es : List Entry) → ends_fit n es ≡ true → n ≤ rows_max
unfolding ends_fit
ends-high n [] h = leb-true n rows_max h
ends-high n (e ∷ es) h = let g = ends-high e.end es (ends-rest n e es h) in let f = end_low n e es h in
    omega arith
