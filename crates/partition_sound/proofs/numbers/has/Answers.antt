-- `has` meets its contract: the library's test of any element is any_of.
-- Assumes nothing.
use Rattle.std.proofs.Common.{rules, ◌≡◌, ◌∙◌, ℕ, Bool, ◌||◌, List, [], ◌∷◌, eqb, refl, ap}
use Rattle.std.proofs.lemmas.Iterator.{YieldsList-from_slice}
use Rattle.std.proofs.lemmas.Iterator.Search.{any_from_yields_List}
use Rattle.std.specs.List.{list_any}
use Rattle.lists.specs.Lists.{any_of}
use Rattle.partition_sound.proofs.numbers.has.Goals as goal

listed : (p : ℕ → Bool) (xs : List ℕ) → list_any p xs ≡ any_of p xs
listed p [] = refl
listed p (x ∷ xs) = ap (λ b. p x || b) (listed p xs)

pub returns : goal.returns
returns c = let a = c.args in
    any_from_yields_List (eqb a.x) _ _ c.any.result c.any.ensures.ran
    (YieldsList-from_slice a.xs.now c.iter.ensures.rest) (λ x b q k. search rules) ∙ listed (eqb a.x) a.xs.now
