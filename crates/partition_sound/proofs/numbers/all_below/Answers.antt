-- `all_below` meets its contract: the library's test of all elements is all_of.
-- Assumes nothing.
use Rattle.std.proofs.Common.{rules, ◌≡◌, ◌∙◌, ℕ, Bool, ◌&&◌, List, [], ◌∷◌, ltb, refl, ap}
use Rattle.std.proofs.lemmas.Iterator.{YieldsList-from_slice}
use Rattle.std.proofs.lemmas.Iterator.Search.{all_from_yields_List}
use Rattle.std.specs.List.{list_all}
use Rattle.lists.specs.Lists.{all_of}
use Rattle.partition_sound.proofs.numbers.all_below.Goals as goal

listed : (p : ℕ → Bool) (xs : List ℕ) → list_all p xs ≡ all_of p xs
listed p [] = refl
listed p (x ∷ xs) = ap (λ b. p x && b) (listed p xs)

pub returns : goal.returns
returns c = let a = c.args in let p : ℕ → Bool = λ x. ltb x a.limit in
    all_from_yields_List p _ _ c.all.result c.all.ensures.ran (YieldsList-from_slice a.xs.now c.iter.ensures.rest)
    (λ x b q k. search rules) ∙ listed p a.xs.now
