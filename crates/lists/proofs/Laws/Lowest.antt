-- The lowest of a list as a loop finds it, from the front.
-- Elsewhere: what foldr min says of the members (Laws/Order.antt).
-- Assumes nothing.
use mathlib.Core.Path.{◌≡◌, refl, ap, ◌∙◌}
use mathlib.Core.List.{List, [], ◌∷◌, ◌++◌, foldr}
use Prim.Native.Nat.{ℕ, min}
use native.Mathlib.Omega.{arith}

-- an element taken from the front goes into the bound
pub lowest-front : (b x : ℕ) (xs : List ℕ) → foldr min b (x ∷ xs) ≡ foldr min (min b x) xs
lowest-front b x [] = omega arith
lowest-front b x (y ∷ xs) = let ih = lowest-front b x xs in omega arith

pub lowest-append : (b : ℕ) (xs ys : List ℕ) → foldr min b (xs ++ ys) ≡ foldr min (foldr min b xs) ys
lowest-append b [] ys = refl
lowest-append b (x ∷ xs) ys =
    let ih = lowest-append b xs ys in let a = lowest-front (foldr min b xs) x ys in
    let e : min (foldr min b xs) x ≡ min x (foldr min b xs) = omega arith in
    ap (min x) ih ∙ a ∙ ap (λ (n : ℕ). foldr min n ys) e

-- or the back first
pub lowest-back : (b : ℕ) (xs ys : List ℕ) → foldr min b (xs ++ ys) ≡ foldr min (foldr min b ys) xs
lowest-back b [] ys = refl
lowest-back b (x ∷ xs) ys = ap (min x) (lowest-back b xs ys)
