-- Where the bodies of a checkpoint (02: round) lie. Definition: specs/Restore.antt, body_of.
-- In order: sums of the first counts, one body behind the other, the rows of partition p.
-- Assumes nothing.
use mathlib.Core.Path.{◌≡◌, refl, ◌∙◌, ap}
use mathlib.Core.List.{List, [], ◌∷◌}
use Prim.Native.Nat.{ℕ, zero, suc, ◌+◌, ◌*◌, ◌≤◌}
use native.Mathlib.Omega.{arith}
use lib.ListN.{get_or, take, drop}
use lib.Seq.{drop-drop}
use Rattle.rules.specs.Checkpoint.{sum_of, numbers_in, rows_in, body_size}
use Rattle.checkpoint.specs.Header.{end_of}
use Rattle.checkpoint.specs.declared.Header.{Header}
use Rattle.recovery.specs.Restore.{body_of}

sum-next : (xs : List ℕ) (p : ℕ) → sum_of (take (suc p) xs) ≡ sum_of (take p xs) + get_or xs p 0
sum-next [] zero = refl
sum-next [] (suc p) = refl
sum-next (x ∷ xs) zero = omega arith
sum-next (x ∷ xs) (suc p) = let ih = sum-next xs p in omega arith

sum_first : (xs : List ℕ) (p : ℕ) → sum_of (take p xs) ≤ sum_of xs
sum_first [] zero = omega arith
sum_first [] (suc p) = omega arith
sum_first (x ∷ xs) zero = omega arith
sum_first (x ∷ xs) (suc p) = let ih = sum_first xs p in omega arith

pub body-next : (h : Header) (p : ℕ) → body_of h (suc p) ≡ body_of h p + 8 * get_or h.counts p 0
body-next h p = let s = sum-next h.counts p in omega arith

pub body_end : (h : Header) (p : ℕ) → body_of h p ≤ end_of h
body_end h p = let s = sum_first h.counts p in omega arith

pub rows_at : (counts bs : List ℕ) (p : ℕ)
    → get_or (rows_in counts bs) p [] ≡ numbers_in 8 (get_or counts p 0) (drop (body_size (take p counts)) bs)
unfolding rows_in numbers_in
rows_at [] bs p = refl
rows_at (c ∷ cs) bs zero = refl
rows_at (c ∷ cs) bs (suc p) =
    let e : 8 * c + body_size (take p cs) ≡ body_size (c ∷ take p cs) = omega arith in
    rows_at cs (drop (8 * c) bs) p
    ∙ ap (numbers_in 8 (get_or cs p 0)) (drop-drop (body_size (take p cs)) (8 * c) bs ∙ ap (λ (n : ℕ). drop n bs) e)
