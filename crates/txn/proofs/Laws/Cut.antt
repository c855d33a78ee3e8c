-- Elements taken out of a list, and the one that a test finds. Definitions: specs/Records.antt.
-- In order: the only element that passes, dropped or changed; taking out of an array in place.
-- Assumes nothing.
use mathlib.Core.Path.{◌≡◌, refl, sym, ap, subst, ◌∙◌}
use mathlib.Core.Bool.{Bool, true, false, not, cond}
use mathlib.Core.List.{List, [], ◌∷◌, ◌++◌, map, append_assoc}
use Prim.Native.Nat.{ℕ, suc, ◌+◌, ◌-◌, ◌≤◌, ◌<◌, min}
use native.Mathlib.Omega.{arith}
use lib.ListN.{length, take, drop, set, replicate, length-append, length-take, length-drop, drop_of_length-le}
use lib.Seq.{length-take-le}
use lib.Seq.{take-append_seam}
use borrow.Rule.Slice.PartMut.{put_mid}
use Rattle.std.specs.List.{copy_within}
use Rattle.std.proofs.lemmas.List.{take_min, drop_min, append-nil, replicate-append-replicate}
use Rattle.std.proofs.lemmas.List.Edits.{paste_all}
use Rattle.lists.specs.Lists.{keep_if, rises, pad}
use Rattle.lists.proofs.Laws.Bools.{split}
use Rattle.lists.proofs.Laws.Parts.{drop-pad}
use Rattle.lists.proofs.Laws.Order.{rises-split}
use Rattle.txn.specs.Records.{cut}
use Rattle.std.specs.List.{position_from}
use Rattle.std.specs.Prelude.{Some, position}
use Rattle.std.proofs.lemmas.Iterator.Adapters.{position_from-zero}

-- ---- the only one that passes: p finds the elements numbered i, and the numbers rise

module _ {A : Type 0} (p : A → Bool) (f : A → ℕ) (i : ℕ) (tells : (x : A) → p x ≡ true → f x ≡ i) (hi : ℕ) where
  none_above : (lo : ℕ) (x : A) → i ≤ lo → lo < f x → p x ≡ false
  none_above lo x h l = split (p x) (λ t. let e = tells x t in absurd (omega arith)) (λ n. n)

  keep_all : (lo : ℕ) (xs : List A) → i ≤ lo → rises lo hi (map f xs) ≡ true → keep_if (λ x. not (p x)) xs ≡ xs
  keep_all lo [] h r = refl
  keep_all lo (x ∷ xs) h r = let s = rises-split lo hi (f x) (map f xs) r in let u = s.above in
      rw (none_above lo x h u, keep_all (f x) xs (omega arith) s.rest)

  change-none : (v : A) (lo : ℕ) (xs : List A) → i ≤ lo → rises lo hi (map f xs) ≡ true
      → map (λ x. cond (p x) v x) xs ≡ xs
  change-none v lo [] h r = refl
  change-none v lo (x ∷ xs) h r = let s = rises-split lo hi (f x) (map f xs) r in let u = s.above in
      rw (none_above lo x h u, change-none v (f x) xs (omega arith) s.rest)

  module _ (v : A) where
    found-one : (lo : ℕ) (xs : List A) (k j : ℕ) → rises lo hi (map f xs) ≡ true → position_from p k xs ≡ Some j
        → (k ≤ j) × (keep_if (λ x. not (p x)) xs ≡ cut (j - k) (suc (j - k)) xs)
        × (map (λ x. cond (p x) v x) xs ≡ set xs (j - k) v)
    found-one lo [] k j r e = absurd (let z : ◌≡◌ {A = ℕ} 0 1 = cc in omega arith)
    found-one lo (x ∷ xs) k j r e = let s = rises-split lo hi (f x) (map f xs) r in split (p x)
        (λ t. let q : k ≡ j = (let g = rw t at e in cc) in let z : j - k ≡ 0 = omega arith in let w = tells x t in (
          omega arith,
          rw (z, t) (keep_all (f x) xs (omega arith) s.rest),
          rw (z, t, change-none v (f x) xs (omega arith) s.rest),
        ))
        (λ n. let ih = found-one (f x) xs (k + 1) j s.rest (rw n at e) in let l = ih.0 in
        let z : j - k ≡ suc (j - (k + 1)) = omega arith in
        (omega arith, rw (z, n, ih.1), rw (z, n, ih.2)))

    pub drop-one : (lo : ℕ) (xs : List A) (j : ℕ) → rises lo hi (map f xs) ≡ true → position p xs ≡ Some j
        → keep_if (λ x. not (p x)) xs ≡ cut j (suc j) xs
    drop-one lo xs j r e = let z : j - 0 ≡ j = omega arith in
        rw z at (found-one lo xs 0 j r (sym (position_from-zero p xs) ∙ e)).1

    pub change-one : (lo : ℕ) (xs : List A) (j : ℕ) → rises lo hi (map f xs) ≡ true → position p xs ≡ Some j
        → map (λ x. cond (p x) v x) xs ≡ set xs j v
    change-one lo xs j r e = let z : j - 0 ≡ j = omega arith in
        rw z at (found-one lo xs 0 j r (sym (position_from-zero p xs) ∙ e)).2

-- ---- taking the places from a up to b out of those in use, in place

module _ {A : Type 0} (z : A) (xs : List A) (a b end start : ℕ) (last : end ≡ min b (length xs))
    (first : start ≡ min a end) where
  cut-is : cut start end xs ≡ cut (min a b) b xs
  cut-is = let s : start ≡ min (min a b) (length xs) = omega arith in
      let t : take start xs ≡ take (min a b) xs = ap (λ k. take k xs) s ∙ take_min (min a b) xs in
      let d : drop end xs ≡ drop b xs = ap (λ k. drop k xs) last ∙ drop_min b xs in rw (t, d)

  cut-length : length (cut start end xs) ≡ length xs - (end - start)
  cut-length = simp (length-append, length-take, length-drop) (omega arith)

  -- ys is xs with those behind moved down, and zs what is put in the places that they leave
  pub cut-done : (ys zs : List A) → ys ≡ copy_within xs end (length xs) start → length zs ≡ end - start
      → zs ≡ replicate (length zs) z → let m = length xs - (end - start) in
      put_mid m (length ys - m) ys zs ≡ pad (length xs) z (cut (min a b) b xs)
  cut-done ys zs e l r = let c = cut start end xs in let k = length xs - end in let rest = drop (start + k) xs in
      let m : length xs - (end - start) ≡ length c = sym cut-length in
      let y : ys ≡ c ++ rest =
      e ∙ paste_all xs start (drop end xs) k (omega (arith, length-drop end xs))
      ∙ sym (append_assoc (take start xs) (drop end xs) rest) in
      let front : take (length xs - (end - start)) ys ≡ c = rw (m, y) (take-append_seam c rest) in
      let few : length (drop (length xs - (end - start)) ys) ≤ length ys - (length xs - (end - start)) =
      omega (arith, length-drop (length xs - (end - start)) ys) in
      let w : length zs ≡ length xs - length c = omega (arith, cut-length) in
      rw (front, drop_of_length-le (drop (length xs - (end - start)) ys) few, append-nil, ← cut-is, r, w)

-- those in use are n of the places, and the others hold z
pub cut-padded : {A : Type 0} (z : A) (at : List A) (places n a b : ℕ) (ys : List A) → length at ≡ places
    → a ≤ b → b ≤ n → n ≤ places → at ≡ pad places z (take n at)
    → ys ≡ pad (length (take n at)) z (cut (min a b) b (take n at))
    → (ys ++ drop n at ≡ pad places z (cut a b (take n at))) × (n - (b - a) ≡ length (cut a b (take n at)))
cut-padded z at places n a b ys len ab bn room tidy e =
    let us = take n at in let c = cut a b us in
    let l : length us ≡ n = length-take-le n at (omega arith) in let m : min a b ≡ a = omega arith in
    let f : length c ≡ n - (b - a) =
    simp (length-append, length-take, length-drop) (omega (arith, length-take n at)) in
    let w : drop n at ≡ replicate (places - n) z =
    ap (λ k. drop n k) tidy
    ∙ subst (λ (k : ℕ). drop k (pad places z us) ≡ replicate (places - k) z) l (drop-pad places z us) in
    let s : length us - length c + (places - n) ≡ places - length c = omega arith in (
      rw (e, w, m) (append_assoc c (replicate (length us - length c) z) (replicate (places - n) z)
          ∙ ap (λ k. c ++ k) (replicate-append-replicate (length us - length c) (places - n) z) ∙ rw s),
      sym f,
    )
