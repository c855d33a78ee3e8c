-- The places in use of an array, one place after the other; what a loop collects in an array of its own.
-- In order: those in use; from a place on; a store after those in use. Nothing here knows of a transaction or a
-- partition.
-- Assumes nothing.
use mathlib.Core.Path.{◌≡◌, sym, ap, subst, ◌∙◌}
use mathlib.Core.Bool.{Bool, true, ◌&&◌}
use mathlib.Core.List.{List, [], ◌∷◌, ◌++◌, append_assoc}
use Prim.Native.Nat.{ℕ, zero, suc, ◌+◌, ◌-◌, ◌≤◌, ◌<◌, min}
use native.Mathlib.Nat.{not-suc-le-zero, le_of_suc-le-suc}
use native.Mathlib.Numerals.{add-one}
use native.Mathlib.Omega.{arith}
use lib.ListN.{length, take, drop, get_or, set, replicate, length-append, length-replicate, length-set}
use lib.ListN.{length-drop, drop_of_length-le, take-append-drop, get_or-replicate}
use lib.Seq.{drop-cons, take_all, take-suc, set-append_seam, set-append_left, set_at, get_or-drop}
use lib.Seq.{ext_get_or}
use lib.Seq.{length-take-le}
use lib.Dec.{leb}
use borrow.Author.Tests.{leb-true, leb-false}
use Rattle.lists.specs.Lists.{pad, all_of}
use Rattle.lists.proofs.Laws.Bools.{split, and_left, and_right}

-- what passes at every element passes at each place
pub all-at : {A : Type 0} (p : A → Bool) (xs : List A) (d : A) → all_of p xs ≡ true → (i : ℕ) → i < length xs
    → p (get_or xs i d) ≡ true
all-at p [] d a i h = absurd (not-suc-le-zero h)
all-at p (x ∷ xs) d a zero h = and_left (p x) (all_of p xs) a
all-at p (x ∷ xs) d a (suc i) h = all-at p xs d (and_right (p x) (all_of p xs) a) i (le_of_suc-le-suc h)

-- n of the places of xs are in use, or all where n is greater; d is what a read past the end would give
module _ {A : Type 0} (xs : List A) (n places : ℕ) (len : length xs ≡ places) where
  pub take-used : take (min n places) xs ≡ take n xs
  take-used = split (leb n places)
      (λ t. let g = leb-true n places t in let e : min n places ≡ n = omega arith in rw e)
      (λ f. let g = leb-false n places f in let e : min n places ≡ places = omega arith in
      rw (e, take_all places xs (omega arith), take_all n xs (omega arith)))

-- ---- from a place on to the end of the array

module _ {A : Type 0} (xs : List A) where
  pub from_next : (d : A) (j : ℕ) → j < length xs → drop j xs ≡ get_or xs j d ∷ drop (j + 1) xs
  from_next d j h = rw (add-one j) (drop-cons xs j d h)

module _ {A : Type 0} (xs : List A) (places : ℕ) (len : length xs ≡ places) (p : A → Bool) where
  pub all-next : (d : A) (j : ℕ) (r : Bool) → j < places → p (get_or xs j d) ≡ r
      → all_of p (drop j xs) ≡ r && all_of p (drop (j + 1) xs)
  all-next d j r h e = rw (from_next xs d j (omega arith), e)

  pub all_end : (j : ℕ) → places ≤ j → all_of p (drop j xs) ≡ true
  all_end j h = let l : length xs ≤ j = omega arith in rw (drop_of_length-le xs l)

-- ---- arrays whose unused places hold z

module _ {A : Type 0} (n : ℕ) (z : A) where
  pub length-pad : (xs : List A) → length xs ≤ n → length (pad n z xs) ≡ n
  length-pad xs h = simp (length-append, length-replicate) (omega arith)

  push : (xs : List A) (v : A) (m : ℕ) → n - length xs ≡ suc m
      → set (pad n z xs) (length xs) v ≡ pad n z (xs ++ (v ∷ []))
  push xs v m e =
      let e' : n - (length xs + 1) ≡ m = omega arith in
      rw (
        e,
        set-append_seam xs z (replicate m z) v,
        length-append xs (v ∷ []),
        e',
        append_assoc xs (v ∷ []) (replicate m z),
      )

  -- a store at the first place that is not used
  pub pad-push : (xs : List A) (v : A) → length xs < n
      → set (pad n z xs) (length xs) v ≡ pad n z (xs ++ (v ∷ []))
  pad-push xs v h = push xs v (n - (length xs + 1)) (omega (arith, add-one (n - (length xs + 1))))

  pub pad-put : (xs : List A) (v : A) (k : ℕ) → length xs ≡ k → k < n
      → set (pad n z xs) k v ≡ pad n z (xs ++ (v ∷ []))
  pad-put xs v k e h = ap (λ j. set (pad n z xs) j v) (sym e) ∙ pad-push xs v (omega arith)

  -- the first k of xs are stored, and one more
  pub pad-next : (d : A) (xs : List A) (k : ℕ) → k < length xs → length xs ≤ n
      → set (pad n z (take k xs)) k (get_or xs k d) ≡ pad n z (take (k + 1) xs)
  pad-next d xs k h m = rw (add-one k, take-suc xs k d h)
      (pad-put (take k xs) (get_or xs k d) k (length-take-le k xs (omega arith)) (omega arith))

  -- another in the place of the last that is used
  pub pad-again : (xs : List A) (w v : A) (k : ℕ) → length xs ≡ k
      → set (pad n z (xs ++ (w ∷ []))) k v ≡ pad n z (xs ++ (v ∷ []))
  pad-again xs w v k e = let tail = replicate (n - (length xs + 1)) z in
      rw (
        length-append xs (w ∷ []),
        length-append xs (v ∷ []),
        append_assoc xs (w ∷ []) tail,
        append_assoc xs (v ∷ []) tail,
      ) (set_at xs w tail v k e)

-- n of the places of at are in use, and the rest hold z: a store after those in use, or among them
module _ {A : Type 0} (z : A) (at : List A) (places n : ℕ) (v : A) (len : length at ≡ places)
    (tidy : at ≡ pad places z (take n at)) where
  -- at with v at the first unused place, and one more in use
  pub pushed : n < places
      → (set at n v ≡ pad places z (take n at ++ (v ∷ []))) × (n + 1 ≡ length (take n at ++ (v ∷ [])))
  pushed h =
      let l : length (take n at) ≡ n = length-take-le n at (omega arith) in (
        ap (λ xs. set xs n v) tidy
            ∙ subst (λ (k : ℕ). set (pad places z (take n at)) k v ≡ pad places z (take n at ++ (v ∷ []))) l
            (pad-push places z (take n at) v (omega arith)),
        rw (length-append (take n at) (v ∷ []), l),
      )

  pub replaced : n ≤ places → (j : ℕ) → j < n
      → (set at j v ≡ pad places z (set (take n at) j v)) × (n ≡ length (set (take n at) j v))
  replaced h j p =
      let ts = take n at in let l : length ts ≡ n = length-take-le n at (omega arith) in
      let s : length (set ts j v) ≡ length ts = length-set ts j v in (
        rw s (ap (λ xs. set xs j v) tidy ∙ set-append_left ts (replicate (places - length ts) z) j v (omega arith)),
        omega arith,
      )

-- a list whose elements from k on are all z is its front, padded
module _ {A : Type 0} (p : A → Bool) (z d : A) (xs : List A) (n k : ℕ) (len : length xs ≡ n) (le : k ≤ n)
    (tells : (i : ℕ) → i < n → p (get_or xs i d) ≡ true → get_or xs i d ≡ z)
    (all : all_of p (drop k xs) ≡ true) where
  tail-is : drop k xs ≡ replicate (n - k) z
  tail-is = ext_get_or d (drop k xs) (replicate (n - k) z)
      (simp (length-drop, length-replicate) (omega arith)) λ i h.
      let l : i < n - k = omega (arith, length-drop k xs) in
      get_or-drop k xs i d ∙ tells (k + i) (omega arith)
      (sym (ap p (get_or-drop k xs i d)) ∙ all-at p (drop k xs) d all i h)
      ∙ sym (get_or-replicate (n - k) i z d l)

  pub padded : xs ≡ pad n z (take k xs)
  padded = let t : length (take k xs) ≡ k = length-take-le k xs (omega arith) in
      sym (take-append-drop k xs) ∙ rw (t, tail-is)
