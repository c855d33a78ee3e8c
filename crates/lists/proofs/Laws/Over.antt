-- Writing over a part of a list, piece by piece. Definition: lists' over.
-- In order: nothing, one element, what the library writes to a part, an element after others, one part after another,
-- behind what lies there; one more behind what is written; a part read from elsewhere, a part of a part; the part from
-- an index on; a row after those of a padded list.
-- Elsewhere: what lies in a part, written over it, and lengths (Laws/Parts.antt).
-- Assumes nothing.
use mathlib.Core.Path.{◌≡◌, sym, ◌∙◌, ap}
use mathlib.Core.Logic.{◌⊎◌, ⊎_elim}
use mathlib.Core.List.{List, [], ◌∷◌, ◌++◌, append_assoc, append-nil}
use Prim.Native.Nat.{ℕ, suc, ◌+◌, ◌-◌, ◌≤◌, ◌<◌}
use native.Mathlib.Omega.{arith}
use lib.ListN.{length, take, drop, get_or, set, replicate, length-append, length-drop, length-replicate}
use lib.ListN.{drop_of_length-le, take-append-drop, replicate-append-replicate}
use lib.Seq.{length-take-le, drop_at, set_at, take-add, take-suc, take-take, drop-cons, drop-drop, set_split}
use lib.Seq.{take_all, take-set-le, take-append_seam, take-append-le, drop-append-le, drop-append-add}
use borrow.Rule.Slice.PartMut.{put_mid}
use Rattle.lists.specs.Lists.{pad, part, over}
use Rattle.lists.proofs.Laws.Parts.{length_part, drop-take, length_over, take-over, drop-over, part-over-before}
use Rattle.lists.proofs.Laws.Parts.{part-over-after, drop-replicate}

module _ {A : Type 0} where
  pub over-nil : (i : ℕ) (l : List A) → over i [] l ≡ l
  over-nil i l = let z : i + 0 ≡ i = omega arith in rw z (take-append-drop i l)

  pub over-one : (i : ℕ) (x : A) (l : List A) → i < length l → over i (x ∷ []) l ≡ set l i x
  over-one i x l h = let e : i + 1 ≡ suc i = omega arith in rw (set_split l i x h, e)

  -- what the library writes to a part
  pub put-over : (a k : ℕ) (vs xs : List A) → length vs ≡ k → put_mid a k xs vs ≡ over a vs xs
  put-over a k vs xs e = rw (sym e, drop-drop (length vs) a xs)

  drop-set-here : (i : ℕ) (x : A) (l : List A) → i < length l → drop i (set l i x) ≡ x ∷ drop (suc i) l
  drop-set-here i x l h = rw (set_split l i x h)
      (drop_at (take i l) (x ∷ drop (suc i) l) i (length-take-le i l (omega arith)))

  -- what is written after xs may be written first
  pub over_snoc : (i : ℕ) (xs : List A) (x : A) (l : List A) → i + length xs < length l
      → over i (xs ++ (x ∷ [])) l ≡ over i xs (set l (i + length xs) x)
  over_snoc i xs x l h = let j = i + length xs in let e : i + (length xs + 1) ≡ suc j = omega arith in
      rw (
        length-append xs (x ∷ []),
        e,
        append_assoc xs (x ∷ []) (drop (suc j) l),
        take-set-le i l j x (omega arith),
        drop-set-here j x l h,
      )

  module _ (i : ℕ) (xs ys l : List A) (fits : i + (length xs + length ys) ≤ length l) where
    drop-both : drop (i + length xs + length ys) (over i xs l) ≡ drop (i + length xs + length ys) l
    drop-both = sym (drop-drop (length ys) (i + length xs) (over i xs l))
        ∙ (ap (drop (length ys)) (drop-over i xs l (omega arith)) ∙ drop-drop (length ys) (i + length xs) l)

    -- one part after another
    pub over-append : over i (xs ++ ys) l ≡ over (i + length xs) ys (over i xs l)
    over-append = let n = i + length xs + length ys in let e : i + (length xs + length ys) ≡ n = omega arith in
        rw (take-over i xs l (omega arith), drop-both, length-append xs ys, e, append_assoc xs ys (drop n l))
        (sym (append_assoc (take i l) xs (ys ++ drop n l)))

  pub over-cons : (i : ℕ) (x : A) (xs l : List A) → i + suc (length xs) ≤ length l
      → over i (x ∷ xs) l ≡ over (i + 1) xs (set l i x)
  over-cons i x xs l h = over-append i (x ∷ []) xs l (omega arith)
      ∙ ap (over (i + 1) xs) (over-one i x l (omega arith))

  -- what lies there, and more behind it
  pub over-behind : (i n : ℕ) (vs l : List A) → i + n ≤ length l → over i (part i n l ++ vs) l ≡ over (i + n) vs l
  over-behind i n vs l h = let e : i + (n + length vs) ≡ i + n + length vs = omega arith in
      rw (length-append (part i n l) vs, length_part i n l h, e, take-add i n l) (simp append_assoc)

  -- ---- a loop that writes one element a turn

  pub over-push : (i : ℕ) (vs : List A) (x : A) (l : List A) → i + length vs < length l
      → set (over i vs l) (i + length vs) x ≡ over i (vs ++ (x ∷ [])) l
  over-push i vs x l h = sym (over-append i vs (x ∷ []) l (omega arith)
      ∙ over-one (i + length vs) x (over i vs l) (omega (arith, length_over i vs l (omega arith))))

  -- one more of xs over the front of ys, and all of ys gone
  pub put_next : (xs ys : List A) (j : ℕ) (d : A) → j < length xs → j < length ys
      → set (take j xs ++ drop j ys) j (get_or xs j d) ≡ take (suc j) xs ++ drop (suc j) ys
  put_next xs ys j d k h =
      rw (drop-cons ys j d h, take-suc xs j d k, append_assoc (take j xs) (get_or xs j d ∷ []) (drop (suc j) ys))
      (set_at (take j xs) (get_or ys j d) (drop (suc j) ys) (get_or xs j d) j (length-take-le j xs (omega arith)))

  pub copied_all : (xs ys : List A) (n : ℕ) → length ys ≡ n → take n xs ++ drop n ys ≡ take n xs
  copied_all xs ys n l = rw (drop_of_length-le ys {i = n} (omega arith)) (append-nil (take n xs))

  -- ---- a part read from elsewhere, and a part of a part

  pub part_apart : (i : ℕ) (vs l : List A) → i + length vs ≤ length l → (b n : ℕ)
      → (b + n ≤ i) ⊎ (i + length vs ≤ b) → part b n (over i vs l) ≡ part b n l
  part_apart i vs l fits b n = ⊎_elim (λ h. part-over-before i vs l fits b n h) (λ h. part-over-after i vs l fits b n h)

  pub part-part : (i m k n : ℕ) (l : List A) → k + n ≤ m → part k n (part i m l) ≡ part (i + k) n l
  part-part i m k n l h = let e : m ≡ k + (m - k) = omega arith in
      ap (λ (j : ℕ). take n (drop k (take j (drop i l)))) e
      ∙ (ap (take n) (drop-take k (m - k) (drop i l))
      ∙ (take-take n (m - k) (drop k (drop i l)) (omega arith) ∙ ap (take n) (drop-drop k i l)))

  -- what is written at the front of the part from index w on is written from w on
  pub over-tail : (w : ℕ) (xs l : List A) → w ≤ length l
      → take w l ++ (over 0 xs (take (length l - w) (drop w l)) ++ drop (length l - w) (drop w l)) ≡ over w xs l
  over-tail w xs l h = let t = drop w l in let n = length-drop w l in
      let z : 0 + length xs ≡ length xs = omega arith in
      rw (
        take_all (length l - w) t (omega arith),
        drop_of_length-le t {i = length l - w} (omega arith),
        append-nil (over 0 xs t),
        z,
        drop-drop (length xs) w l,
      )

  -- ---- over the first of two lists; a row of k elements after those of a padded list, itself padded

  pub over-left : (i : ℕ) (vs xs ys : List A) → i + length vs ≤ length xs → over i vs (xs ++ ys) ≡ over i vs xs ++ ys
  over-left i vs xs ys h =
      rw (
        take-append-le i xs ys (omega arith),
        drop-append-le (i + length vs) xs ys h,
        append_assoc (take i xs) (vs ++ drop (i + length vs) xs) ys,
        append_assoc vs (drop (i + length vs) xs) ys,
      )

  pub over-pad : (n k : ℕ) (z : A) (xs vs : List A) → length vs ≤ k → length xs + k ≤ n
      → over (length xs) vs (pad n z xs) ≡ pad n z (xs ++ pad k z vs)
  over-pad n k z xs vs h l =
      let a = replicate (k - length vs) z in let w : length (pad k z vs) ≡ k =
      (simp (length-append, length-replicate) (omega arith)) in
      let e : length (xs ++ pad k z vs) ≡ length xs + k = length-append xs (pad k z vs) ∙ rw w in
      let m : n - length xs - length vs ≡ k - length vs + (n - (length xs + k)) = omega arith in
      rw (
        e,
        take-append_seam xs (replicate (n - length xs) z),
        drop-append-add xs (replicate (n - length xs) z) (length vs),
        drop-replicate (length vs) (n - length xs) z,
        m,
        ← replicate-append-replicate (k - length vs) (n - (length xs + k)) z,
      )
      (sym (append_assoc xs (vs ++ a) (replicate (n - (length xs + k)) z)
      ∙ ap (λ ys. xs ++ ys) (append_assoc vs a (replicate (n - (length xs + k)) z))))
