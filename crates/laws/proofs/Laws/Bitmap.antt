-- The bitmap that a scan writes: its bits are the flags. 01 "Who sees a row", last paragraph.
-- In order: one byte; the bytes written; each bit; lengths and the later bytes; the words at the ones.
-- Definitions: rules/specs/Bitmap.antt, and bit_at and words_at_ones of rules/specs/Claim.antt.
-- Assumes nothing.
use mathlib.Core.Path.{◌≡◌, refl, sym, ◌∙◌, ap}
use mathlib.Core.Bool.{Bool, true, false, cond}
use mathlib.Core.List.{List, [], ◌∷◌, ◌++◌}
use Prim.Native.Nat.{ℕ, zero, suc, ◌+◌, ◌*◌, ◌/◌, ◌%◌, ◌^◌, ◌≤◌, ◌<◌}
use native.Mathlib.Nat.{pow-succ', zero-div, div-div-eq-div-mul}
use native.Mathlib.Omega.{arith}
use lib.Dec.{eqb}
use lib.ListN.{length, take, drop, get_or, get_or-append, get_or-eq_default}
use lib.Seq.{get_or-take, get_or-drop, drop_at, drop-drop, drop-cons}
use Rattle.lists.proofs.Laws.All.{All}
use Rattle.lists.proofs.Laws.Select.{select, select-nil}
use Rattle.rules.specs.Bitmap.{bytes_for, byte_of, packed, bitmap_after}
use Rattle.rules.specs.Claim.{bit_at, words_at_ones}

-- ---- one byte

abbrev pub bit_of : Bool → ℕ
bit_of b = cond b 1 0

bit_of-small : (b : Bool) → bit_of b < 2
bit_of-small true = omega arith
bit_of-small false = omega arith

-- bit k is flag k, or 0 past the flags
pub byte_of-bit : (k : ℕ) (bs : List Bool) → byte_of bs / 2 ^ k % 2 ≡ bit_of (get_or bs k false)
unfolding byte_of
byte_of-bit k [] = rw (zero-div (2 ^ k))
byte_of-bit zero (b ∷ bs) = let g = bit_of-small b in omega arith
byte_of-bit (suc k) (b ∷ bs) =
    let g = bit_of-small b in let h : (bit_of b + 2 * byte_of bs) / 2 ≡ byte_of bs = omega arith in
    rw (pow-succ' 2 k, ← div-div-eq-div-mul (bit_of b + 2 * byte_of bs) 2 (2 ^ k), h) (byte_of-bit k bs)

byte_of-below : (k : ℕ) (bs : List Bool) → byte_of (take k bs) < 2 ^ k
unfolding byte_of
byte_of-below zero bs = omega arith
byte_of-below (suc k) [] = let ih = byte_of-below k [] in rw (pow-succ' 2 k) (omega arith)
byte_of-below (suc k) (b ∷ bs) = let ih = byte_of-below k bs in let g = bit_of-small b in
    rw (pow-succ' 2 k) (omega arith)

pub byte_of-small : (bs : List Bool) → byte_of (take 8 bs) < 256
byte_of-small bs = byte_of-below 8 bs

-- one more flag is one more bit
pub byte_of_snoc : (bs : List Bool) (b : Bool) → byte_of (bs ++ (b ∷ [])) ≡ byte_of bs + cond b (2 ^ length bs) 0
unfolding byte_of
byte_of_snoc [] true = refl
byte_of_snoc [] false = refl
byte_of_snoc (c ∷ bs) true = let ih = byte_of_snoc bs true in rw (pow-succ' 2 (length bs)) (omega arith)
byte_of_snoc (c ∷ bs) false = let ih = byte_of_snoc bs false in omega arith

-- ---- the bytes written

pub length-packed : (n : ℕ) (bs : List Bool) → length (packed n bs) ≡ n
unfolding packed
length-packed zero bs = refl
length-packed (suc n) bs = ap suc (length-packed n (drop 8 bs))

pub packed-small : (n : ℕ) (bs : List Bool) → All (λ b. b < 256) (packed n bs)
unfolding packed
packed-small zero bs = tt
packed-small (suc n) bs = (byte_of-small bs, packed-small n (drop 8 bs))

pub get_d-packed : (n q : ℕ) (bs : List Bool) → q < n → get_or (packed n bs) q 0 ≡ byte_of (take 8 (drop (8 * q) bs))
unfolding packed
get_d-packed zero q bs h = absurd (omega arith)
get_d-packed (suc n) zero bs h = refl
get_d-packed (suc n) (suc q) bs h = let e : 8 + 8 * q ≡ 8 * suc q = omega arith in
    get_d-packed n q (drop 8 bs) (omega arith) ∙ rw (drop-drop (8 * q) 8 bs, e)

-- ---- each bit of the bytes that the flags need is its flag, and 0 past the last flag

eqb-bit_of : (b : Bool) → eqb (bit_of b) 1 ≡ b
eqb-bit_of true = refl
eqb-bit_of false = refl

module _ (bs : List Bool) (lent : List ℕ) where
  pub bitmap-byte : (q : ℕ) → q < bytes_for (length bs)
      → get_or (bitmap_after bs lent) q 0 ≡ byte_of (take 8 (drop (8 * q) bs))
  unfolding bitmap_after
  bitmap-byte q h = let n = bytes_for (length bs) in let g = length-packed n bs in
      get_or-append (packed n bs) (drop n lent) 0 q (rw g h) ∙ get_d-packed n q bs h

  pub bitmap-bit : (n : ℕ) → n / 8 < bytes_for (length bs) → bit_at (bitmap_after bs lent) n ≡ get_or bs n false
  bitmap-bit n h = let e : 8 * (n / 8) + n % 8 ≡ n = omega arith in let r : n % 8 < 8 = omega arith in
      rw (
        bitmap-byte (n / 8) h,
        byte_of-bit (n % 8) (take 8 (drop (8 * (n / 8)) bs)),
        get_or-take 8 (drop (8 * (n / 8)) bs) (n % 8) false r,
        get_or-drop (8 * (n / 8)) bs (n % 8) false,
        e,
      )
      (eqb-bit_of (get_or bs n false))

  pub bitmap-flag : (n : ℕ) → n < length bs → bit_at (bitmap_after bs lent) n ≡ get_or bs n false
  unfolding bytes_for
  bitmap-flag n h = bitmap-bit n (omega arith)

  pub bitmap_unused : (n : ℕ) → length bs ≤ n → n < 8 * bytes_for (length bs) → bit_at (bitmap_after bs lent) n ≡ false
  bitmap_unused n h k = bitmap-bit n (omega arith) ∙ get_or-eq_default bs false h

  -- ---- lengths and the later bytes

  pub bitmap-later : drop (bytes_for (length bs)) (bitmap_after bs lent) ≡ drop (bytes_for (length bs)) lent
  unfolding bitmap_after
  bitmap-later = let n = bytes_for (length bs) in drop_at (packed n bs) (drop n lent) n (length-packed n bs)

-- ---- the words at the ones are those at the flags

words-from : (bytes : List ℕ) (bs : List Bool) → ((n : ℕ) → n < length bs → bit_at bytes n ≡ get_or bs n false)
    → (n : ℕ) (ws : List ℕ) → n + length ws ≡ length bs → words_at_ones bytes n ws ≡ select (drop n bs) ws
unfolding words_at_ones
words-from bytes bs same n [] e = sym (select-nil (drop n bs))
words-from bytes bs same n (w ∷ ws) e = let h : n < length bs = omega arith in
    rw (same n h, words-from bytes bs same (suc n) ws (omega arith), drop-cons bs n false h)

pub bitmap-words : (bs : List Bool) (lent ws : List ℕ) → length ws ≡ length bs
    → words_at_ones (bitmap_after bs lent) 0 ws ≡ select bs ws
bitmap-words bs lent ws e = words-from (bitmap_after bs lent) bs (bitmap-flag bs lent) 0 ws (omega arith)
