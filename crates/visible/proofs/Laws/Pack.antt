-- Flags as bytes, one at a time. Definitions: rules' byte_of and packed.
-- In order: one more flag below the others, a byte's range; one more byte, stored; flags beyond the
-- rows.
-- Assumes nothing.
use mathlib.Core.Path.{◌≡◌, refl}
use mathlib.Core.Bool.{Bool, false, cond}
use mathlib.Core.List.{List, [], ◌∷◌, ◌++◌, append_assoc}
use Prim.Native.Nat.{ℕ, zero, suc, ◌+◌, ◌-◌, ◌*◌, ◌≤◌, ◌<◌}
use native.Mathlib.Omega.{arith}
use lib.ListN.{length, take, drop, get_or, set, replicate, length-take}
use lib.Seq.{take_all, drop-cons, drop-drop, set_at, take-nil, drop-nil}
use Rattle.rules.specs.Bitmap.{bytes_for, byte_of, packed, bitmap_after}
use Rattle.laws.proofs.Laws.Bitmap.{byte_of-small, length-packed}

-- ---- one byte

pub byte-cons : (bs : List Bool) (i m : ℕ) → i < length bs
    → byte_of (take (suc m) (drop i bs)) ≡ cond (get_or bs i false) 1 0 + 2 * byte_of (take m (drop (suc i) bs))
unfolding byte_of
byte-cons bs i m h = rw (drop-cons bs i false h)

pub byte_fits : (bs : List Bool) (m : ℕ) → m ≤ 8 → byte_of (take m bs) < 256
byte_fits bs m h = rw (take_all 8 (take m bs) (omega (arith, length-take m bs))) at (byte_of-small (take m bs))

-- ---- the bytes

-- byte n
abbrev byte_at : ℕ → List Bool → ℕ
byte_at n bs = byte_of (take 8 (drop (8 * n) bs))

packed_snoc : (n : ℕ) (bs : List Bool) → packed (suc n) bs ≡ packed n bs ++ (byte_at n bs ∷ [])
unfolding packed
packed_snoc zero bs = refl
packed_snoc (suc n) bs = let e : 8 + 8 * n ≡ 8 * suc n = omega arith in
    rw (packed_snoc n (drop 8 bs), drop-drop (8 * n) 8 bs, e)

pub pack-next : (bs : List Bool) (lent : List ℕ) (j : ℕ) → j < length lent
    → set (packed j bs ++ drop j lent) j (byte_at j bs) ≡ packed (suc j) bs ++ drop (suc j) lent
pack-next bs lent j h =
    rw (drop-cons lent j 0 h, packed_snoc j bs, append_assoc (packed j bs) (byte_at j bs ∷ []) (drop (suc j) lent))
    (set_at (packed j bs) (get_or lent j 0) (drop (suc j) lent) (byte_at j bs) j (length-packed j bs))

-- ---- false flags beyond the rows are unused bits

byte-pad : (m k : ℕ) (bs : List Bool) → byte_of (take m (bs ++ replicate k false)) ≡ byte_of (take m bs)
unfolding byte_of
byte-pad zero k bs = refl
byte-pad (suc m) zero [] = refl
byte-pad (suc m) (suc k) [] = let ih = byte-pad m k [] in rw (ih, take-nil {A = Bool} m)
byte-pad (suc m) k (b ∷ bs) = rw (byte-pad m k bs)

drop-pad : (m k : ℕ) (bs : List Bool)
    → drop m (bs ++ replicate k false) ≡ drop m bs ++ replicate (k - (m - length bs)) false
drop-pad zero k bs = let z : k - (0 - length bs) ≡ k = omega arith in rw z
drop-pad (suc m) zero [] = let z : 0 - (suc m - 0) ≡ 0 = omega arith in rw z
drop-pad (suc m) (suc k) [] = let z : suc k - (suc m - 0) ≡ k - (m - 0) = omega arith in
    rw (z, drop-pad m k [], drop-nil {A = Bool} m)
drop-pad (suc m) k (b ∷ bs) = let z : suc m - suc (length bs) ≡ m - length bs = omega arith in
    rw (z, drop-pad m k bs)

packed-pad : (n k : ℕ) (bs : List Bool) → packed n (bs ++ replicate k false) ≡ packed n bs
unfolding packed
packed-pad zero k bs = refl
packed-pad (suc n) k bs =
    rw (byte-pad 8 k bs, drop-pad 8 k bs, packed-pad n (k - (8 - length bs)) (drop 8 bs))

pub drop_false : (m k : ℕ) → drop m (replicate k false) ≡ replicate (k - m) false
drop_false zero k = let z : k - 0 ≡ k = omega arith in rw z
drop_false (suc m) zero = let z : 0 - suc m ≡ 0 = omega arith in rw z
drop_false (suc m) (suc k) = let z : suc k - suc m ≡ k - m = omega arith in rw z (drop_false m k)

pub bitmap-pad : (rows k : ℕ) (bs : List Bool) (lent : List ℕ) → length bs ≡ rows
    → packed (bytes_for rows) (bs ++ replicate k false) ++ drop (bytes_for rows) lent ≡ bitmap_after bs lent
unfolding bitmap_after
bitmap-pad rows k bs lent l = rw (l, packed-pad (bytes_for rows) k bs)
