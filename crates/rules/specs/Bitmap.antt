-- The bitmap that a scan writes, byte for byte. 01 "Who sees a row", last paragraph.
-- In order: bytes_for, byte_of, packed, bitmap_after. Laws: laws/proofs/Laws/Bitmap.antt.
-- Assumes nothing.
use Rattle.std.specs.Prelude.{Bool, cond, List, [], ◌∷◌, ◌++◌, ℕ, zero, suc, ◌+◌, ◌*◌, ◌/◌, length, take, drop}

-- the bytes that n rows need
unfoldable pub bytes_for : ℕ → ℕ
bytes_for n = (n + 7) / 8

-- a byte of at most eight flags, the first lowest, unused bits 0
unfoldable pub byte_of : List Bool → ℕ
byte_of [] = 0
byte_of (b ∷ bs) = cond b 1 0 + 2 * byte_of bs

-- the first n bytes
unfoldable pub packed : ℕ → List Bool → List ℕ
packed zero bs = []
packed (suc n) bs = byte_of (take 8 bs) ∷ packed n (drop 8 bs)

-- the lent bytes at exit: later bytes stay
unfoldable pub bitmap_after : List Bool → List ℕ → List ℕ
bitmap_after bs lent = let n = bytes_for (length bs) in packed n bs ++ drop n lent
