-- Numbers as bytes, piece by piece. Definitions: rules' number_of, numbers_in and bytes_of.
-- In order: the number of two bytes and of eight; the bytes of a number; a number more read, weighed, written; those
-- that are left written.
-- Assumes nothing.
use mathlib.Core.Path.{◌≡◌, refl, sym, ◌∙◌}
use mathlib.Core.List.{List, [], ◌∷◌, ◌++◌, append-nil}
use Prim.Native.Nat.{ℕ, zero, suc, ◌+◌, ◌*◌, ◌/◌, ◌%◌, ◌^◌, ◌≤◌}
use native.Mathlib.Nat.{mul-add, mul-suc}
use native.Mathlib.Omega.{arith}
use lib.ListN.{length, take, drop, get_or, set, drop_of_length-le}
use lib.Seq.{take-add, drop-drop}
use Rattle.std.specs.Int.{w16, w64, byte_at, bytes_low_first, from_le_bytes, to_le_bytes}
use Rattle.std.proofs.Math.Nat.{div-one, div-div-eq-div-mul}
use Rattle.lists.specs.Lists.{gather, part, over}
use Rattle.lists.proofs.Laws.Select.{gather_append}
use Rattle.lists.proofs.Laws.Parts.{length_part}
use Rattle.lists.proofs.Laws.Places.{from_next}
use Rattle.lists.proofs.Laws.Over.{over-nil, over-cons, over-append}
use Rattle.rules.specs.Weight.{milligrams, weight}
use Rattle.rules.specs.Checkpoint.{number_of, numbers_in, bytes_of}
use Rattle.laws.proofs.Laws.Bytes.{length-bytes_of, length-numbers_in, length-numbers}

-- ---- a number and its bytes, as the library reads and writes them

pub number_2 : (bs : List ℕ) → length bs ≡ 2 → from_le_bytes w16 bs ≡ number_of bs
unfolding number_of
number_2 (a ∷ b ∷ []) l = omega arith
number_2 [] l = absurd (omega arith)
number_2 (a ∷ []) l = absurd (omega arith)
number_2 (a ∷ b ∷ c ∷ bs) l = absurd (omega arith)

pub number_8 : (bs : List ℕ) → length bs ≡ 8 → from_le_bytes w64 bs ≡ number_of bs
unfolding number_of
number_8 (a ∷ b ∷ c ∷ d ∷ e ∷ f ∷ g ∷ h ∷ []) l = omega arith
number_8 [] l = absurd (omega arith)
number_8 (a ∷ []) l = absurd (omega arith)
number_8 (a ∷ b ∷ []) l = absurd (omega arith)
number_8 (a ∷ b ∷ c ∷ []) l = absurd (omega arith)
number_8 (a ∷ b ∷ c ∷ d ∷ []) l = absurd (omega arith)
number_8 (a ∷ b ∷ c ∷ d ∷ e ∷ []) l = absurd (omega arith)
number_8 (a ∷ b ∷ c ∷ d ∷ e ∷ f ∷ []) l = absurd (omega arith)
number_8 (a ∷ b ∷ c ∷ d ∷ e ∷ f ∷ g ∷ []) l = absurd (omega arith)
number_8 (a ∷ b ∷ c ∷ d ∷ e ∷ f ∷ g ∷ h ∷ i ∷ bs) l = absurd (omega arith)

-- byte i, and those above it
byte_is : (i n : ℕ) → byte_at i n ≡ n / 256 ^ i % 256
byte_is zero n = rw (div-one n)
byte_is (suc i) n = refl

bytes_are : (k i n : ℕ) → bytes_low_first i k n ≡ bytes_of k (n / 256 ^ i)
unfolding bytes_of
bytes_are zero i n = refl
bytes_are (suc k) i n = let p : 256 ^ suc i ≡ 256 ^ i * 256 = omega arith in
    rw (byte_is i n, bytes_are k (suc i) n, p, div-div-eq-div-mul n (256 ^ i) 256)

take_bytes : (k m x : ℕ) → k ≤ m → take k (bytes_of m x) ≡ bytes_of k x
unfolding bytes_of
take_bytes zero m x h = refl
take_bytes (suc k) zero x h = absurd (omega arith)
take_bytes (suc k) (suc m) x h = rw (take_bytes k m (x / 256) (omega arith))

-- the low bytes of a word
pub low_bytes : (k x : ℕ) → k ≤ 8 → take k (to_le_bytes w64 x) ≡ bytes_of k x
low_bytes k x h = rw (bytes_are 8 0 x, div-one x, take_bytes k 8 x h)

-- ---- numbers of w bytes, one after the other

pub numbers-cons : (w n at : ℕ) (bs : List ℕ)
    → numbers_in w (suc n) (drop at bs) ≡ number_of (part at w bs) ∷ numbers_in w n (drop (at + w) bs)
unfolding numbers_in
numbers-cons w n at bs = rw (drop-drop w at bs)

-- all of them are to be read
pub read_all : (w n at : ℕ) (bs l : List ℕ) → length l ≡ n
    → over 0 (numbers_in w n (drop at bs)) l ≡ numbers_in w n (drop at bs)
read_all w n at bs l e = let vs = numbers_in w n (drop at bs) in let m = length-numbers_in w n (drop at bs) in
    rw (drop_of_length-le l {i = 0 + length vs} (omega arith)) (append-nil vs)

-- one is read to index i of l, and n others are to come
pub read_next : (w n at i : ℕ) (bs l : List ℕ) → i + suc n ≤ length l
    → over (i + 1) (numbers_in w n (drop (at + w) bs)) (set l i (number_of (part at w bs)))
    ≡ over i (numbers_in w (suc n) (drop at bs)) l
read_next w n at i bs l h = let xs = numbers_in w n (drop (at + w) bs) in
    rw (numbers-cons w n at bs)
    (sym (over-cons i (number_of (part at w bs)) xs l (omega (arith, length-numbers_in w n (drop (at + w) bs)))))

pub read-end : (w k at i : ℕ) (bs l : List ℕ) → k ≡ 0 → over i (numbers_in w k (drop at bs)) l ≡ l
unfolding numbers_in
read-end w k at i bs l e = rw e (over-nil i l)

-- one is weighed, and n others are to come
pub weight-next : (w n at : ℕ) (bs : List ℕ) → weight (numbers_in w (suc n) (drop at bs))
    ≡ milligrams (number_of (part at w bs)) + weight (numbers_in w n (drop (at + w) bs))
unfolding weight
weight-next w n at bs = rw (numbers-cons w n at bs)

pub weight-end : (w k : ℕ) (bs : List ℕ) → k ≡ 0 → weight (numbers_in w k bs) ≡ 0
unfolding weight numbers_in
weight-end w k bs e = rw e

-- those of v bytes behind one of w
pub write-behind : (w v at x : ℕ) (xs l : List ℕ) → at + (w + v * length xs) ≤ length l
    → over (at + w) (gather (bytes_of v) xs) (over at (bytes_of w x) l)
    ≡ over at (bytes_of w x ++ gather (bytes_of v) xs) l
write-behind w v at x xs l h = let n = length-bytes_of w x in let m = length-numbers v xs in
    let e : at + w ≡ at + length (bytes_of w x) = omega arith in
    rw e (sym (over-append at (bytes_of w x) (gather (bytes_of v) xs) l (omega arith)))

-- one of xs is written, that at index i, and n others are to come
pub write-next : (w n at i : ℕ) (xs l : List ℕ) → i + suc n ≤ length xs → at + w * suc n ≤ length l
    → over (at + w) (gather (bytes_of w) (part (i + 1) n xs)) (over at (bytes_of w (get_or xs i 0)) l)
    ≡ over at (gather (bytes_of w) (part i (suc n) xs)) l
write-next w n at i xs l h k = let m : length (part (i + 1) n xs) ≡ n = length_part (i + 1) n xs (omega arith) in
    let fits : at + (w + w * n) ≤ length l = omega (arith, mul-suc w n) in
    rw (from_next xs 0 i (omega arith)) (write-behind w w at (get_or xs i 0) (part (i + 1) n xs) l (rw m fits))

pub write-end : (w k at i : ℕ) (xs l : List ℕ) → k ≡ 0 → over at (gather (bytes_of w) (part i k xs)) l ≡ l
write-end w k at i xs l e = rw e (over-nil at l)

-- k of xs are written, those from index i on, and n others are to come
pub write-rest : (w k n at i : ℕ) (xs l : List ℕ) → i + (k + n) ≤ length xs → at + w * (k + n) ≤ length l
    → over (at + w * k) (gather (bytes_of w) (part (i + k) n xs)) (over at (gather (bytes_of w) (part i k xs)) l)
    ≡ over at (gather (bytes_of w) (part i (k + n) xs)) l
write-rest w k n at i xs l h f = let ps = part i k xs in let qs = part (i + k) n xs in
    let a = gather (bytes_of w) ps in let b = gather (bytes_of w) qs in
    let p : length a ≡ w * k = length-numbers w ps ∙ rw (length_part i k xs (omega arith)) in
    let q : length b ≡ w * n = length-numbers w qs ∙ rw (length_part (i + k) n xs (omega arith)) in
    rw (take-add k n (drop i xs), drop-drop k i xs, gather_append (bytes_of w) ps qs, ← p)
    (sym (over-append at a b l (omega (arith, mul-add w k n))))
