-- Numbers as bytes, low byte first: what is written is read back. 02 (v).
-- In order: one number; numbers one after the other, with what is behind them; lists of numbers, by their counts.
-- Definitions: rules/specs/Checkpoint.antt.
-- Assumes nothing.
use mathlib.Core.Path.{◌≡◌, refl, ap}
use mathlib.Core.Bool.{Bool, true}
use mathlib.Core.List.{List, [], ◌∷◌, ◌++◌, map, append_assoc}
use Prim.Native.Nat.{ℕ, zero, suc, ◌*◌, ◌/◌, ◌^◌, ◌<◌}
use native.Mathlib.Nat.{pow-succ'}
use native.Mathlib.Omega.{arith}
use lib.ListN.{length, drop, get_or, length-append}
use lib.Seq.{take_at, drop_at}
use Rattle.lists.specs.Lists.{gather, all_of}
use Rattle.lists.proofs.Laws.All.{All, All_every}
use Rattle.lists.proofs.Laws.Select.{length-rows}
use Rattle.rules.specs.Checkpoint.{bytes_of, number_of, numbers_in, body_size, rows_in, sum_of}

-- ---- one number

pub length-bytes_of : (n x : ℕ) → length (bytes_of n x) ≡ n
unfolding bytes_of
length-bytes_of zero x = refl
length-bytes_of (suc n) x = ap suc (length-bytes_of n (x / 256))

-- n bytes hold x
abbrev pub Fits : ℕ → ℕ → Type 0
Fits n x = x < 256 ^ n

pub number_of-bytes_of : (n x : ℕ) → Fits n x → number_of (bytes_of n x) ≡ x
unfolding bytes_of number_of
number_of-bytes_of zero x h = omega arith
number_of-bytes_of (suc n) x h =
    let g : x < 256 * 256 ^ n = rw (pow-succ' 256 n) at h in
    let ih = number_of-bytes_of n (x / 256) (omega arith) in
    omega arith

-- ---- numbers one after the other

pub length-numbers_in : (n k : ℕ) (bs : List ℕ) → length (numbers_in n k bs) ≡ k
unfolding numbers_in
length-numbers_in n zero bs = refl
length-numbers_in n (suc k) bs = ap suc (length-numbers_in n k (drop n bs))

pub length-numbers : (n : ℕ) (xs : List ℕ) → length (gather (bytes_of n) xs) ≡ n * length xs
length-numbers n xs = length-rows (bytes_of n) n xs (All_every (λ x. length (bytes_of n x) ≡ n) (length-bytes_of n) xs)

pub numbers_in-bytes : (n : ℕ) (xs ys : List ℕ) → All (Fits n) xs
    → numbers_in n (length xs) (gather (bytes_of n) xs ++ ys) ≡ xs
unfolding numbers_in
numbers_in-bytes n [] ys h = refl
numbers_in-bytes n (x ∷ xs) ys h =
    let more = gather (bytes_of n) xs ++ ys in
    rw (
      append_assoc (bytes_of n x) (gather (bytes_of n) xs) ys,
      take_at (bytes_of n x) more n (length-bytes_of n x),
      drop_at (bytes_of n x) more n (length-bytes_of n x),
      number_of-bytes_of n x h.0,
      numbers_in-bytes n xs ys h.1,
    )

-- ---- lists of numbers of 8 bytes, one after the other, by their counts

pub length-bodies : (rows : List (List ℕ)) → length (gather (gather (bytes_of 8)) rows) ≡ body_size (map length rows)
length-bodies [] = refl
length-bodies (ws ∷ rows) = let more = gather (gather (bytes_of 8)) rows in
    rw (length-append (gather (bytes_of 8) ws) more, length-numbers 8 ws, length-bodies rows) (omega arith)

pub length-rows_in : (counts bs : List ℕ) → length (rows_in counts bs) ≡ length counts
unfolding rows_in
length-rows_in [] bs = refl
length-rows_in (c ∷ cs) bs = ap suc (length-rows_in cs (drop (8 * c) bs))

pub rows_in-count : (counts bs : List ℕ) (p : ℕ) → length (get_or (rows_in counts bs) p []) ≡ get_or counts p 0
unfolding rows_in
rows_in-count [] bs p = refl
rows_in-count (c ∷ cs) bs zero = length-numbers_in 8 c bs
rows_in-count (c ∷ cs) bs (suc p) = rows_in-count cs (drop (8 * c) bs) p

pub rows_in-bodies : (rows : List (List ℕ)) (rest : List ℕ) → All (All (Fits 8)) rows
    → rows_in (map length rows) (gather (gather (bytes_of 8)) rows ++ rest) ≡ rows
unfolding rows_in
rows_in-bodies [] rest h = refl
rows_in-bodies (ws ∷ rows) rest h =
    let first = gather (bytes_of 8) ws in let more = gather (gather (bytes_of 8)) rows in
    rw (
      append_assoc first more rest,
      numbers_in-bytes 8 ws (more ++ rest) h.0,
      drop_at first (more ++ rest) (8 * length ws) (length-numbers 8 ws),
      rows_in-bodies rows rest h.1,
    )

-- ---- a test of each length, and lengths that are all 0

pub all-lengths : (t : ℕ → Bool) (rows : List (List ℕ)) → All (λ ws. t (length ws) ≡ true) rows
    → all_of t (map length rows) ≡ true
all-lengths t [] h = refl
all-lengths t (ws ∷ rows) h = rw h.0 (all-lengths t rows h.1)

pub sum-none : (rows : List (List ℕ)) → All (λ ws. ws ≡ []) rows → sum_of (map length rows) ≡ 0
sum-none [] h = refl
sum-none (ws ∷ rows) h = let z = ap (length {A = ℕ}) h.0 in let ih = sum-none rows h.1 in omega arith
