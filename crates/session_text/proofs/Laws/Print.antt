-- Laws of the decimal digits. Definitions: specs/Print.antt.
-- In order: a number below 10, one of more digits, how many there are, writing them; values.
-- Assumes nothing.
use mathlib.Core.Path.{◌≡◌, sym, ◌∙◌, ap}
use mathlib.Core.List.{List, [], ◌∷◌, ◌++◌}
use Prim.Native.Nat.{ℕ, zero, suc, ◌+◌, ◌-◌, ◌*◌, ◌/◌, ◌%◌, ◌^◌, ◌≤◌, ◌<◌}
use native.Mathlib.Omega.{arith}
use native.Mathlib.Nat.{mod-eq_of_lt, pow-le-pow_right, pow-suc}
use native.Mathlib.Numerals.{add-one}
use lib.ListN.{length, drop, get_or, set, length-append}
use lib.Dec.{ltb, leb}
use lib.Seq.{drop-cons}
use borrow.Author.Tests.{lt-ltb, le-ltb, le-leb, leb-true}
use Rattle.lists.specs.Lists.{over, gather}
use Rattle.lists.proofs.Laws.Bools.{split, same_test}
use Rattle.session_text.specs.Print.{decimal_by, decimal, spaced}
use Rattle.lists.proofs.Laws.Over.{over-one, over_snoc, over-append}

pub decimal-small : (n : ℕ) → n < 10 → decimal n ≡ (48 + n) ∷ []
unfolding decimal_by
decimal-small n h = rw (lt-ltb n 10 h)

-- a longer count of digits than needed changes nothing
decimal_by-more : (k n : ℕ) → n < 10 ^ suc k → decimal_by (suc k) n ≡ decimal_by k n
unfolding decimal_by
decimal_by-more zero n h = let g : n < 10 = omega arith in rw (lt-ltb n 10 g, mod-eq_of_lt g)
decimal_by-more (suc k) n h = rw (decimal_by-more k (n / 10) (omega arith))

decimal_by-step : (k n : ℕ) → 10 ≤ n → decimal_by (suc k) n ≡ decimal_by k (n / 10) ++ ((48 + n % 10) ∷ [])
unfolding decimal_by
decimal_by-step k n l = rw (le-ltb n 10 l)

pub decimal_large : (n : ℕ) → 10 ≤ n → n < 2 ^ 64 → decimal n ≡ decimal (n / 10) ++ ((48 + n % 10) ∷ [])
decimal_large n l h = decimal_by-step 18 n l
    ∙ ap (λ (ds : List ℕ). ds ++ ((48 + n % 10) ∷ [])) (sym (decimal_by-more 18 (n / 10) (omega arith)))

-- ---- how many

some-digits : (k n : ℕ) → 1 ≤ length (decimal_by k n)
unfolding decimal_by
some-digits zero n = omega arith
some-digits (suc k) n = split (ltb n 10) (λ t. rw t (omega arith))
    (λ f. rw (f, length-append (decimal_by k (n / 10)) ((48 + n % 10) ∷ [])) (omega arith))

few-digits : (k n : ℕ) → length (decimal_by k n) ≤ suc k
unfolding decimal_by
few-digits zero n = omega arith
few-digits (suc k) n = let ih = few-digits k (n / 10) in split (ltb n 10) (λ t. rw t (omega arith))
    (λ f. rw (f, length-append (decimal_by k (n / 10)) ((48 + n % 10) ∷ [])) (omega arith))

pub decimal-some : (n : ℕ) → 1 ≤ length (decimal n)
decimal-some n = some-digits 19 n

pub decimal-few : (n : ℕ) → length (decimal n) ≤ 20
decimal-few n = few-digits 19 n

-- one digit more than without the last
pub length_large : (n : ℕ) → 10 ≤ n → n < 2 ^ 64 → length (decimal n) ≡ suc (length (decimal (n / 10)))
length_large n l h = ap length (decimal_large n l h)
    ∙ (length-append (decimal (n / 10)) ((48 + n % 10) ∷ []) ∙ omega arith)

-- from a power of 10 up to the next
length_power : (k n : ℕ) → 10 ^ k ≤ n → n < 10 ^ suc k → n < 2 ^ 64 → length (decimal n) ≡ suc k
length_power zero n l h b = ap length (decimal-small n (omega arith))
length_power (suc k) n l h b =
    let p : 1 ≤ 10 ^ k = pow-le-pow_right (omega arith) {i = 0} {j = k} (omega arith) in
    length_large n (omega arith) b ∙ ap suc (length_power k (n / 10) (omega arith) (omega arith) (omega arith))

pub power-next : (m : ℕ) → 10 ^ m * 10 ≡ 10 ^ (m + 1)
power-next m = rw add-one (sym (pow-suc 10 m))

-- of m digits are those below 10 ^ m and, where m is not 1, not below the power before it
pub length-between : (m n : ℕ) → 1 ≤ m → (2 ≤ m → 10 ^ (m - 1) ≤ n) → n < 10 ^ m → n < 2 ^ 64
    → m ≡ length (decimal n)
length-between zero n o l h b = absurd (omega arith)
length-between (suc zero) n o l h b = sym (ap length (decimal-small n (omega arith)))
length-between (suc (suc k)) n o l h b =
    let e : suc (suc k) - 1 ≡ suc k = omega arith in sym (length_power (suc k) n (rw e at (l (omega arith))) h b)

-- ---- written, the last digit first

pub put_next : (i n : ℕ) (l : List ℕ) → 10 ≤ n → n < 2 ^ 64 → i + length (decimal n) ≤ length l
    → over i (decimal n) l ≡ over i (decimal (n / 10)) (set l (i + length (decimal (n / 10))) (48 + n % 10))
put_next i n l h b f =
    ap (λ (ds : List ℕ). over i ds l) (decimal_large n h b)
    ∙ over_snoc i (decimal (n / 10)) (48 + n % 10) l (omega (arith, length_large n h b))

pub put_last : (i n : ℕ) (l : List ℕ) → n < 10 → i < length l → over i (decimal n) l ≡ set l i (48 + n)
put_last i n l h f = ap (λ (ds : List ℕ). over i ds l) (decimal-small n h) ∙ over-one i (48 + n) l f

-- ---- values, each after a blank

pub values-next : (vs : List ℕ) (i : ℕ) → i < length vs
    → gather spaced (drop i vs) ≡ spaced (get_or vs i 0) ++ gather spaced (drop (suc i) vs)
values-next vs i h = rw (drop-cons vs i 0 h)

pub values_length : (vs : List ℕ) (i : ℕ) → i < length vs
    → length (gather spaced (drop i vs)) ≡ length (spaced (get_or vs i 0)) + length (gather spaced (drop (suc i) vs))
values_length vs i h = ap length (values-next vs i h)
    ∙ length-append (spaced (get_or vs i 0)) (gather spaced (drop (suc i) vs))

pub values-put : (vs : List ℕ) (i at : ℕ) (l : List ℕ) → i < length vs
    → at + length (gather spaced (drop i vs)) ≤ length l
    → over at (gather spaced (drop i vs)) l
    ≡ over (at + length (spaced (get_or vs i 0))) (gather spaced (drop (suc i) vs))
    (over at (spaced (get_or vs i 0)) l)
values-put vs i at l h f = ap (λ (bs : List ℕ). over at bs l) (values-next vs i h)
    ∙ over-append at (spaced (get_or vs i 0)) (gather spaced (drop (suc i) vs)) l (omega (arith, values_length vs i h))

-- room for two parts is room for the second after the first
pub leb-rest : (n m k : ℕ) → n ≤ k → leb (n + m) k ≡ leb m (k - n)
leb-rest n m k h = same_test (leb (n + m) k) (leb m (k - n))
    (λ t. le-leb m (k - n) (omega (arith, leb-true (n + m) k t)))
    (λ t. le-leb (n + m) k (omega (arith, leb-true m (k - n) t)))
