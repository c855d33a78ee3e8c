-- The words and numbers of a line, byte by byte. Definitions: specs/Grammar.antt.
-- In order: the first word and the others; what is left of a line after a value so far: whether it is numbers
-- (ok_from),
-- their values (values_from), how many blanks; one byte more of each; a line that is numbers.
-- Assumes nothing.
use mathlib.Core.Path.{◌≡◌, refl, sym, ◌∙◌, ap}
use mathlib.Core.Bool.{Bool, true, false, ◌&&◌, ◌||◌}
use mathlib.Core.List.{List, [], ◌∷◌, map}
use Prim.Native.Nat.{ℕ, suc, ◌+◌, ◌-◌, ◌*◌, ◌^◌, ◌≤◌, ◌<◌}
use native.Mathlib.Omega.{arith}
use lib.ListN.{length, length-map}
use lib.Dec.{ltb, leb, eqb}
use borrow.Author.Tests.{ltb-true, ltb-false, lt-ltb, le-ltb, leb-true, ne_eqb}
use Rattle.lists.specs.Lists.{all_of}
use Rattle.lists.proofs.Laws.Bools.{split, and_left, and_right, and_both, and-false}
use Rattle.lists.proofs.Laws.Tests.{no_proof}
use Rattle.session_text.specs.Grammar.{on_first, words, is_digit, value_of, is_number, are_numbers, numbers_of}
use Rattle.session_text.specs.Numbers.{grown_by}

-- ---- the first word, and the others

abbrev head_of : List (List ℕ) → List ℕ
head_of [] = []
head_of (w ∷ ws) = w

abbrev tail_of : List (List ℕ) → List (List ℕ)
tail_of [] = []
tail_of (w ∷ ws) = ws

abbrev first : List ℕ → List ℕ
first bs = head_of (words bs)

abbrev others : List ℕ → List (List ℕ)
others bs = tail_of (words bs)

on-first : (b : ℕ) (ws : List (List ℕ)) → on_first b ws ≡ (b ∷ head_of ws) ∷ tail_of ws
on-first b [] = refl
on-first b (w ∷ ws) = refl

words-blank : (bs : List ℕ) → words (32 ∷ bs) ≡ [] ∷ words bs
unfolding words
words-blank bs = refl

words-other : (b : ℕ) (bs : List ℕ) → (b ≡ 32 → ⊥) → words (b ∷ bs) ≡ (b ∷ first bs) ∷ others bs
unfolding words
words-other b bs h = rw (ne_eqb b 32 h) (on-first b (words bs))

words-some : (bs : List ℕ) → words bs ≡ first bs ∷ others bs
unfolding words
words-some [] = refl
words-some (b ∷ bs) = split (eqb b 32) (λ t. rw t) (λ f. rw (f, on-first b (words bs)))

-- ---- what is left of a line, after a value so far that has some digit or none

abbrev word_ok : Bool → ℕ → List ℕ → Bool
word_ok some v w = (some || ltb 0 (length w)) && all_of is_digit w && ltb (value_of v w) (2 ^ 64)

-- whether it is numbers
unfoldable pub ok_from : Bool → ℕ → List ℕ → Bool
ok_from some v bs = word_ok some v (first bs) && all_of is_number (others bs)

-- their values
unfoldable pub values_from : ℕ → List ℕ → List ℕ
values_from v bs = value_of v (first bs) ∷ map (value_of 0) (others bs)

-- how many follow the one so far
unfoldable pub later_in : List ℕ → ℕ
later_in bs = length (others bs)

pub ok-start : (bs : List ℕ) → are_numbers bs ≡ ok_from false 0 bs
unfolding are_numbers ok_from is_number
ok-start bs = rw (words-some bs)

pub values-start : (bs : List ℕ) → numbers_of bs ≡ values_from 0 bs
unfolding numbers_of values_from
values-start bs = rw (words-some bs)

pub length-values : (v : ℕ) (bs : List ℕ) → length (values_from v bs) ≡ suc (later_in bs)
unfolding values_from later_in
length-values v bs = ap suc (length-map (others bs) (value_of 0))

-- ---- at the end

pub ok-nil : (some : Bool) (v : ℕ) → v < 2 ^ 64 → ok_from some v [] ≡ some
unfolding ok_from words value_of
ok-nil true v h = rw (lt-ltb v (2 ^ 64) h)
ok-nil false v h = refl

pub values-nil : (v : ℕ) → values_from v [] ≡ v ∷ []
unfolding values_from words value_of
values-nil v = refl

pub later-nil : later_in [] ≡ 0
unfolding later_in words
later-nil = refl

-- ---- a blank

pub ok-blank : (some : Bool) (v : ℕ) (bs : List ℕ) → v < 2 ^ 64 → ok_from some v (32 ∷ bs) ≡ some && are_numbers bs
unfolding ok_from are_numbers value_of
ok-blank true v bs h = rw (words-blank bs, lt-ltb v (2 ^ 64) h)
ok-blank false v bs h = rw (words-blank bs)

pub values-blank : (v : ℕ) (bs : List ℕ) → values_from v (32 ∷ bs) ≡ v ∷ values_from 0 bs
unfolding values_from value_of
values-blank v bs = rw (words-blank bs) (ap (λ (ws : List (List ℕ)). v ∷ map (value_of 0) ws) (words-some bs))

pub later-blank : (bs : List ℕ) → later_in (32 ∷ bs) ≡ suc (later_in bs)
unfolding later_in
later-blank bs = rw (words-blank bs) (ap length (words-some bs))

-- ---- another byte

pub digit-range : (b : ℕ) → is_digit b ≡ true → (48 ≤ b) × (b ≤ 57)
digit-range b h = (leb-true 48 b (and_left (leb 48 b) (leb b 57) h), leb-true b 57 (and_right (leb 48 b) (leb b 57) h))

pub digit-other : (b : ℕ) → is_digit b ≡ true → b ≡ 32 → ⊥
digit-other b h e = let r = digit-range b h in omega arith

pub ok-digit : (some : Bool) (v b : ℕ) (bs : List ℕ) → is_digit b ≡ true
    → ok_from some v (b ∷ bs) ≡ ok_from true (grown_by v b) bs
unfolding ok_from value_of
ok-digit true v b bs h = rw (words-other b bs (digit-other b h), h)
ok-digit false v b bs h = rw (words-other b bs (digit-other b h), lt-ltb 0 (suc (length (first bs))) (omega arith), h)

pub ok-other : (some : Bool) (v b : ℕ) (bs : List ℕ) → (b ≡ 32 → ⊥) → is_digit b ≡ false → ok_from some v (b ∷ bs)
    ≡ false
unfolding ok_from
ok-other true v b bs n h = rw (words-other b bs n, h)
ok-other false v b bs n h = rw (words-other b bs n, lt-ltb 0 (suc (length (first bs))) (omega arith), h)

value_grows : (v : ℕ) (w : List ℕ) → v ≤ value_of v w
unfolding value_of
value_grows v [] = omega arith
value_grows v (b ∷ w) = let ih = value_grows (10 * v + (b - 48)) w in omega arith

pub ok-wide : (some : Bool) (v : ℕ) (bs : List ℕ) → 2 ^ 64 ≤ v → ok_from some v bs ≡ false
unfolding ok_from
ok-wide some v bs h = rw (
  le-ltb (value_of v (first bs)) (2 ^ 64) (omega (arith, value_grows v (first bs))),
  and-false ((some || ltb 0 (length (first bs))) && all_of is_digit (first bs)),
)

pub values_other : (v b : ℕ) (bs : List ℕ) → (b ≡ 32 → ⊥) → values_from v (b ∷ bs) ≡ values_from (grown_by v b) bs
unfolding values_from value_of
values_other v b bs h = rw (words-other b bs h)

pub later-other : (b : ℕ) (bs : List ℕ) → (b ≡ 32 → ⊥) → later_in (b ∷ bs) ≡ later_in bs
unfolding later_in
later-other b bs h = rw (words-other b bs h)

-- ---- of a line that is numbers

-- a value so far with no digit
pub ok-true : (v : ℕ) (bs : List ℕ) → ok_from false v bs ≡ true → ok_from true v bs ≡ true
unfolding ok_from
ok-true v bs h = let w = first bs in
    let a = ltb 0 (length w) in let d = all_of is_digit w in let l = ltb (value_of v w) (2 ^ 64) in
    let o = all_of is_number (others bs) in let front = and_left (a && d && l) o h in
    and_both (d && l) o (and_both d l (and_right a d (and_left (a && d) l front)) (and_right (a && d) l front))
    (and_right (a && d && l) o h)

pub ok-after-blank : (v : ℕ) (bs : List ℕ) → v < 2 ^ 64 → ok_from true v (32 ∷ bs) ≡ true → ok_from true 0 bs ≡ true
ok-after-blank v bs l h = ok-true 0 bs (sym (ok-start bs) ∙ (sym (ok-blank true v bs l) ∙ h))

pub ok-is-digit : (v b : ℕ) (bs : List ℕ) → (b ≡ 32 → ⊥) → ok_from true v (b ∷ bs) ≡ true → is_digit b ≡ true
ok-is-digit v b bs n h = split (is_digit b) (λ t. t) (λ f. no_proof (sym (ok-other true v b bs n f) ∙ h))

pub ok-fits : (v : ℕ) (bs : List ℕ) → ok_from true v bs ≡ true → v < 2 ^ 64
ok-fits v bs h = split (ltb v (2 ^ 64)) (ltb-true v (2 ^ 64))
    (λ f. no_proof (sym (ok-wide true v bs (ltb-false v (2 ^ 64) f)) ∙ h))
