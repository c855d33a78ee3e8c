-- One byte more of a line's numbers, as the code goes. Definition: specs/Numbers.antt's stepped.
-- In order: what it is in each case; what it says of the line; the count; the numbers written.
-- Assumes nothing.
use mathlib.Core.Path.{◌≡◌, refl, sym, ◌∙◌, ap}
use mathlib.Core.Bool.{Bool, true, false, cond}
use mathlib.Core.List.{List, [], ◌∷◌}
use Prim.Native.Nat.{ℕ, suc, ◌+◌, ◌^◌, ◌≤◌, ◌<◌}
use native.Mathlib.Omega.{arith}
use lib.ListN.{length, set, drop, get_or, length-set, drop_of_length-le}
use lib.Seq.{drop-cons}
use native.Mathlib.Numerals.{add-one}
use lib.Dec.{ltb, eqb}
use borrow.Author.Tests.{ltb-true, ltb-false, lt-ltb, le-ltb, eqb-true, eqb-false, ne_eqb}
use Rattle.lists.specs.Lists.{over}
use Rattle.lists.proofs.Laws.Bools.{split}
use Rattle.session_text.specs.declared.numbers.Passed.{Passed}
use Rattle.std.specs.Prelude.{Option, None, Some}
use Rattle.std.specs.Option.{is_some, unwrap_or}
use Rattle.session_text.specs.Grammar.{is_digit, are_numbers, numbers_of}
use Rattle.session_text.specs.Numbers.{grown_by, ended, stepped}
use Rattle.session_text.proofs.Laws.Grammar.{ok_from, later_in, ok-start, ok-blank, ok-digit, ok-other, ok-wide}
use Rattle.session_text.proofs.Laws.Grammar.{digit-other, later-blank, later-other, values-start, length-values}
use Rattle.session_text.proofs.Laws.Grammar.{values_from, values-nil, values-blank, values_other, ok-nil, later-nil}
use Rattle.session_text.proofs.Laws.Grammar.{ok-after-blank, ok-fits, ok-is-digit, digit-range}
use Rattle.lists.proofs.Laws.Over.{over-one, over-cons}

module _ (p : Passed) where
  pub step-blank : stepped p 32 ≡ ended p.count p.value
  unfolding stepped
  step-blank = refl

  pub step_other : (b : ℕ) → (b ≡ 32 → ⊥) → is_digit b ≡ false → stepped p b ≡ None
  unfolding stepped
  step_other b n h = rw (ne_eqb b 32 n, h)

  pub step-wide : (b : ℕ) → is_digit b ≡ true → 2 ^ 64 ≤ grown_by (unwrap_or p.value 0) b → stepped p b ≡ None
  unfolding stepped
  step-wide b h w = rw (
    ne_eqb b 32 (digit-other b h),
    h,
    le-ltb (grown_by (unwrap_or p.value 0) b) (2 ^ 64) w,
  )

  pub step-digit : (b : ℕ) → is_digit b ≡ true → grown_by (unwrap_or p.value 0) b < 2 ^ 64
      → stepped p b ≡ Some (record { count = p.count; value = Some (grown_by (unwrap_or p.value 0) b) })
  unfolding stepped
  step-digit b h w = rw (
    ne_eqb b 32 (digit-other b h),
    h,
    lt-ltb (grown_by (unwrap_or p.value 0) b) (2 ^ 64) w,
  )

-- whether what is left of a line is numbers, after the value so far
abbrev pub ok_after : Option ℕ → List ℕ → Bool
ok_after v bs = ok_from (is_some v) (unwrap_or v 0) bs

-- what a step says of the line: no numbers, or the same of what is left after it
abbrev pub Says : ℕ → Option ℕ → ℕ → List ℕ → Option Passed → Type 0
Says n v b bs None = ok_after v (b ∷ bs) ≡ false
Says n v b bs (Some q) = (ok_after v (b ∷ bs) ≡ ok_after q.value bs)
    × (n + later_in (b ∷ bs) ≡ q.count + later_in bs) × (q.count ≤ n + 1) × (unwrap_or q.value 0 < 2 ^ 64)

blank-says : (n : ℕ) (v : Option ℕ) (bs : List ℕ) → unwrap_or v 0 < 2 ^ 64 → Says n v 32 bs (ended n v)
blank-says n None bs h = ok-blank false 0 bs h
blank-says n (Some v) bs h =
    (ok-blank true v bs h ∙ ok-start bs, omega (arith, later-blank bs), omega arith, omega arith)

pub step-says : (p : Passed) (b : ℕ) (bs : List ℕ) → unwrap_or p.value 0 < 2 ^ 64
    → Says p.count p.value b bs (stepped p b)
step-says p b bs h = let v = unwrap_or p.value 0 in split (eqb b 32)
    (λ t. rw (eqb-true b 32 t, step-blank p) (blank-says p.count p.value bs h))
    (λ f. let n = eqb-false b 32 f in split (is_digit b)
    (λ d. let same = ok-digit (is_some p.value) v b bs d in split (ltb (grown_by v b) (2 ^ 64))
    (λ l. let g = ltb-true (grown_by v b) (2 ^ 64) l in
    rw (step-digit p b d g) (same, ap (λ (k : ℕ). p.count + k) (later-other b bs n), omega arith, g))
    (λ w. let g = ltb-false (grown_by v b) (2 ^ 64) w in
    rw (step-wide p b d g) (same ∙ ok-wide true (grown_by v b) bs g)))
    (λ o. rw (step_other p b n o) (ok-other (is_some p.value) v b bs n o)))

-- ---- the count of a line's numbers

-- while it is counted: what the step at index i says, and the end
module _ (bs : List ℕ) (p : Passed) (i : ℕ) where
  says-here : i < length bs → unwrap_or p.value 0 < 2 ^ 64
      → Says p.count p.value (get_or bs i 0) (drop (i + 1) bs) (stepped p (get_or bs i 0))
  says-here h f = step-says p (get_or bs i 0) (drop (i + 1) bs) f

  here : i < length bs → drop i bs ≡ get_or bs i 0 ∷ drop (i + 1) bs
  here h = rw add-one (drop-cons bs i 0 h)

  pub count-stops : i < length bs → unwrap_or p.value 0 < 2 ^ 64 → are_numbers bs ≡ ok_after p.value (drop i bs)
      → None ≡ stepped p (get_or bs i 0) → are_numbers bs ≡ false
  count-stops h f e s = e ∙ (ap (ok_after p.value) (here h) ∙ (rw (← s) at (says-here h f)))

  pub count-goes : i < length bs → unwrap_or p.value 0 < 2 ^ 64 → are_numbers bs ≡ ok_after p.value (drop i bs)
      → (q : Passed) → Some q ≡ stepped p (get_or bs i 0)
      → (q.count ≤ p.count + 1) × (unwrap_or q.value 0 < 2 ^ 64)
      × (q.count + later_in (drop (i + 1) bs) ≡ p.count + later_in (drop i bs))
      × (are_numbers bs ≡ ok_after q.value (drop (i + 1) bs))
  count-goes h f e q s = let t = rw (← s) at (says-here h f) in
      (t.2, t.3, omega (arith, ap later_in (here h), t.1), e ∙ (ap (ok_after p.value) (here h) ∙ t.0))

  pub count-ends : length bs ≤ i → unwrap_or p.value 0 < 2 ^ 64 → are_numbers bs ≡ ok_after p.value (drop i bs)
      → (later_in (drop i bs) ≡ 0) × (are_numbers bs ≡ is_some p.value)
  count-ends h f e = let none : drop i bs ≡ [] = drop_of_length-le bs {i = i} h in (
    ap later_in none ∙ later-nil,
    e ∙ (ap (ok_after p.value) none ∙ ok-nil (is_some p.value) (unwrap_or p.value 0) f),
  )

module _ (bs : List ℕ) where
  pub no-count : are_numbers bs ≡ false → None ≡ cond (are_numbers bs) (Some (length (numbers_of bs))) None
  no-count h = rw h

  pub length-numbers : length (numbers_of bs) ≡ suc (later_in bs)
  length-numbers = ap length (values-start bs) ∙ length-values 0 bs

  pub full-count : (n : ℕ) → are_numbers bs ≡ true → n ≡ later_in bs
      → Some (n + 1) ≡ cond (are_numbers bs) (Some (length (numbers_of bs))) None
  full-count n h e = let k : n + 1 ≡ length (numbers_of bs) = omega (arith, length-numbers) in rw (h, k)

-- ---- the numbers written

pub put-blank : (k v : ℕ) (bs l : List ℕ) → k + suc (later_in (32 ∷ bs)) ≤ length l
    → over k (values_from v (32 ∷ bs)) l ≡ over (k + 1) (values_from 0 bs) (set l k v)
put-blank k v bs l h = ap (λ (ns : List ℕ). over k ns l) (values-blank v bs)
    ∙ over-cons k v (values_from 0 bs) l (omega (arith, later-blank bs, length-values 0 bs))

-- of the value v so far, with the byte at index i next, from k on
module _ (bs : List ℕ) (i k v : ℕ) (l : List ℕ) (inside : i < length bs) (ok : ok_from true v (drop i bs) ≡ true) where
  next : drop i bs ≡ get_or bs i 0 ∷ drop (i + 1) bs
  next = rw add-one (drop-cons bs i 0 inside)

  pub blank-put : get_or bs i 0 ≡ 32 → k + suc (later_in (drop i bs)) ≤ length l
      → (k + 1 + suc (later_in (drop (i + 1) bs)) ≤ length (set l k v)) × (ok_from true 0 (drop (i + 1) bs) ≡ true)
      × (over k (values_from v (drop i bs)) l ≡ over (k + 1) (values_from 0 (drop (i + 1) bs)) (set l k v))
  blank-put b h = let rest = drop (i + 1) bs in let now' : drop i bs ≡ 32 ∷ rest = rw b at next in (
    simp length-set (omega (arith, ap later_in now', later-blank rest)),
    ok-after-blank v rest (ok-fits v (drop i bs) ok) (sym (ap (ok_from true v) now') ∙ ok),
    ap (λ (cs : List ℕ). over k (values_from v cs) l) now' ∙ put-blank k v rest l (omega (arith, ap later_in now')),
  )

  module _ (other : get_or bs i 0 ≡ 32 → ⊥) where
    ok-next : ok_from true v (get_or bs i 0 ∷ drop (i + 1) bs) ≡ true
    ok-next = sym (ap (ok_from true v) next) ∙ ok

    digit : is_digit (get_or bs i 0) ≡ true
    digit = ok-is-digit v (get_or bs i 0) (drop (i + 1) bs) other ok-next

    ok-grown : ok_from true (grown_by v (get_or bs i 0)) (drop (i + 1) bs) ≡ true
    ok-grown = sym (ok-digit true v (get_or bs i 0) (drop (i + 1) bs) digit) ∙ ok-next

    pub digit-fits : (48 ≤ get_or bs i 0) × (get_or bs i 0 ≤ 57) × (grown_by v (get_or bs i 0) < 2 ^ 64)
    digit-fits = let r = digit-range (get_or bs i 0) digit in
        (r.0, r.1, ok-fits (grown_by v (get_or bs i 0)) (drop (i + 1) bs) ok-grown)

    pub digit-put : k + suc (later_in (drop i bs)) ≤ length l
        → (k + suc (later_in (drop (i + 1) bs)) ≤ length l)
        × (ok_from true (grown_by v (get_or bs i 0)) (drop (i + 1) bs) ≡ true)
        × (over k (values_from v (drop i bs)) l ≡ over k (values_from (grown_by v (get_or bs i 0)) (drop (i + 1) bs)) l)
    digit-put h = let b = get_or bs i 0 in let rest = drop (i + 1) bs in (
      omega (arith, ap later_in next, later-other b rest other),
      ok-grown,
      ap (λ (ns : List ℕ). over k ns l) (ap (values_from v) next ∙ values_other v b rest other),
    )

pub put-end : (k v : ℕ) (l : List ℕ) → k < length l → over k (values_from v []) l ≡ set l k v
put-end k v l h = ap (λ (ns : List ℕ). over k ns l) (values-nil v) ∙ over-one k v l h
