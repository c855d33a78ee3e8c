-- Entries kept one by one. Definitions: specs/Kept.antt, specs/Passes.antt, and push of Laws/Back.antt.
-- In order: size, entries_back and last_of of spans held the last first; a step; the array.
-- Assumes nothing.
use mathlib.Core.Path.{◌≡◌, refl, ap, ◌∙◌}
use mathlib.Core.Bool.{Bool, true, false, not, ◌&&◌, cond, and-false}
use mathlib.Core.List.{List, [], ◌∷◌, ◌++◌, append-nil}
use Prim.Native.Nat.{ℕ, suc, ◌+◌, ◌-◌, ◌≤◌, ◌<◌}
use native.Mathlib.Numerals.{add-one}
use native.Mathlib.Omega.{arith}
use lib.Dec.{eqb}
use lib.ListN.{length, set, replicate, length-append, length-replicate}
use borrow.Author.Tests.{eqb-true}
use Rattle.lists.specs.Lists.{pad}
use Rattle.lists.proofs.Laws.Places.{pad-put, pad-again}
use Rattle.lists.proofs.Laws.Bools.{split, and_right}
use Rattle.rules.specs.Limits.{entries_max}
use Rattle.rules.specs.Span.{Span, is_delete, entries_of, words_of}
use Rattle.rules.specs.declared.Entry.{Entry}
use Rattle.laws.proofs.Laws.Span.{words_of-append}
use Rattle.laws.proofs.Laws.Rewrite.{joins}
use Rattle.rules.specs.Bare.{bare_span}
use Rattle.lent.specs.Entries.{none}
use Rattle.rewrite.specs.Kept.{renewed}
use Rattle.rewrite.specs.Passes.{joins_last, stepped}
use Rattle.rewrite.specs.declared.keep.Last.{Last}
use Rattle.rewrite.proofs.Laws.Back.{back, push, length_push}

-- ---- spans held the last first

-- how many rows they have
unfoldable pub size : List Span → ℕ
size [] = 0
size (t ∷ r) = size r + length t.words

abbrev entry_of : Span → ℕ → Entry
entry_of t n = record { epoch = t.epoch; end = n; mark = t.mark }

-- their entries, in order
unfoldable pub entries_back : List Span → List Entry
unfolding size
entries_back [] = []
entries_back (t ∷ r) = entries_back r ++ (entry_of t (size r + length t.words) ∷ [])

-- what the code holds of them
unfoldable pub last_of : List Span → Last
unfolding size
last_of [] = record { place = 0; count = 0; rows = 0; entry = none }
last_of (t ∷ r) = let n = size r + length t.words in
    record { place = length r; count = suc (length r); rows = n; entry = entry_of t n }

pub length_back : (r : List Span) → length (back r) ≡ length r
unfolding back
length_back [] = refl
length_back (t ∷ r) = length-append (back r) (t ∷ []) ∙ omega (arith, length_back r)

pub size_back : (r : List Span) → length (words_of (back r)) ≡ size r
unfolding back size words_of
size_back [] = refl
size_back (t ∷ r) = ap length (words_of-append (back r) (t ∷ []))
    ∙ (ap (λ (ws : List ℕ). length (words_of (back r) ++ ws)) (append-nil t.words)
    ∙ (length-append (words_of (back r)) t.words ∙ omega (arith, size_back r)))

entries-append : (n : ℕ) (xs ys : List Span) → entries_of n (xs ++ ys) ≡ entries_of n xs ++ entries_of
    (n + length (words_of xs)) ys
unfolding entries_of words_of
entries-append n [] ys = let z : n + 0 ≡ n = omega arith in rw z
entries-append n (x ∷ xs) ys =
    let z : (n + length x.words) + length (words_of xs) ≡ n + (length x.words + length (words_of xs)) =
    omega arith in
    rw (entries-append (n + length x.words) xs ys, length-append x.words (words_of xs), z)

pub entries-back : (r : List Span) → entries_of 0 (back r) ≡ entries_back r
unfolding back entries_back entries_of
entries-back [] = refl
entries-back (t ∷ r) = entries-append 0 (back r) (t ∷ [])
    ∙ (let z : 0 + length (words_of (back r)) ≡ size r = omega (arith, size_back r) in rw (entries-back r, z))

length-entries_back : (r : List Span) → length (entries_back r) ≡ length r
unfolding entries_back
length-entries_back [] = refl
length-entries_back (t ∷ r) = length-append (entries_back r) _ ∙ omega (arith, length-entries_back r)

pub count-last : (r : List Span) → (last_of r).count ≡ length r
unfolding last_of
count-last [] = refl
count-last (t ∷ r) = refl

pub rows_last : (r : List Span) → (last_of r).rows ≡ size r
unfolding last_of size
rows_last [] = refl
rows_last (t ∷ r) = refl

pub place-last : (r : List Span) → length r ≤ entries_max → (last_of r).place < entries_max
unfolding last_of
place-last [] h = omega arith
place-last (t ∷ r) h = omega arith

-- ---- a step

-- the entry as a span with its new epoch
abbrev span_of : ℕ → Entry → ℕ → Span
span_of p e from = renewed p (bare_span (e.end - from) e)

unfoldable pub next : ℕ → Entry → ℕ → List Span → List Span
next p e from r = cond (eqb p 0) r (push (span_of p e from) r)

-- a new mark is a delete's exactly if the old one is
mark-same : (b : Bool) → eqb (cond b 1 0) 1 ≡ b
mark-same true = refl
mark-same false = refl

module _ (p : ℕ) (e : Entry) (from : ℕ) where
  abbrev k : ℕ
  k = e.end - from

  joins-is : (t : Span) (r : List Span) → joins_last (last_of (t ∷ r)).entry p e ≡ joins t (span_of p e from)
  unfolding last_of
  joins-is t r = rw (mark-same (eqb e.mark 1))

  joins-epoch : (t : Span) → joins t (span_of p e from) ≡ true → p ≡ t.epoch
  joins-epoch t j = eqb-true p t.epoch (and_right (not (is_delete (span_of p e from))) (eqb p t.epoch)
      (and_right (not (is_delete t)) (not (is_delete (span_of p e from)) && eqb p t.epoch) j))

  size-push : (r : List Span) → size (push (span_of p e from) r) ≡ size r + k
  unfolding size push
  size-push [] = rw (length-replicate {A = ℕ} k 0)
  size-push (t ∷ r) = split (joins t (span_of p e from))
      (λ j. rw (j, length-append t.words (replicate k 0), length-replicate {A = ℕ} k 0) (omega arith))
      (λ f. rw (f, length-replicate {A = ℕ} k 0))

  pub size-next : (r : List Span) → size (next p e from r) ≤ size r + k
  unfolding next
  size-next r = split (eqb p 0) (λ t. rw t (omega arith)) (λ f. rw (f, size-push r) (omega arith))

  pub length-next : (r : List Span) → length (next p e from r) ≤ suc (length r)
  unfolding next
  length-next r = split (eqb p 0) (λ t. rw t (omega arith)) (λ f. rw f (length_push (span_of p e from) r))

  pub step_is : (r : List Span) → stepped (last_of r) p e from ≡ last_of (next p e from r)
  unfolding stepped next push last_of size
  step_is [] = split (eqb p 0) (λ t. rw t)
      (λ f. rw (f, and-false (not (eqb e.mark 1)), length-replicate {A = ℕ} k 0))
  step_is (t ∷ r) = split (eqb p 0) (λ z. rw z)
      (λ f. split (joins t (span_of p e from))
      (λ j. let a : size r + length t.words + k ≡ size r + (length t.words + k) = omega arith in
      rw (
        f,
        joins-is t r,
        j,
        length-append t.words (replicate k 0),
        length-replicate {A = ℕ} k 0,
        a,
        joins-epoch t j,
      ))
      (λ g. rw (f, joins-is t r, g, length-replicate {A = ℕ} k 0, add-one)))

-- ---- the array

pub array-next : (p : ℕ) (e : Entry) (from : ℕ) (r : List Span) → length r < entries_max
    → let last = last_of (next p e from r) in
    set (pad entries_max none (entries_back r)) last.place last.entry ≡ pad entries_max none
    (entries_back (next p e from r))
unfolding next push last_of entries_back size
array-next p e from [] h = split (eqb p 0) (λ t. rw t) (λ f. rw f (pad-put entries_max none [] _ 0 refl (omega arith)))
array-next p e from (t ∷ r) h = split (eqb p 0)
    (λ z. rw z (pad-again entries_max none (entries_back r) _ _ (length r) (length-entries_back r)))
    (λ f. split (joins t (span_of p e from))
    (λ j. rw (f, j) (pad-again entries_max none (entries_back r) _ _ (length r) (length-entries_back r)))
    (λ g. rw (f, g) (pad-put entries_max none (entries_back (t ∷ r)) _ (suc (length r))
    (length-entries_back (t ∷ r)) h)))
