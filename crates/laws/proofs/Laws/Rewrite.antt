-- Laws of joined, rolled_back and purged: neither words nor entries grow, and what each span keeps.
-- In order: Apart, joined, spans kept by a test, purged_in, rolled_back without entries. Definition:
-- rules/specs/Rewrite.antt.
-- Assumes nothing.
use mathlib.Core.Path.{◌≡◌, refl, ◌∙◌, ap}
use mathlib.Core.Bool.{Bool, true, false, not, ◌&&◌}
use mathlib.Core.List.{List, [], ◌∷◌, ◌++◌, append_assoc}
use Prim.Native.Nat.{ℕ, suc, ◌≤◌, max}
use native.Mathlib.Omega.{arith}
use lib.ListN.{length, length-append}
use lib.Dec.{leb, eqb}
use borrow.Author.Tests.{eqb-true, not-true}
use Rattle.lists.specs.Lists.{keep_if, any_of}
use Rattle.lists.proofs.Laws.All.{All}
use Rattle.lists.proofs.Laws.Bools.{split, and_left, and_right, or-false-left, or-false_right}
use Rattle.rules.specs.Span.{Span, is_delete, words_of}
use Rattle.rules.specs.Append.{is_rows_of, rows_span}
use Rattle.rules.specs.Rewrite.{joined_onto, joined, has_epoch, rolled_back, purged_in}
use Rattle.rules.specs.Sees.{up_to}
use Rattle.rules.specs.Hides.{hidden}

-- ---- no neighbouring rows spans of one epoch

abbrev pub joins : Span → Span → Bool
joins s t = not (is_delete s) && is_rows_of s.epoch t

abbrev pub NextApart : Span → List Span → Type 0
NextApart s [] = Unit {0}
NextApart s (t ∷ ts) = joins s t ≡ false

abbrev pub Apart : List Span → Type 0
Apart [] = Unit {0}
Apart (s ∷ ss) = NextApart s ss × Apart ss

-- ---- joined

-- a span that is apart from the first stays a span of its own
pub joined_onto-apart : (s : Span) (ts : List Span) → NextApart s ts → joined_onto s ts ≡ s ∷ ts
unfolding joined_onto
joined_onto-apart s [] h = refl
joined_onto-apart s (t ∷ ts) h = rw h

pub joined-apart : (ss : List Span) → Apart ss → joined ss ≡ ss
unfolding joined
joined-apart [] a = refl
joined-apart (s ∷ ss) a = rw (joined-apart ss a.1) (joined_onto-apart s ss a.0)

-- rows of s in front of t are apart from what t is apart from
joins-rows : (s t u : Span) (ws : List ℕ) → joins s t ≡ true → joins (rows_span s.epoch ws) u ≡ joins t u
joins-rows s t u ws h = let r = and_right (not (is_delete s)) (is_rows_of s.epoch t) h in
    rw (
      and_left (not (is_delete t)) (eqb t.epoch s.epoch) r,
      eqb-true t.epoch s.epoch (and_right (not (is_delete t)) (eqb t.epoch s.epoch) r),
    )

apart-joined_onto : (s : Span) (ts : List Span) → Apart ts → Apart (joined_onto s ts)
unfolding joined_onto
apart-joined_onto s [] a = (tt, tt)
apart-joined_onto s (t ∷ []) a = split (joins s t) (λ h. rw h (tt, tt)) (λ f. rw f (f, a))
apart-joined_onto s (t ∷ u ∷ us) a = split (joins s t)
    (λ h. rw h (joins-rows s t u (s.words ++ t.words) h ∙ a.0, a.1))
    (λ f. rw f (f, a))

pub apart-joined : (ss : List Span) → Apart (joined ss)
unfolding joined
apart-joined [] = tt
apart-joined (s ∷ ss) = apart-joined_onto s (joined ss) (apart-joined ss)

words-joined_onto : (s : Span) (ts : List Span) → words_of (joined_onto s ts) ≡ s.words ++ words_of ts
unfolding joined_onto words_of
words-joined_onto s [] = refl
words-joined_onto s (t ∷ ts) = split (joins s t) (λ h. rw h (append_assoc s.words t.words (words_of ts)))
    (λ f. rw f)

pub words-joined : (ss : List Span) → words_of (joined ss) ≡ words_of ss
unfolding joined words_of
words-joined [] = refl
words-joined (s ∷ ss) = words-joined_onto s (joined ss) ∙ ap (λ ws. s.words ++ ws) (words-joined ss)

length-joined_onto : (s : Span) (ts : List Span) → length (joined_onto s ts) ≤ suc (length ts)
unfolding joined_onto
length-joined_onto s [] = omega arith
length-joined_onto s (t ∷ ts) = split (joins s t) (λ h. rw h (omega arith)) (λ f. rw f (omega arith))

pub length-joined : (ss : List Span) → length (joined ss) ≤ length ss
unfolding joined
length-joined [] = omega arith
length-joined (s ∷ ss) = let ih = length-joined ss in let g = length-joined_onto s (joined ss) in omega arith

-- what two rows spans hand on to the rows of both
abbrev pub Joins : (Span → Type 0) → Type 0
Joins P = (s t : Span) → is_delete s ≡ false → P s → P t → P (rows_span s.epoch (s.words ++ t.words))

All-joined_onto : (P : Span → Type 0) → Joins P → (s : Span) (ts : List Span) → P s → All P ts
    → All P (joined_onto s ts)
unfolding joined_onto
All-joined_onto P j s [] p a = (p, tt)
All-joined_onto P j s (t ∷ ts) p a = split (joins s t)
    (λ h. rw h (j s t (not-true (is_delete s) (and_left (not (is_delete s)) (is_rows_of s.epoch t) h)) p a.0, a.1))
    (λ f. rw f (p, a))

pub All-joined : (P : Span → Type 0) → Joins P → (ss : List Span) → All P ss → All P (joined ss)
unfolding joined
All-joined P j [] a = tt
All-joined P j (s ∷ ss) a = All-joined_onto P j s (joined ss) a.0 (All-joined P j ss a.1)

-- ---- spans kept by a test

pub words-keep_if : (q : Span → Bool) (ss : List Span) → length (words_of (keep_if q ss)) ≤ length (words_of ss)
unfolding words_of
words-keep_if q [] = omega arith
words-keep_if q (s ∷ ss) = let ih = words-keep_if q ss in
    split (q s) (λ t. rw t (simp length-append (omega arith))) (λ f. rw f (simp length-append (omega arith)))

-- ---- purged_in

-- by cases: a span goes, stays, or stays as rows of at least l
purged_in-cases : (P : List Span → Type 0) (l : ℕ) (all : List Span) (s : Span) (ss : List Span)
    → P (purged_in l all ss)
    → (is_delete s ≡ true → P (s ∷ purged_in l all ss))
    → (is_delete s ≡ false → P (rows_span (max s.epoch l) s.words ∷ purged_in l all ss))
    → P (purged_in l all (s ∷ ss))
unfolding purged_in
purged_in-cases P l all s ss gone stays rows = split (is_delete s)
    (λ t. rw t (split (leb s.epoch l) (λ u. rw u gone) (λ v. rw v (stays t))))
    (λ f. rw f (split (hidden (up_to l) all (s ∷ ss) s.epoch) (λ u. rw u gone) (λ v. rw v (rows f))))

pub words-purged_in : (l : ℕ) (all ss : List Span) → length (words_of (purged_in l all ss)) ≤ length (words_of ss)
unfolding purged_in words_of
words-purged_in l all [] = omega arith
words-purged_in l all (s ∷ ss) = let ih = words-purged_in l all ss in
    purged_in-cases (λ ts. length (words_of ts) ≤ length (words_of (s ∷ ss))) l all s ss
    (simp length-append (omega arith)) (λ t. simp length-append (omega arith)) (λ f. simp length-append (omega arith))

pub length-purged_in : (l : ℕ) (all ss : List Span) → length (purged_in l all ss) ≤ length ss
unfolding purged_in
length-purged_in l all [] = omega arith
length-purged_in l all (s ∷ ss) = let ih = length-purged_in l all ss in
    purged_in-cases (λ ts. length ts ≤ suc (length ss)) l all s ss (omega arith) (λ t. omega arith) (λ f. omega arith)

pub All-purged_in : (P : Span → Type 0) (l : ℕ) (all : List Span)
    → ((s : Span) → is_delete s ≡ false → P s → P (rows_span (max s.epoch l) s.words))
    → (ss : List Span) → All P ss → All P (purged_in l all ss)
unfolding purged_in
All-purged_in P l all r [] a = tt
All-purged_in P l all r (s ∷ ss) a = let ih = All-purged_in P l all r ss a.1 in
    purged_in-cases (All P) l all s ss ih (λ t. (a.0, ih)) (λ f. (r s f a.0, ih))

-- ---- roll back where the transaction has no entry

keep_if_absent : (i : ℕ) (ss : List Span) → has_epoch i ss ≡ false → keep_if (λ s. not (eqb s.epoch i)) ss ≡ ss
unfolding has_epoch
keep_if_absent i [] h = refl
keep_if_absent i (s ∷ ss) h =
    let ih = keep_if_absent i ss (or-false_right (eqb s.epoch i) (any_of (λ t. eqb t.epoch i) ss) h) in
    rw (or-false-left (eqb s.epoch i) (any_of (λ t. eqb t.epoch i) ss) h, ih)

pub rolled_back_absent : (i : ℕ) (ss : List Span) → Apart ss → has_epoch i ss ≡ false → rolled_back i ss ≡ ss
unfolding rolled_back
rolled_back_absent i ss a h = rw (keep_if_absent i ss h) (joined-apart ss a)
