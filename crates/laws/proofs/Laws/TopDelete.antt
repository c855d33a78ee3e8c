-- Hidden rows by one delete: the greatest applied one decides. Definitions: rules/specs/Hides.antt,
-- rules/specs/Top.antt.
-- In order: a step; the whole list; the flags by it.
-- Assumes nothing.
use mathlib.Core.Path.{◌≡◌, refl, sym, ◌∙◌}
use mathlib.Core.Bool.{Bool, true, false, ◌&&◌, ◌||◌}
use mathlib.Core.List.{List, [], ◌∷◌}
use Prim.Native.Nat.{ℕ, suc, ◌-◌, ◌≤◌, ◌<◌}
use native.Mathlib.Omega.{arith}
use native.Mathlib.Numerals.{add-one}
use lib.Dec.{ltb, leb, eqb}
use lib.ListN.{drop}
use lib.Seq.{drop-nil, drop-drop}
use borrow.Author.Tests.{ltb-true, ltb-false, leb-true, leb-false, eqb-true, eqb-false, lt-ltb, le-ltb}
use borrow.Author.Tests.{eq-eqb, ne_eqb}
use Rattle.lists.specs.Lists.{any_of}
use Rattle.lists.proofs.Laws.Bools.{split, and-false, or_right, or-false}
use Rattle.rules.specs.Span.{Span, is_delete}
use Rattle.rules.specs.Hides.{hidden, flags_in, flags}
use Rattle.rules.specs.Top.{Top, no_top, top_step, top_from, top_delete, covers, flags_by}

-- by order of two numbers
pub order : {P : Type 0} (j e : ℕ) → (j < e → P) → (j ≡ e → P) → (e < j → P) → P
order j e lt eq gt = split (ltb j e) (λ t. lt (ltb-true j e t)) (λ f. let g = ltb-false j e f in
    split (eqb j e) (λ t. eq (eqb-true j e t)) (λ n. gt (let h = eqb-false j e n in omega arith)))

-- the spans' test that hidden makes
abbrev hides : (ℕ → Bool) → (ℕ → Bool) → Span → Bool
hides a q s = is_delete s && (a s.epoch && q s.epoch)

-- ---- a step

module _ (n i j e : ℕ) (top : Top) (below : top.at ≤ n) where
  -- a delete of e that is as great
  covers_new : top.epoch ≤ e
      → covers (record { epoch = e; at = suc n }) i j ≡ covers top i j || (ltb j e || (leb i n && eqb j e))
  covers_new h = order j e
      (λ lt. rw (lt-ltb j e lt) (sym (or_right (covers top i j) true refl)))
      (λ eq. rw (le-ltb j e (omega arith), eq-eqb j e eq, le-ltb j top.epoch (omega arith)) (split (leb i n)
      (λ t. let g = leb-true i n t in
      rw (t, lt-ltb i (suc n) (omega arith)) (sym (or_right (eqb j top.epoch && ltb i top.at) true refl)))
      (λ f. let g = leb-false i n f in
      rw (f, le-ltb i (suc n) (omega arith), le-ltb i top.at (omega arith), and-false (eqb j top.epoch)))))
      (λ gt. rw (
        le-ltb j e (omega arith),
        ne_eqb j e (λ q. omega arith),
        le-ltb j top.epoch (omega arith),
        ne_eqb j top.epoch (λ q. omega arith),
      ) (sym (and-false (leb i n))))

  -- a smaller one
  covers_old : e < top.epoch → covers top i j ≡ covers top i j || (ltb j e || (leb i n && eqb j e))
  covers_old h = split (ltb j top.epoch)
      (λ t. rw t)
      (λ f. let g = ltb-false j top.epoch f in
      rw (le-ltb j e (omega arith), ne_eqb j e (λ q. omega arith), and-false (leb i n))
      (sym (or-false (covers top i j))))

module _ (a : ℕ → Bool) (n i j : ℕ) (top : Top) (s : Span) (below : top.at ≤ n) where
  covers-step : covers (top_step a n top s) i j ≡ covers top i j
      || (hides a (ltb j) s || (leb i n && hides a (eqb j) s))
  covers-step = split (is_delete s)
      (λ d. split (a s.epoch)
      (λ t. rw (d, t) (split (leb top.epoch s.epoch)
      (λ u. rw u (covers_new n i j s.epoch top below (leb-true top.epoch s.epoch u)))
      (λ f. rw f (covers_old n i j s.epoch top below (leb-false top.epoch s.epoch f)))))
      (λ f. rw (d, f, and-false (leb i n)) (sym (or-false (covers top i j)))))
      (λ f. rw (f, and-false (leb i n)) (sym (or-false (covers top i j))))

  step-at : (top_step a n top s).at ≤ suc n
  step-at = split (is_delete s && a s.epoch && leb top.epoch s.epoch)
      (λ t. rw t (omega arith)) (λ f. rw f (omega arith))

-- ---- the whole list

or-regroup : (c x y p q : Bool) → c || (x || y) || (p || q) ≡ c || (x || p || (y || q))
or-regroup true x y p q = refl
or-regroup false true y p q = refl
or-regroup false false true true q = refl
or-regroup false false true false q = refl
or-regroup false false false p q = refl

any-drop : (p : Span → Bool) (i n : ℕ) (s : Span) (ss : List Span)
    → any_of p (drop (i - n) (s ∷ ss)) ≡ leb i n && p s || any_of p (drop (i - suc n) ss)
any-drop p i n s ss = split (leb i n)
    (λ t. let g = leb-true i n t in
    let x : i - n ≡ 0 = omega arith in let y : i - suc n ≡ 0 = omega arith in rw (t, x, y))
    (λ f. let g = leb-false i n f in let x : i - n ≡ suc (i - suc n) = omega arith in rw (f, x))

covers-from : (a : ℕ → Bool) (i j n : ℕ) (top : Top) (ss : List Span) → top.at ≤ n
    → covers (top_from a n top ss) i j
    ≡ covers top i j || (any_of (hides a (ltb j)) ss || any_of (hides a (eqb j)) (drop (i - n) ss))
unfolding top_from
covers-from a i j n top [] h = rw (drop-nil {A = Span} (i - n)) (sym (or-false (covers top i j)))
covers-from a i j n top (s ∷ ss) h =
    covers-from a i j (suc n) (top_step a n top s) ss (step-at a n i j top s h)
    ∙ rw (covers-step a n i j top s h, any-drop (hides a (eqb j)) i n s ss)
    (or-regroup (covers top i j) (hides a (ltb j) s) (leb i n && hides a (eqb j) s)
    (any_of (hides a (ltb j)) ss) (any_of (hides a (eqb j)) (drop (i - suc n) ss)))

covers-none : (i j : ℕ) → covers no_top i j ≡ false
covers-none i j = rw (le-ltb j 0 (omega arith), le-ltb i 0 (omega arith)) (and-false (eqb j 0))

-- the rows of epoch j in the span at index i
pub hidden-top : (a : ℕ → Bool) (all : List Span) (i j : ℕ) → hidden a all (drop i all) j
    ≡ ltb j (top_delete a all).epoch || (eqb j (top_delete a all).epoch && ltb i (top_delete a all).at)
unfolding hidden
hidden-top a all i j = let z : i - 0 ≡ i = omega arith in
    sym (covers-from a i j 0 no_top all (omega arith) ∙ rw (covers-none i j, z))

pub hidden-top-at : (a : ℕ → Bool) (all rest : List Span) (i j : ℕ) → drop i all ≡ rest
    → hidden a all rest j ≡ covers (top_delete a all) i j
hidden-top-at a all rest i j e = rw (← e) (hidden-top a all i j)

-- ---- the flags by it

flags-from : (s a : ℕ → Bool) (all rest : List Span) (i : ℕ) → drop i all ≡ rest
    → flags_in s a all rest ≡ flags_by s (top_delete a all) i rest
unfolding flags_in flags_by
flags-from s a all [] i e = refl
flags-from s a all (t ∷ ss) i e = let next : drop (suc i) all ≡ ss = rw (← add-one i, ← drop-drop 1 i all, e) in
    rw (hidden-top-at a all (t ∷ ss) i t.epoch e, flags-from s a all ss (suc i) next)

pub flags-top : (s a : ℕ → Bool) (ss : List Span) → flags s a ss ≡ flags_by s (top_delete a ss) 0 ss
unfolding flags
flags-top s a ss = flags-from s a ss ss 0 refl
