-- Spans joined from the first on: the kept ones are held the last first. Definitions: rules' joined and
-- Apart.
-- In order: back and push; two spans that join are one; one more span; spans that stay apart.
-- Assumes nothing.
use mathlib.Core.Path.{◌≡◌, refl, sym, ap, ◌∙◌}
use mathlib.Core.Bool.{true, false, not, cond}
use mathlib.Core.List.{List, [], ◌∷◌, ◌++◌, append_assoc}
use Prim.Native.Nat.{ℕ, suc, ◌≤◌}
use native.Mathlib.Omega.{arith}
use lib.Dec.{eqb}
use lib.ListN.{length}
use borrow.Author.Tests.{eqb-true}
use Rattle.lists.proofs.Laws.Bools.{split, and_left, and_right}
use Rattle.rules.specs.Span.{Span, is_delete}
use Rattle.rules.specs.Append.{is_rows_of, rows_span}
use Rattle.rules.specs.Rewrite.{joined_onto, joined}
use Rattle.laws.proofs.Laws.Rewrite.{joins, Apart}

-- spans held the last first, in order
unfoldable pub back : List Span → List Span
back [] = []
back (t ∷ r) = back r ++ (t ∷ [])

-- t and the span u behind it, as one
abbrev pub both : Span → Span → Span
both t u = rows_span t.epoch (t.words ++ u.words)

-- u behind those
unfoldable pub push : Span → List Span → List Span
push u [] = u ∷ []
push u (t ∷ r) = cond (joins t u) (both t u ∷ r) (u ∷ t ∷ r)

-- ---- two spans that join are one

-- what rows of t and u join is what u joins
joins-both : (t u v : Span) → joins t u ≡ true → joins (both t u) v ≡ joins u v
joins-both t u v h = let r = and_right (not (is_delete t)) (is_rows_of t.epoch u) h in
    rw (
      and_left (not (is_delete u)) (eqb u.epoch t.epoch) r,
      eqb-true u.epoch t.epoch (and_right (not (is_delete u)) (eqb u.epoch t.epoch) r),
    )

-- what joins t joins rows of t and u
joins_onto : (t u v : Span) → joins u v ≡ true → joins t (both u v) ≡ joins t u
joins_onto t u v h = rw (and_left (not (is_delete u)) (is_rows_of u.epoch v) h)

joined_onto-both : (t u : Span) (rs : List Span) → joins t u ≡ true
    → joined_onto t (joined_onto u rs) ≡ joined_onto (both t u) rs
unfolding joined_onto
joined_onto-both t u [] h = rw h
joined_onto-both t u (v ∷ rs) h = split (joins u v)
    (λ j. rw (j, joins-both t u v h ∙ j, joins_onto t u v j ∙ h)
    (ap (λ (ws : List ℕ). rows_span t.epoch ws ∷ rs) (sym
    (append_assoc t.words u.words v.words))))
    (λ f. rw (f, joins-both t u v h ∙ f, h))

-- ---- one more span

joined-behind : (xs ys zs : List Span) → joined ys ≡ joined zs → joined (xs ++ ys) ≡ joined (xs ++ zs)
unfolding joined
joined-behind [] ys zs e = e
joined-behind (x ∷ xs) ys zs e = ap (joined_onto x) (joined-behind xs ys zs e)

joined-two : (t u : Span) (ys : List Span) → joins t u ≡ true → joined (both t u ∷ ys) ≡ joined (t ∷ u ∷ ys)
unfolding joined
joined-two t u ys j = sym (joined_onto-both t u (joined ys) j)

pub joined-push : (u : Span) (r ys : List Span) → joined (back (push u r) ++ ys) ≡ joined (back r ++ u ∷ ys)
unfolding back push
joined-push u [] ys = refl
joined-push u (t ∷ r) ys = split (joins t u)
    (λ j. rw (j, append_assoc (back r) (both t u ∷ []) ys, append_assoc (back r) (t ∷ []) (u ∷ ys))
    (joined-behind (back r) (both t u ∷ ys) (t ∷ u ∷ ys) (joined-two t u ys j)))
    (λ f. rw (f, append_assoc (back r ++ (t ∷ [])) (u ∷ []) ys))

-- ---- spans that stay apart

-- the last one in place of another that is joined by the same
apart-last : (xs : List Span) (t u : Span) → ((y : Span) → joins y t ≡ joins y u) → Apart (xs ++ (t ∷ []))
    → Apart (xs ++ (u ∷ []))
apart-last [] t u e a = (tt, tt)
apart-last (x ∷ []) t u e a = (sym (e x) ∙ a.0, (tt, tt))
apart-last (x ∷ y ∷ xs) t u e a = (a.0, apart-last (y ∷ xs) t u e a.1)

apart_more : (xs : List Span) (t u : Span) → joins t u ≡ false → Apart (xs ++ (t ∷ [])) → Apart
    ((xs ++ (t ∷ [])) ++ (u ∷ []))
apart_more [] t u h a = (h, (tt, tt))
apart_more (x ∷ []) t u h a = (a.0, (h, (tt, tt)))
apart_more (x ∷ y ∷ xs) t u h a = (a.0, apart_more (y ∷ xs) t u h a.1)

pub apart-push : (u : Span) (r : List Span) → Apart (back r) → Apart (back (push u r))
unfolding back push
apart-push u [] a = (tt, tt)
apart-push u (t ∷ r) a = split (joins t u)
    (λ j. rw j (apart-last (back r) t (both t u) (λ y. sym (joins_onto y t u j)) a))
    (λ f. rw f (apart_more (back r) t u f a))

-- ---- lengths

pub length_push : (u : Span) (r : List Span) → length (push u r) ≤ suc (length r)
unfolding push
length_push u [] = omega arith
length_push u (t ∷ r) = split (joins t u) (λ j. rw j (omega arith)) (λ f. rw f (omega arith))
