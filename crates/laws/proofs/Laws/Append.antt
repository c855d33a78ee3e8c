-- Laws of appended and cleared: words and lengths, then appended as joined. Definitions: rules/specs/Append.antt.
-- Assumes nothing.
use mathlib.Core.Path.{◌≡◌, refl, sym, ◌∙◌}
use mathlib.Core.Bool.{true, false, not}
use mathlib.Core.List.{List, [], ◌∷◌, ◌++◌, append-nil, append_assoc}
use Prim.Native.Nat.{ℕ, suc}
use native.Mathlib.Omega.{arith}
use lib.ListN.{length, length-append}
use lib.Dec.{eqb}
use borrow.Author.Tests.{eqb-true}
use Rattle.lists.proofs.Laws.Bools.{split, and_left, and_right, eqb_comm}
use Rattle.rules.specs.Span.{Span, is_delete, words_of}
use Rattle.rules.specs.Append.{is_rows_of, rows_span, delete_span, extended, appended, cleared}
use Rattle.rules.specs.Rewrite.{joined_onto, joined}
use Rattle.laws.proofs.Laws.Span.{words_of-append}
use Rattle.laws.proofs.Laws.Rewrite.{joins, NextApart, Apart, joined_onto-apart}

-- ---- words and lengths

words-extended : (i : ℕ) (ws : List ℕ) (ss : List Span) → words_of (extended i ws ss) ≡ words_of ss ++ ws
unfolding extended words_of
words-extended i ws [] = append-nil ws
words-extended i ws (s ∷ []) = split (is_rows_of i s) (λ t. rw t (simp append-nil)) (λ f. rw f (simp append-nil))
words-extended i ws (s ∷ t ∷ ss) = rw (words-extended i ws (t ∷ ss))
    (sym (append_assoc s.words (words_of (t ∷ ss)) ws))

pub words-appended : (i : ℕ) (ws : List ℕ) (ss : List Span) → words_of (appended i ws ss) ≡ words_of ss ++ ws
unfolding appended
words-appended i [] ss = sym (append-nil (words_of ss))
words-appended i (w ∷ ws) ss = words-extended i (w ∷ ws) ss

pub words-cleared : (i : ℕ) (ss : List Span) → words_of (cleared i ss) ≡ words_of ss
unfolding cleared words_of
words-cleared i ss = words_of-append ss (delete_span i ∷ []) ∙ append-nil (words_of ss)

pub length-cleared : (i : ℕ) (ss : List Span) → length (cleared i ss) ≡ suc (length ss)
unfolding cleared
length-cleared i ss = simp length-append (omega arith)

-- ---- in a partition without neighbouring rows spans of one epoch, to append is to add a span and to join

rows-epoch : (i : ℕ) (s : Span) → is_rows_of i s ≡ true → s.epoch ≡ i
rows-epoch i s t = eqb-true s.epoch i (and_right (not (is_delete s)) (eqb s.epoch i) t)

-- a span in front of the first sees no change of it
next-extended : (i : ℕ) (ws : List ℕ) (r s : Span) (ss : List Span) → joins r s ≡ false
    → NextApart r (extended i ws (s ∷ ss))
unfolding extended
next-extended i ws r s [] h = split (is_rows_of i s)
    (λ t. let e = rows-epoch i s t in rw (t, ← e) (rw (and_left (not (is_delete s)) (eqb s.epoch i) t) at h))
    (λ f. rw f h)
next-extended i ws r s (t ∷ ss) h = h

pub extended-joined : (i : ℕ) (ws : List ℕ) (ss : List Span) → Apart ss
    → extended i ws ss ≡ joined (ss ++ (rows_span i ws ∷ []))
unfolding extended joined joined_onto
extended-joined i ws [] a = refl
extended-joined i ws (s ∷ []) a = rw (eqb_comm i s.epoch)
    (split (is_rows_of i s) (λ t. rw (t, rows-epoch i s t)) (λ f. rw f))
extended-joined i ws (s ∷ t ∷ ss) a =
    rw (← extended-joined i ws (t ∷ ss) a.1)
    (sym (joined_onto-apart s (extended i ws (t ∷ ss)) (next-extended i ws s t ss a.0)))
