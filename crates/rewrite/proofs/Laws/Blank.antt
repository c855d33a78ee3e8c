-- What a rewrite decides goes by the number of words alone. Definitions: rules' specs/Bare.antt, specs/Plan.antt,
-- specs/Kept.antt.
-- In order: tests; plans; kept; joined; entries and how many words. Elsewhere: blank spans (visible's Laws/Flags.antt).
-- Assumes nothing.
use mathlib.Core.Path.{◌≡◌, refl, sym, ap, ◌∙◌}
use mathlib.Core.List.{List, [], ◌∷◌, map}
use Prim.Native.Nat.{ℕ, ◌+◌}
use lib.Dec.{eqb}
use lib.ListN.{length, replicate, length-append}
use lib.ListN.{length-replicate, length-map, replicate-append-replicate}
use Rattle.lists.proofs.Laws.Bools.{split}
use Rattle.rules.specs.Span.{Span, entries_of, words_of}
use Rattle.rules.specs.Sees.{up_to}
use Rattle.rules.specs.Rewrite.{joined_onto, joined, has_epoch, skips}
use Rattle.laws.proofs.Laws.Rewrite.{joins}
use Rattle.visible.proofs.Laws.Flags.{blank, hidden-blank}
use Rattle.rewrite_plan.specs.Plan.{roll_epochs, purge_epochs}
use Rattle.rewrite.specs.Kept.{kept, as_rewritten}

-- ---- tests

pub has-blank : (i : ℕ) (ss : List Span) → has_epoch i (map blank ss) ≡ has_epoch i ss
unfolding has_epoch
has-blank i [] = refl
has-blank i (s ∷ ss) = rw (has-blank i ss)

pub skips-blank : (l : ℕ) (ss : List Span) → skips l (map blank ss) ≡ skips l ss
unfolding skips
skips-blank l [] = refl
skips-blank l (s ∷ ss) = rw (skips-blank l ss)

-- ---- plans

pub roll-blank : (i : ℕ) (ss : List Span) → roll_epochs i (map blank ss) ≡ roll_epochs i ss
unfolding roll_epochs
roll-blank i [] = refl
roll-blank i (s ∷ ss) = rw (roll-blank i ss)

pub purge-blank : (l : ℕ) (all ss : List Span) → purge_epochs l (map blank all) (map blank ss) ≡ purge_epochs l
    all ss
unfolding purge_epochs
purge-blank l all [] = refl
purge-blank l all (s ∷ ss) = rw (hidden-blank (up_to l) all (s ∷ ss) s.epoch, purge-blank l all ss)

-- ---- kept

pub kept-blank : (ps : List ℕ) (ss : List Span) → kept ps (map blank ss) ≡ map blank (kept ps ss)
unfolding kept
kept-blank [] ss = refl
kept-blank (p ∷ ps) [] = refl
kept-blank (p ∷ ps) (s ∷ ss) = split (eqb p 0) (λ t. rw (t, kept-blank ps ss)) (λ f. rw (f, kept-blank ps ss))

-- ---- joined

joined_onto-blank : (s : Span) (ts : List Span) → joined_onto (blank s) (map blank ts) ≡ map blank
    (joined_onto s ts)
unfolding joined_onto
joined_onto-blank s [] = refl
joined_onto-blank s (t ∷ ts) = split (joins s t)
    (λ j. rw (
      j,
      length-append s.words t.words,
      replicate-append-replicate {A = ℕ} (length s.words)
          (length t.words) 0,
    ))
    (λ f. rw f)

pub joined-blank : (ss : List Span) → joined (map blank ss) ≡ map blank (joined ss)
unfolding joined
joined-blank [] = refl
joined-blank (s ∷ ss) = ap (joined_onto (blank s)) (joined-blank ss) ∙ joined_onto-blank s (joined ss)

-- ---- entries, and how many words

entries-blank : (n : ℕ) (ss : List Span) → entries_of n (map blank ss) ≡ entries_of n ss
unfolding entries_of
entries-blank n [] = refl
entries-blank n (s ∷ ss) = rw (
  length-replicate {A = ℕ} (length s.words) 0,
  entries-blank
      (n + length s.words) ss,
)

words-blank : (ss : List Span) → length (words_of (map blank ss)) ≡ length (words_of ss)
unfolding words_of
words-blank [] = refl
words-blank (s ∷ ss) = length-append (replicate (length s.words) 0) (words_of (map blank ss))
    ∙ rw (length-replicate {A = ℕ} (length s.words) 0, words-blank ss)
    (sym (length-append s.words (words_of ss)))

pub rewritten-blank : (ss : List Span) → as_rewritten (map blank ss) ≡ as_rewritten ss
rewritten-blank ss = rw (entries-blank 0 ss, length-map ss blank, words-blank ss)
