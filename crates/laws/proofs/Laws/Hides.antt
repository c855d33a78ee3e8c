-- What a scan shows is what the ledger shows of the lines. 01 "Who sees a row". Definitions:
-- rules/specs/Hides.antt.
-- In order: rows shown together; the words shown, which are some of the words; the flags' count; the words at the flags
-- and the count of ones; the words at a bitmap's ones.
-- Elsewhere: hidden beside concealed (LinesOf.antt); the flags as bytes (Bitmap.antt).
-- Assumes nothing.
use mathlib.Core.Path.{◌≡◌, refl, sym, ◌∙◌, ap}
use mathlib.Core.Bool.{Bool, false, not, ◌&&◌, cond}
use mathlib.Core.List.{List, [], ◌∷◌, ◌++◌, map}
use Prim.Native.Nat.{ℕ, ◌≤◌}
use native.Mathlib.Omega.{arith}
use lib.ListN.{length, replicate, length-append, length-replicate}
use Rattle.lists.specs.Lists.{ones}
use Rattle.lists.proofs.Laws.All.{All, All-append, All-left, All_right}
use Rattle.lists.proofs.Laws.Bools.{split}
use Rattle.lists.proofs.Laws.Select.{select, select-append, select-replicate, ones-select}
use Rattle.rules.specs.Ledger.{Line, row, concealed, shows_in, shows}
use Rattle.rules.specs.Span.{Span, is_delete, words_of}
use Rattle.rules.specs.Hides.{hidden, flags_in, flags, shown_in, shown}
use Rattle.rules.specs.Bitmap.{bitmap_after}
use Rattle.rules.specs.Claim.{words_at_ones}
use Rattle.laws.proofs.Laws.Bitmap.{bitmap-words}
use Rattle.laws.proofs.Laws.LinesOf.{delete_of, lines_of, lines_cons, concealed-rows, hidden_span}

-- ---- rows of one mark that stand together are shown or not together

shows-rows : (s a : ℕ → Bool) (all : List Line) (j : ℕ) (ws : List ℕ) (xs : List Line)
    → shows_in s a all (map (row j) ws ++ xs) ≡ cond (s j && not (concealed a all xs j)) ws [] ++ shows_in s a all xs
unfolding shows_in
shows-rows s a all j [] xs = split (s j && not (concealed a all xs j)) (λ t. rw t) (λ f. rw f)
shows-rows s a all j (w ∷ ws) xs = rw (concealed-rows a all j ws xs j, shows-rows s a all j ws xs)
    (split (s j && not (concealed a all xs j)) (λ t. rw t) (λ f. rw f))

shows-delete : (s a : ℕ → Bool) (all : List Line) (t : Span) (xs : List Line)
    → shows_in s a all (delete_of t ++ xs) ≡ shows_in s a all xs
unfolding shows_in
shows-delete s a all t xs = split (is_delete t) (λ e. rw e) (λ f. rw f)

-- ---- the words shown

shown-lines_in : (s a : ℕ → Bool) (all ss : List Span) → shown_in s a all ss ≡ shows_in s a (lines_of all) (lines_of ss)
unfolding shown_in shows_in
shown-lines_in s a all [] = unfold lines_of in refl
shown-lines_in s a all (t ∷ ss) =
    rw (
      shown-lines_in s a all ss,
      hidden_span a all t ss t.epoch,
      lines_cons t ss,
      shows-rows s a (lines_of all) t.epoch t.words (delete_of t ++ lines_of ss),
      shows-delete s a (lines_of all) t (lines_of ss),
    )

pub shown-lines : (s a : ℕ → Bool) (ss : List Span) → shown s a ss ≡ shows s a (lines_of ss)
unfolding shown shows
shown-lines s a ss = shown-lines_in s a ss ss

-- ---- what is shown is some of the words

shown_in-all : (P : ℕ → Type 0) (s a : ℕ → Bool) (all ss : List Span) → All P (words_of ss)
    → All P (shown_in s a all ss)
unfolding shown_in words_of
shown_in-all P s a all [] h = tt
shown_in-all P s a all (t ∷ ss) h =
    let rest = shown_in-all P s a all ss (All_right P t.words (words_of ss) h) in
    split (s t.epoch && not (hidden a all (t ∷ ss) t.epoch))
    (λ y. rw y (All-append P t.words (shown_in s a all ss) (All-left P t.words (words_of ss) h) rest))
    (λ f. rw f rest)

shown_in_most : (s a : ℕ → Bool) (all ss : List Span) → length (shown_in s a all ss) ≤ length (words_of ss)
unfolding shown_in words_of
shown_in_most s a all [] = omega arith
shown_in_most s a all (t ∷ ss) =
    let ih = shown_in_most s a all ss in let k = length-append t.words (words_of ss) in
    split (s t.epoch && not (hidden a all (t ∷ ss) t.epoch))
    (λ y. rw y (omega (arith, length-append t.words (shown_in s a all ss))))
    (λ f. rw f (omega arith))

shown_in-none : (s a : ℕ → Bool) (all ss : List Span) → All (λ t. s t.epoch ≡ false) ss → shown_in s a all ss ≡ []
unfolding shown_in
shown_in-none s a all [] h = refl
shown_in-none s a all (t ∷ ss) h = rw h.0 (shown_in-none s a all ss h.1)

module _ (s a : ℕ → Bool) (ss : List Span) where
  pub shown-all : (P : ℕ → Type 0) → All P (words_of ss) → All P (shown s a ss)
  unfolding shown
  shown-all P h = shown_in-all P s a ss ss h

  pub shown_most : length (shown s a ss) ≤ length (words_of ss)
  unfolding shown
  shown_most = shown_in_most s a ss ss

  -- of epochs that are not seen nothing
  pub shown-none : All (λ t. s t.epoch ≡ false) ss → shown s a ss ≡ []
  unfolding shown
  shown-none h = shown_in-none s a ss ss h

-- ---- of each row one flag

length-flags_in : (s a : ℕ → Bool) (all ss : List Span) → length (flags_in s a all ss) ≡ length (words_of ss)
unfolding flags_in words_of
length-flags_in s a all [] = refl
length-flags_in s a all (t ∷ ss) =
    let ih = length-flags_in s a all ss in simp (length-append, length-replicate) (omega arith)

pub length-flags : (s a : ℕ → Bool) (ss : List Span) → length (flags s a ss) ≡ length (words_of ss)
unfolding flags
length-flags s a ss = length-flags_in s a ss ss

-- ---- the words at the flags

select-flags_in : (s a : ℕ → Bool) (all ss : List Span)
    → select (flags_in s a all ss) (words_of ss) ≡ shows_in s a (lines_of all) (lines_of ss)
unfolding flags_in words_of shows_in
select-flags_in s a all [] = unfold lines_of in refl
select-flags_in s a all (t ∷ ss) = let ih = select-flags_in s a all ss in
    let n = length t.words in let b = s t.epoch && not (hidden a all (t ∷ ss) t.epoch) in
    select-append (replicate n b) (flags_in s a all ss) t.words (words_of ss) (length-replicate n b)
    ∙ rw (
      select-replicate b t.words,
      ih,
      hidden_span a all t ss t.epoch,
      lines_cons t ss,
      shows-rows s a (lines_of all) t.epoch t.words (delete_of t ++ lines_of ss),
      shows-delete s a (lines_of all) t (lines_of ss),
    )

pub select-flags : (s a : ℕ → Bool) (ss : List Span) → select (flags s a ss) (words_of ss) ≡ shows s a (lines_of ss)
unfolding flags shows
select-flags s a ss = select-flags_in s a ss ss

pub ones-flags : (s a : ℕ → Bool) (ss : List Span) → ones (flags s a ss) ≡ length (shows s a (lines_of ss))
ones-flags s a ss = ones-select (flags s a ss) (words_of ss) (length-flags s a ss) ∙ ap length (select-flags s a ss)

-- demand 3, of one scan: the words at the ones that it writes
pub scan-shows : (s a : ℕ → Bool) (ss : List Span) (lent : List ℕ)
    → words_at_ones (bitmap_after (flags s a ss) lent) 0 (words_of ss) ≡ shows s a (lines_of ss)
scan-shows s a ss lent = bitmap-words (flags s a ss) lent (words_of ss) (sym (length-flags s a ss))
    ∙ select-flags s a ss
