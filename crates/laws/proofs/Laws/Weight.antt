-- What the rows weigh that a page is shown, beside the ledger's lines: what leaves it as it was, and what lands.
-- Definitions: rules/specs/Weight.antt.
-- In order: by lines; the most; append and clear above the epoch; purge; roll back; epochs that land.
-- Assumes nothing.
use mathlib.Core.Path.{◌≡◌, refl, sym, ◌∙◌, ap}
use mathlib.Core.Bool.{Bool, true, false, not, ◌&&◌, ◌||◌, cond, or-true, or_assoc}
use mathlib.Core.List.{List, [], ◌∷◌, ◌++◌}
use Prim.Native.Nat.{ℕ, ◌+◌, ◌*◌, ◌≤◌, ◌<◌}
use native.Mathlib.Omega.{arith}
use lib.Dec.{ltb, leb, eqb}
use lib.ListN.{length, length-append}
use borrow.Author.Tests.{eqb-true, ltb-true, leb-true, leb-false, lt-ltb, le-leb, lt-leb}
use Rattle.lists.proofs.Laws.All.{All_imp, any_of_ext, any_of-or}
use Rattle.lists.specs.Lists.{any_of}
use Rattle.lists.proofs.Laws.Bools.{split, and-false, or-false}
use Rattle.rules.specs.Span.{Span, is_delete, words_of}
use Rattle.rules.specs.Hides.{hidden, shown_in, shown}
use Rattle.rules.specs.Sees.{up_to}
use Rattle.rules.specs.Rewrite.{rolled_back, purged, skips}
use Rattle.rules.specs.Weight.{milligrams, weight, weight_by, total}
use Rattle.rules.specs.Ledger.{Line, row, delete, deletes, concealed, shows_in, shows}
use Rattle.laws.proofs.Laws.Hides.{shown-lines}
use Rattle.laws.proofs.Laws.Lines.{mark_of, AllLines, any_delete, both, Unseen, shows-unseen, shows-keep}
use Rattle.laws.proofs.Laws.LinesOf.{lines_of, lines-rolled_back, lines-purged, any_delete-lines}
use Rattle.laws.proofs.Laws.LinesPurge.{shows-purge}

-- ---- by lines

pub weight-lines : (s : ℕ → Bool) (ss : List Span) → weight_by s ss ≡ weight (shows s s (lines_of ss))
unfolding weight_by
weight-lines s ss = ap weight (shown-lines s s ss)

pub total-lines : (e : ℕ) (ss : List Span) → total e ss ≡ weight (shows (up_to e) (up_to e) (lines_of ss))
unfolding total
total-lines e ss = weight-lines (up_to e) ss

-- ---- no more than the rows weigh that are there

length-shown_in : (s a : ℕ → Bool) (all ss : List Span) → length (shown_in s a all ss) ≤ length (words_of ss)
unfolding shown_in words_of
length-shown_in s a all [] = omega arith
length-shown_in s a all (t ∷ ss) = let ih = length-shown_in s a all ss in
    split (s t.epoch && not (hidden a all (t ∷ ss) t.epoch))
    (λ b. rw b (simp length-append (omega arith))) (λ f. rw f (simp length-append (omega arith)))

pub weight_most : (xs : List ℕ) → weight xs ≤ 4294967295 * length xs
unfolding weight
weight_most [] = omega arith
weight_most (x ∷ xs) = let ih = weight_most xs in omega arith

pub weight_by_most : (s : ℕ → Bool) (ss : List Span) → weight_by s ss ≤ 4294967295 * length (words_of ss)
unfolding weight_by shown
weight_by_most s ss = let m = weight_most (shown_in s s ss ss) in let l = length-shown_in s s ss ss in omega arith

-- ---- what leaves a total as it was

-- lines of an epoch above it at the end: append and clear
pub total-added : (e i : ℕ) (ss ss' : List Span) (ys : List Line) → e < i → lines_of ss' ≡ lines_of ss ++ ys
    → AllLines (λ x. mark_of x ≡ i) ys → total e ss' ≡ total e ss
total-added e i ss ss' ys h l m =
    total-lines e ss' ∙ (ap (λ xs. weight (shows (up_to e) (up_to e) xs)) l
    ∙ (ap weight (shows-unseen (up_to e) (up_to e) (lines_of ss) ys (All_imp _ _ unseen ys m))
    ∙ sym (total-lines e ss)))
  where
    unseen : (x : Line) → mark_of x ≡ i → Unseen (up_to e) (up_to e) x
    unseen (row j w) q = lt-leb j e (omega arith)
    unseen (delete k) q = lt-leb k e (omega arith)

-- a purge at or below it
pub total-purged : (e l : ℕ) (ss : List Span) → l ≤ e → total e (cond (skips l ss) ss (purged l ss)) ≡ total e ss
total-purged e l ss h = split (skips l ss) (λ t. rw t) (λ f. rw f
    (total-lines e (purged l ss) ∙ (ap (λ xs. weight (shows (up_to e) (up_to e) xs)) (lines-purged l ss)
    ∙ (ap weight (shows-purge l (up_to e) (up_to e) low low (lines_of ss)) ∙ sym (total-lines e ss)))))
  where
    low : (j : ℕ) → j ≤ l → leb j e ≡ true
    low j q = le-leb j e (omega arith)

-- ---- roll back of i: what a page is shown that sees all but i

pub total-rolled_back : (e i : ℕ) (ss : List Span)
    → total e (rolled_back i ss) ≡ weight_by (λ j. not (eqb j i) && leb j e) ss
total-rolled_back e i ss =
    total-lines e (rolled_back i ss) ∙ (ap (λ xs. weight (shows (up_to e) (up_to e) xs)) (lines-rolled_back i ss)
    ∙ (ap weight (shows-keep (λ j. not (eqb j i)) (up_to e) (up_to e) (lines_of ss))
    ∙ sym (weight-lines (λ j. not (eqb j i) && leb j e) ss)))

-- ---- epochs that land: s sees those up to l, and those of d, which are above l. A delete that lands takes out what
-- was there, and what lands comes on top

weight-cond : (b : Bool) (w : ℕ) (xs : List ℕ) → weight (cond b (w ∷ xs) xs) ≡ cond b (milligrams w) 0 + weight xs
unfolding weight
weight-cond true w xs = refl
weight-cond false w xs = omega arith

module _ (l : ℕ) (s d : ℕ → Bool) (above : (j : ℕ) → d j ≡ true → l < j) where
  abbrev Lands : Line → Type 0
  Lands x = s (mark_of x) ≡ leb (mark_of x) l || d (mark_of x)

  -- of marks up to l: each delete that lands hides them
  later-low : (j : ℕ) → j ≤ l → (xs : List Line) → AllLines Lands xs
      → any_delete (both s (ltb j)) xs ≡ any_delete d xs || any_delete (both (up_to l) (ltb j)) xs
  later-low j h xs a = any_of_ext _ _ xs (All_imp _ _ one xs a) ∙ any_of-or (deletes d) (deletes (both (up_to l) (ltb
      j))) xs
    where
      one : (x : Line) → Lands x → deletes (both s (ltb j)) x ≡ deletes d x || deletes (both (up_to l) (ltb j)) x
      one (row i w) q = refl
      one (delete k) q = split (d k)
          (λ t. let g = above k t in rw (q, t, lt-ltb j k (omega arith)) (ap (λ b. b && true) (or-true (leb k l))))
          (λ f. rw (q, f) (ap (λ b. b && ltb j k) (or-false (leb k l))))

  same_low : (j : ℕ) → j ≤ l → (xs : List Line) → AllLines Lands xs
      → any_delete (both s (eqb j)) xs ≡ any_delete (both (up_to l) (eqb j)) xs
  same_low j h xs a = any_of_ext _ _ xs (All_imp _ _ one xs a)
    where
      one : (x : Line) → Lands x → deletes (both s (eqb j)) x ≡ deletes (both (up_to l) (eqb j)) x
      one (row i w) q = refl
      one (delete k) q = split (eqb j k)
          (λ t. let e = eqb-true j k t in rw (q, t, le-leb k l (omega arith)))
          (λ f. rw (f, and-false (s k), and-false (leb k l)))

  -- of marks above l: only what lands
  high : (j : ℕ) → l < j → (q : ℕ → Bool) → ((k : ℕ) → q k ≡ true → j ≤ k) → (xs : List Line) → AllLines Lands xs
      → any_delete (both s q) xs ≡ any_delete (both d q) xs
  high j h q up xs a = any_of_ext _ _ xs (All_imp _ _ one xs a)
    where
      one : (x : Line) → Lands x → deletes (both s q) x ≡ deletes (both d q) x
      one (row i w) e = refl
      one (delete k) e = split (q k)
          (λ t. let g = up k t in rw (e, t, lt-leb k l (omega arith)))
          (λ f. rw (f, and-false (s k), and-false (d k)))

  module _ (all : List Line) (a : AllLines Lands all) where
    abbrev taken : Bool
    taken = any_delete d all

    concealed-low : (j : ℕ) → j ≤ l → (xs : List Line) → AllLines Lands xs
        → concealed s all xs j ≡ taken || concealed (up_to l) all xs j
    unfolding concealed
    concealed-low j h xs b = rw (later-low j h all a, same_low j h xs b)
        (or_assoc taken (any_delete (both (up_to l) (ltb j)) all) (any_delete (both (up_to l) (eqb j)) xs))

    concealed-high : (j : ℕ) → l < j → (xs : List Line) → AllLines Lands xs
        → concealed s all xs j ≡ concealed d all xs j
    unfolding concealed
    concealed-high j h xs b =
        rw (
          high j h (ltb j) (λ k t. let g = ltb-true j k t in omega arith) all a,
          high j h (eqb j) (λ k t. let e = eqb-true j k t in omega arith) xs b,
        )

    abbrev before : List Line → ℕ
    before xs = cond taken 0 (weight (shows_in (up_to l) (up_to l) all xs))

    lands_in : (xs : List Line) → AllLines Lands xs
        → weight (shows_in s s all xs) ≡ before xs + weight (shows_in d d all xs)
    unfolding shows_in weight
    lands_in [] b = split taken (λ t. rw t) (λ f. rw f)
    lands_in (delete k ∷ xs) b = lands_in xs b.1
    lands_in (row j w ∷ xs) b = let ih = lands_in xs b.1 in let c = concealed (up_to l) all xs j in
        let rest = weight (shows_in (up_to l) (up_to l) all xs) in let more = weight (shows_in d d all xs) in
        rw (
          weight-cond (s j && not (concealed s all xs j)) w (shows_in s s all xs),
          weight-cond (leb j l && not c) w (shows_in (up_to l) (up_to l) all xs),
          weight-cond (d j && not (concealed d all xs j)) w (shows_in d d all xs),
          ih,
        )
        (split (leb j l)
        (λ t. let h = leb-true j l t in rw (b.0, t, unlanded j h, concealed-low j h xs b.1) (low-row taken c w
        rest more))
        (λ f. let h = leb-false j l f in rw (b.0, f, concealed-high j h xs b.1)
        (split taken (λ t. rw t (swap (cond (d j && not (concealed d all xs j)) (milligrams w) 0) 0 more))
        (λ u. rw u (swap_0 (cond (d j && not (concealed d all xs j)) (milligrams w) 0) rest more)))))
      where
        unlanded : (j : ℕ) → j ≤ l → d j ≡ false
        unlanded j h = split (d j) (λ t. let g = above j t in absurd (omega arith)) (λ f. f)

        swap : (x y z : ℕ) → x + (y + z) ≡ y + (x + z)
        swap x y z = omega arith

        swap_0 : (x y z : ℕ) → x + (y + z) ≡ (0 + y) + (x + z)
        swap_0 x y z = omega arith

        low-row : (t c : Bool) (w rest more : ℕ)
            → cond (not (t || c)) (milligrams w) 0 + (cond t 0 rest + more)
            ≡ cond t 0 (cond (not c) (milligrams w) 0 + rest) + (0 + more)
        low-row true c w rest more = refl
        low-row false c w rest more = omega arith

  pub lines_land : (xs : List Line) → AllLines Lands xs
      → weight (shows s s xs) ≡ cond (any_delete d xs) 0 (weight (shows (up_to l) (up_to l) xs)) + weight (shows d d xs)
  unfolding shows
  lines_land xs a = lands_in xs a xs a

  -- of spans whose epochs are so
  pub total_lands : (ss : List Span) → AllLines Lands (lines_of ss)
      → weight_by s ss ≡ cond (any_of (λ t. is_delete t && d t.epoch) ss) 0 (total l ss) + weight_by d ss
  total_lands ss a = rw (weight-lines s ss, total-lines l ss, weight-lines d ss, ← any_delete-lines d ss)
      (lines_land (lines_of ss) a)
