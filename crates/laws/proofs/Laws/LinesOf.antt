-- The lines that spans stand for, and what each call on spans does to them. 01 "Lots".
-- In order: lines_of; marks; append and clear; join and roll back; hidden rows; purge.
-- Definitions: rules/specs/Span, Append, Hides and Rewrite for spans, rules/specs/Ledger for lines.
-- Assumes nothing.
use mathlib.Core.Path.{◌≡◌, refl, sym, ◌∙◌, ap}
use mathlib.Core.Bool.{Bool, true, false, not, ◌&&◌, cond}
use mathlib.Core.List.{List, [], ◌∷◌, ◌++◌, map, map-append, append-nil, append_assoc}
use Prim.Native.Nat.{ℕ, ◌≤◌, ◌<◌, max}
use native.Mathlib.Omega.{arith}
use lib.Dec.{ltb, leb, eqb}
use borrow.Author.Tests.{leb-true, leb-false, eqb-true, le-ltb, eq-eqb, ne_eqb, not-true}
use Rattle.lists.specs.Lists.{gather, keep_if, any_of}
use Rattle.lists.proofs.Laws.All.{All, All_every, All_imp, All-append, All-map, All-gather, All-all_of}
use Rattle.lists.proofs.Laws.All.{any_of_ext, any_of-none, keep_if-none}
use Rattle.lists.proofs.Laws.Bools.{split, and_left, and_right, or_right, or-false}
use Rattle.lists.proofs.Laws.Select.{any_of-gather, gather_append}
use Rattle.rules.specs.Ledger.{Line, row, delete, deletes, concealed}
use Rattle.rules.specs.Span.{Span, is_delete}
use Rattle.rules.specs.Append.{is_rows_of, rows_span, delete_span, extended, appended, cleared}
use Rattle.rules.specs.Hides.{hidden}
use Rattle.rules.specs.Rewrite.{joined_onto, joined, rolled_back, purged_in, purged, skips}
use Rattle.rules.specs.Sees.{up_to}
use Rattle.laws.proofs.Laws.Lines.{mark_of, AllLines, AllLines-rows, any_delete, both}
use Rattle.laws.proofs.Laws.Lines.{keep_lines, keep_append, keep_all}
use Rattle.laws.proofs.Laws.LinesPurge.{purge_lines_in, purge_lines, Still, purge-still}

-- the delete that a span ends with
abbrev pub delete_of : Span → List Line
delete_of s = cond (is_delete s) (delete s.epoch ∷ []) []

abbrev pub span_lines : Span → List Line
span_lines s = map (row s.epoch) s.words ++ delete_of s

unfoldable pub lines_of : List Span → List Line
lines_of ss = gather span_lines ss

pub lines-append : (ss ts : List Span) → lines_of (ss ++ ts) ≡ lines_of ss ++ lines_of ts
unfolding lines_of
lines-append ss ts = gather_append span_lines ss ts

-- a span's rows, then its delete, then the rest
pub lines_cons : (s : Span) (ss : List Span)
    → lines_of (s ∷ ss) ≡ map (row s.epoch) s.words ++ (delete_of s ++ lines_of ss)
unfolding lines_of
lines_cons s ss = append_assoc (map (row s.epoch) s.words) (delete_of s) (gather span_lines ss)

pub lines-first : (s : Span) (ss : List Span) → span_lines s ++ lines_of ss ≡ lines_of (s ∷ ss)
unfolding lines_of
lines-first s ss = refl

rows-lines : (s : Span) → is_delete s ≡ false → span_lines s ≡ map (row s.epoch) s.words
rows-lines s f = rw f (append-nil (map (row s.epoch) s.words))

rows-lines-of : (i : ℕ) (s : Span) → is_rows_of i s ≡ true → span_lines s ≡ map (row i) s.words
rows-lines-of i s t =
    let f = not-true (is_delete s) (and_left (not (is_delete s)) (eqb s.epoch i) t) in
    let e = eqb-true s.epoch i (and_right (not (is_delete s)) (eqb s.epoch i) t) in
    rows-lines s f ∙ ap (λ j. map (row j) s.words) e

-- one span of the words of two
joined-lines : (i : ℕ) (vs ws : List ℕ) → span_lines (rows_span i (vs ++ ws)) ≡ map (row i) vs ++ map (row i) ws
joined-lines i vs ws = append-nil (map (row i) (vs ++ ws)) ∙ map-append (row i) vs ws

-- ---- marks

span-marks : (P : ℕ → Type 0) (s : Span) → P s.epoch → AllLines (λ x. P (mark_of x)) (span_lines s)
span-marks P s h =
    All-append _ (map (row s.epoch) s.words) (delete_of s) (AllLines-rows P s.epoch s.words h) tail
  where
    tail : AllLines (λ x. P (mark_of x)) (delete_of s)
    tail = split (is_delete s) (λ t. rw t (h, tt)) (λ f. rw f tt)

-- rows are no deletes
pub any_delete-rows : (q : ℕ → Bool) (j : ℕ) (ws : List ℕ) (xs : List Line)
    → any_delete q (map (row j) ws ++ xs) ≡ any_delete q xs
any_delete-rows q j [] xs = refl
any_delete-rows q j (w ∷ ws) xs = any_delete-rows q j ws xs

-- ---- append and clear

lines-extended : (i : ℕ) (ws : List ℕ) (ss : List Span) → lines_of (extended i ws ss) ≡ lines_of ss ++ map (row i) ws
unfolding lines_of extended
lines-extended i ws [] = append-nil (span_lines (rows_span i ws)) ∙ append-nil (map (row i) ws)
lines-extended i ws (s ∷ []) = split (is_rows_of i s)
    (λ t. rw (t, append-nil (span_lines (rows_span i (s.words ++ ws))), append-nil (span_lines s), rows-lines-of i s t)
    (joined-lines i s.words ws))
    (λ f. rw (f, append-nil (span_lines (rows_span i ws)), append-nil (span_lines s), append-nil (map (row i) ws)))
lines-extended i ws (s ∷ t ∷ ss) =
    rw (lines-extended i ws (t ∷ ss)) (sym (append_assoc (span_lines s) (lines_of (t ∷ ss)) (map (row i) ws)))

pub lines-appended : (i : ℕ) (ws : List ℕ) (ss : List Span) → lines_of (appended i ws ss)
    ≡ lines_of ss ++ map (row i) ws
unfolding appended
lines-appended i [] ss = sym (append-nil (lines_of ss))
lines-appended i (w ∷ ws) ss = lines-extended i (w ∷ ws) ss

pub lines-cleared : (i : ℕ) (ss : List Span) → lines_of (cleared i ss) ≡ lines_of ss ++ (delete i ∷ [])
unfolding cleared lines_of
lines-cleared i ss = lines-append ss (delete_span i ∷ [])

-- marks that are the spans' epochs
pub All-lines : (P : ℕ → Type 0) (ss : List Span) → All (λ s. P s.epoch) ss → AllLines (λ x. P (mark_of x))
    (lines_of ss)
unfolding lines_of
All-lines P ss h = All-gather (λ x. P (mark_of x)) span_lines ss (All_imp _ _ (span-marks P) ss h)

-- ---- join and roll back

lines-joined_onto : (s : Span) (ts : List Span) → lines_of (joined_onto s ts) ≡ span_lines s ++ lines_of ts
unfolding joined_onto lines_of
lines-joined_onto s [] = refl
lines-joined_onto s (t ∷ ts) = split (not (is_delete s) && is_rows_of s.epoch t)
    (λ e. let f = not-true (is_delete s) (and_left (not (is_delete s)) (is_rows_of s.epoch t) e) in
    let g = and_right (not (is_delete s)) (is_rows_of s.epoch t) e in
    rw (e, joined-lines s.epoch s.words t.words, rows-lines s f, rows-lines-of s.epoch t g)
    (append_assoc (map (row s.epoch) s.words) (map (row s.epoch) t.words) (lines_of ts)))
    (λ f. rw f)

pub lines-joined : (ss : List Span) → lines_of (joined ss) ≡ lines_of ss
unfolding joined
lines-joined [] = refl
lines-joined (s ∷ ss) = lines-joined_onto s (joined ss) ∙ (rw (lines-joined ss) (lines-first s ss))

-- a span is kept or goes with all its lines
pub lines-kept : (p : ℕ → Bool) (ss : List Span) → lines_of (keep_if (λ s. p s.epoch) ss) ≡ keep_lines p (lines_of ss)
unfolding lines_of
lines-kept p [] = refl
lines-kept p (s ∷ ss) = let ih = lines-kept p ss in rw (keep_append p (span_lines s) (lines_of ss)) (split (p s.epoch)
    (λ t. rw (t, ih, keep_all p (span_lines s) (span-marks (λ j. p j ≡ true) s t)))
    (λ f. rw (f, ih, keep_if-none (λ x. p (mark_of x)) (span_lines s) (span-marks (λ j. p j ≡ false) s f))))

pub lines-rolled_back : (i : ℕ) (ss : List Span)
    → lines_of (rolled_back i ss) ≡ keep_lines (λ j. not (eqb j i)) (lines_of ss)
unfolding rolled_back
lines-rolled_back i ss = lines-joined _ ∙ lines-kept (λ j. not (eqb j i)) ss

-- ---- hidden rows

pub any_delete-lines : (q : ℕ → Bool) (ss : List Span)
    → any_delete q (lines_of ss) ≡ any_of (λ s. is_delete s && q s.epoch) ss
unfolding lines_of
any_delete-lines q ss = any_of-gather (deletes q) span_lines ss ∙ any_of_ext _ _ ss (All_every _ one ss)
  where
    one : (s : Span) → any_delete q (span_lines s) ≡ is_delete s && q s.epoch
    one s = any_delete-rows q s.epoch s.words (delete_of s)
        ∙ split (is_delete s) (λ t. rw t (or-false (q s.epoch))) (λ f. rw f)

pub hidden-lines : (a : ℕ → Bool) (all rest : List Span) (j : ℕ)
    → hidden a all rest j ≡ concealed a (lines_of all) (lines_of rest) j
unfolding hidden concealed
hidden-lines a all rest j = rw (any_delete-lines (both a (ltb j)) all, any_delete-lines (both a (eqb j)) rest)

pub concealed-rows : (a : ℕ → Bool) (all : List Line) (i : ℕ) (ws : List ℕ) (xs : List Line) (j : ℕ)
    → concealed a all (map (row i) ws ++ xs) j ≡ concealed a all xs j
unfolding concealed
concealed-rows a all i ws xs j = rw (any_delete-rows (both a (eqb j)) i ws xs)

-- the rows of a span are hidden by what stands behind them, its own delete first
pub hidden_span : (a : ℕ → Bool) (all : List Span) (s : Span) (ss : List Span) (j : ℕ)
    → hidden a all (s ∷ ss) j ≡ concealed a (lines_of all) (delete_of s ++ lines_of ss) j
hidden_span a all s ss j = hidden-lines a all (s ∷ ss) j
    ∙ rw (lines_cons s ss) (concealed-rows a (lines_of all) s.epoch s.words (delete_of s ++ lines_of ss) j)

-- ---- purge

-- rows of one mark go or stay together
purge-rows : (l : ℕ) (all : List Line) (j : ℕ) (ws : List ℕ) (xs : List Line)
    → purge_lines_in l all (map (row j) ws ++ xs)
    ≡ cond (concealed (up_to l) all xs j) (purge_lines_in l all xs) (map (row (max j l)) ws ++ purge_lines_in l all xs)
unfolding purge_lines_in
purge-rows l all j [] xs = split (concealed (up_to l) all xs j) (λ t. rw t) (λ f. rw f)
purge-rows l all j (w ∷ ws) xs = rw (concealed-rows (up_to l) all j ws xs j, purge-rows l all j ws xs)
    (split (concealed (up_to l) all xs j) (λ t. rw t) (λ f. rw f))

-- a delete of its own epoch conceals what stands before it, and none up to l conceals a row above l
concealed-own : (a : ℕ → Bool) (all xs : List Line) (k : ℕ) → a k ≡ true → concealed a all (delete k ∷ xs) k ≡ true
unfolding concealed
concealed-own a all xs k t = rw (t, eq-eqb k k refl) (or_right (any_delete (λ i. a i && ltb k i) all) true refl)

concealed-above : (l : ℕ) (all xs : List Line) (j : ℕ) → l < j → concealed (up_to l) all xs j ≡ false
unfolding concealed
concealed-above l all xs j h = rw (none (ltb j) all far, none (eqb j) xs near)
  where
    none : (q : ℕ → Bool) (ys : List Line) → ((k : ℕ) → k ≤ l → q k ≡ false) → any_delete (both (up_to l) q) ys ≡ false
    none q ys h = any_of-none (deletes (both (up_to l) q)) ys (All_every _ pt ys)
      where
        pt : (x : Line) → deletes (both (up_to l) q) x ≡ false
        pt (row i w) = refl
        pt (delete k) = split (leb k l) (λ t. rw t (h k (leb-true k l t))) (λ f. rw f)

    far : (k : ℕ) → k ≤ l → ltb j k ≡ false
    far k g = le-ltb j k (omega arith)

    near : (k : ℕ) → k ≤ l → eqb j k ≡ false
    near k g = ne_eqb j k (λ e. omega arith)

lines-purged_in : (l : ℕ) (all ss : List Span) → lines_of (purged_in l all ss)
    ≡ purge_lines_in l (lines_of all) (lines_of ss)
unfolding purged_in purge_lines_in
lines-purged_in l all [] = unfold lines_of in refl
lines-purged_in l all (s ∷ ss) = let ih = lines-purged_in l all ss in
    let e = s.epoch in let As = lines_of all in
    rw (lines_cons s ss, purge-rows l As e s.words (delete_of s ++ lines_of ss)) (split (is_delete s)
    (λ t. split (leb e l)
    (λ u. rw (t, u, concealed-own (up_to l) As (lines_of ss) e u) ih)
    (λ g. let h = leb-false e l g in let m : max e l ≡ e = omega arith in
    rw (t, g, concealed-above l As (delete e ∷ lines_of ss) e h, m, lines_cons s (purged_in l all ss), t, ih)))
    (λ f. rw (f, hidden_span (up_to l) all s ss e, f) (split (concealed (up_to l) As (lines_of ss) e)
    (λ t. rw t ih)
    (λ g. rw (g, lines_cons (rows_span (max e l) s.words) (purged_in l all ss), ih)))))

pub lines-purged : (l : ℕ) (ss : List Span) → lines_of (purged l ss) ≡ purge_lines l (lines_of ss)
unfolding purged purge_lines
lines-purged l ss = lines-joined (purged_in l ss ss) ∙ lines-purged_in l ss ss

pub lines-skips : (l : ℕ) (ss : List Span) → skips l ss ≡ true → purge_lines l (lines_of ss) ≡ lines_of ss
unfolding skips lines_of
lines-skips l ss e =
    purge-still l (lines_of ss) (All-gather (Still l) span_lines ss (All_imp _ _ still ss (All-all_of _ ss e)))
  where
    still : (s : Span) → leb l s.epoch && not (is_delete s && leb s.epoch l) ≡ true
        → AllLines (Still l) (span_lines s)
    still s e =
        let gone = is_delete s && leb s.epoch l in
        let low = and_left (leb l s.epoch) (not gone) e in
        let high = not-true gone (and_right (leb l s.epoch) (not gone) e) in
        All-append (Still l) (map (row s.epoch) s.words) (delete_of s)
        (All-map (Still l) (row s.epoch) (λ w. leb-true l s.epoch low) s.words)
        (split (is_delete s) (λ t. rw t (leb-false s.epoch l (rw t at high), tt)) (λ f. rw f tt))
