-- The entries of appended spans: those that stay and one more. Definitions: specs/Append.antt, here and in
-- rules.
-- In order: entries of appended spans; how many stay, by index.
-- Elsewhere: what it makes of a store (Laws/Written.antt).
-- Assumes nothing.
use mathlib.Core.Path.{◌≡◌, refl, ◌∙◌}
use mathlib.Core.Bool.{◌&&◌, cond}
use mathlib.Core.List.{List, [], ◌∷◌, ◌++◌, append-nil}
use Prim.Native.Nat.{ℕ, suc, ◌+◌, ◌-◌, ◌*◌, ◌≤◌, ◌<◌}
use native.Mathlib.Omega.{arith}
use lib.ListN.{length, take, drop, get_or, length-append}
use lib.Seq.{get_or-take, get_or-drop}
use lib.Dec.{ltb}
use borrow.Author.Tests.{lt-ltb, le-ltb}
use Rattle.lists.specs.Lists.{part}
use Rattle.lists.proofs.Laws.Bools.{split}
use Rattle.lists.proofs.Laws.Parts.{length_part}
use Rattle.rules.specs.Limits.{entries_max}
use Rattle.rules.specs.Span.{Span, entries_of, words_of}
use Rattle.rules.specs.Append.{is_rows_of, extended}
use Rattle.rules.specs.declared.Entry.{Entry}
use Rattle.rules.specs.declared.Partition.{Partition}
use Rattle.partition.specs.Append.{grows, last_of, kept_in}
use Rattle.lent.specs.Entries.{none}

-- ---- entries of appended spans

-- how many of the entries stay as they are: all, or all but a last one that grows
abbrev pub kept_of : ℕ → List Entry → ℕ
kept_of i [] = 0
kept_of i (e ∷ []) = cond (grows i e) 0 1
kept_of i (e ∷ f ∷ es) = suc (kept_of i (f ∷ es))

abbrev pub rows_to : ℕ → ℕ → Entry
rows_to i end = record { epoch = i; end = end; mark = 0 }

pub entries-extended : (m i : ℕ) (ws : List ℕ) (ss : List Span) → entries_of m (extended i ws ss)
    ≡ take (kept_of i (entries_of m ss)) (entries_of m ss) ++ (rows_to i (m + length (words_of ss) + length ws) ∷ [])
unfolding entries_of extended words_of
entries-extended m i ws [] = let e : m + length ws ≡ m + 0 + length ws = omega arith in rw e
entries-extended m i ws (s ∷ []) =
    let l = length s.words in
    let e : m + (l + length ws) ≡ m + l + length ws = omega arith in
    split (is_rows_of i s)
    (λ t. rw (t, append-nil s.words, length-append s.words ws, e))
    (λ f. rw (f, append-nil s.words))
entries-extended m i ws (s ∷ t ∷ ss) =
    let l = length s.words in let r = length (words_of (t ∷ ss)) in
    let e : m + l + r + length ws ≡ m + length (words_of (s ∷ t ∷ ss)) + length ws =
    simp length-append (omega arith) in
    rw (entries-extended (m + l) i ws (t ∷ ss), e)

-- ---- how many stay, by index

kept-last : (i : ℕ) (e : Entry) (es : List Entry) (d : Entry)
    → kept_of i (e ∷ es) ≡ cond (grows i (get_or (e ∷ es) (length es) d)) (length es) (suc (length es))
kept-last i e [] d = refl
kept-last i e (f ∷ es) d = let g = grows i (get_or (f ∷ es) (length es) d) in let ih = kept-last i f es d in
    split g (λ t. rw (ih, t)) (λ n. rw (ih, n))

pub kept-le : (i : ℕ) (es : List Entry) → kept_of i es ≤ length es
kept-le i [] = omega arith
kept-le i (e ∷ []) = split (grows i e) (λ t. rw t (omega arith)) (λ n. rw n (omega arith))
kept-le i (e ∷ f ∷ es) = let ih = kept-le i (f ∷ es) in omega arith

kept_at : (i n b : ℕ) (entries es : List Entry) → length es ≡ n
    → ((j : ℕ) → j < n → get_or es j none ≡ get_or entries (b + j) none)
    → cond (ltb 0 n && grows i (get_or entries (b + (n - 1)) none)) (n - 1) n ≡ kept_of i es
kept_at i n b entries [] l f = rw (le-ltb 0 n (omega arith)) (omega arith)
kept_at i n b entries (e ∷ es) l f =
    let k : n - 1 ≡ length es = omega arith in let g = f (length es) (omega arith) in
    rw (lt-ltb 0 n (omega arith), k, ← g, kept-last i e es none, ← l)

pub kept_in-is : (entries : List Entry) (q : Partition) (i : ℕ) → entries_max * q.area + q.entries ≤ length entries
    → kept_in (last_of entries q) q i ≡ kept_of i (part (entries_max * q.area) q.entries entries)
unfolding kept_in
kept_in-is entries q i h = let b = entries_max * q.area in
    kept_at i q.entries b entries (part b q.entries entries) (length_part b q.entries entries h)
    (λ j l. get_or-take q.entries (drop b entries) j none l ∙ get_or-drop b entries j none)
