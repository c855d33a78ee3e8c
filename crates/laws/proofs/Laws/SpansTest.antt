-- The tests of rules/specs/WellFormed.antt on a partition's entries, read on its spans, each way.
-- In order: marks and epochs, ends, neighbours, all of them as SpansOk.
-- Assumes nothing.
use mathlib.Core.Path.{◌≡◌, refl, sym, ◌∙◌}
use mathlib.Core.Bool.{Bool, true, not, ◌&&◌, ◌||◌}
use mathlib.Core.List.{List, [], ◌∷◌}
use Prim.Native.Nat.{ℕ, zero, suc, ◌+◌, ◌≤◌}
use native.Mathlib.Omega.{arith}
use lib.ListN.{length, length-append}
use lib.Dec.{ltb, leb, eqb}
use borrow.Author.Tests.{ltb-true, leb-true, lt-ltb, le-leb, eq-eqb, not-true}
use Rattle.lists.specs.Lists.{all_of}
use Rattle.lists.proofs.Laws.All.{All, All_imp, All-all_of}
use Rattle.lists.proofs.Laws.Bools.{split, and_left, and_right, and_both, and_assoc, or_left, or_right}
use Rattle.lists.proofs.Laws.Bools.{eqb_comm}
use Rattle.rules.specs.Limits.{rows_max, entries_max}
use Rattle.rules.specs.Span.{Span, is_delete, spans, entries_of, words_of}
use Rattle.rules.specs.WellFormed.{epoch_ok, entry_ok, ends_ok, alike, apart}
use Rattle.rules.specs.declared.Entry.{Entry}
use Rattle.rules.specs.Manager.{Manager}
use Rattle.laws.proofs.Laws.Span.{end-ok, length-spans, length-entries_of, entries-spans, words-spans}
use Rattle.laws.proofs.Laws.Rewrite.{joins, Apart}
use Rattle.laws.proofs.Laws.SpansOk.{MarkOk, EpochOk, Filled, SpansOk}

abbrev entry_of : ℕ → Span → Entry
entry_of end s = record { epoch = s.epoch; end = end; mark = s.mark }

-- ---- marks and epochs

abbrev span_ok : Manager → Span → Bool
span_ok m s = leb s.mark 1 && epoch_ok m s.epoch

entry_ok-spans : (m : Manager) (n : ℕ) (ss : List Span) → all_of (entry_ok m) (entries_of n ss) ≡ all_of (span_ok m) ss
unfolding entries_of
entry_ok-spans m n [] = refl
entry_ok-spans m n (s ∷ ss) = rw (entry_ok-spans m (n + length s.words) ss)

marks-of : (m : Manager) (ss : List Span) → all_of (span_ok m) ss ≡ true → All MarkOk ss
marks-of m ss h = All_imp (λ s. span_ok m s ≡ true) MarkOk
    (λ s t. leb-true s.mark 1 (and_left (leb s.mark 1) (epoch_ok m s.epoch) t)) ss (All-all_of (span_ok m) ss h)

epochs-of : (m : Manager) (ss : List Span) → all_of (span_ok m) ss ≡ true → All (EpochOk m) ss
epochs-of m ss h = All_imp (λ s. span_ok m s ≡ true) (EpochOk m)
    (λ s t. and_right (leb s.mark 1) (epoch_ok m s.epoch) t) ss (All-all_of (span_ok m) ss h)

span_ok-all : (m : Manager) (ss : List Span) → All MarkOk ss → All (EpochOk m) ss → all_of (span_ok m) ss ≡ true
span_ok-all m [] a b = refl
span_ok-all m (s ∷ ss) a b = and_both (span_ok m s) (all_of (span_ok m) ss)
    (and_both (leb s.mark 1) (epoch_ok m s.epoch) (le-leb s.mark 1 a.0) b.0)
    (span_ok-all m ss a.1 b.1)

-- ---- ends

filled_of : (rows n : ℕ) (ss : List Span) → ends_ok rows n (entries_of n ss) ≡ true → All Filled ss
unfolding entries_of
filled_of rows n [] h = tt
filled_of rows n (s ∷ ss) h = let k = n + length s.words in let c = end-ok rows n (entry_of k s) (entries_of k ss) h in
    (λ f. let g = ltb-true n k (rw f at c.rises) in omega arith, filled_of rows k ss c.rest)

ends_ok-entries : (n : ℕ) (ss : List Span) → All Filled ss → ends_ok (n + length (words_of ss)) n (entries_of n ss)
    ≡ true
unfolding entries_of ends_ok words_of
ends_ok-entries n [] a = eq-eqb n (n + 0) (omega arith)
ends_ok-entries n (s ∷ ss) a = let k = n + length s.words in
    let w = n + length (words_of (s ∷ ss)) in let d = is_delete s in
    let e : w ≡ k + length (words_of ss) = simp length-append (omega arith) in
    and_both (leb n k && (d || ltb n k)) (ends_ok w k (entries_of k ss))
    (and_both (leb n k) (d || ltb n k) (le-leb n k (omega arith))
    (split d (λ t. or_left d (ltb n k) t) (λ f. or_right d (ltb n k) (let g = a.0 f in lt-ltb n k (omega arith)))))
    (rw e (ends_ok-entries k ss a.1))

-- ---- neighbours

mark-rows : (k : ℕ) → k ≤ 1 → eqb k 0 ≡ not (eqb k 1)
mark-rows zero h = refl
mark-rows (suc zero) h = refl
mark-rows (suc (suc k)) h = absurd (omega arith)

alike-joins : (s t : Span) (a b : ℕ) → MarkOk s → MarkOk t → alike (entry_of a s) (entry_of b t) ≡ joins s t
alike-joins s t a b p q = rw (mark-rows s.mark p, mark-rows t.mark q, eqb_comm s.epoch t.epoch)
    (and_assoc (not (is_delete s)) (not (is_delete t)) (eqb t.epoch s.epoch))

apart_of : (n : ℕ) (ss : List Span) → All MarkOk ss → apart (entries_of n ss) ≡ true → Apart ss
unfolding entries_of apart
apart_of n [] a h = tt
apart_of n (s ∷ []) a h = (tt, tt)
apart_of n (s ∷ t ∷ ss) a h = let k = n + length s.words in
    let d = alike (entry_of k s) (entry_of (k + length t.words) t) in
    let r = apart (entries_of k (t ∷ ss)) in (
      sym (alike-joins s t k (k + length t.words) a.0 a.1.0) ∙ not-true d (and_left (not d) r h),
      apart_of k (t ∷ ss) a.1 (and_right (not d) r h),
    )

apart-entries : (n : ℕ) (ss : List Span) → All MarkOk ss → Apart ss → apart (entries_of n ss) ≡ true
unfolding entries_of apart
apart-entries n [] a p = refl
apart-entries n (s ∷ []) a p = refl
apart-entries n (s ∷ t ∷ ss) a p = let k = n + length s.words in
    rw (alike-joins s t k (k + length t.words) a.0 a.1.0, p.0) (apart-entries k (t ∷ ss) a.1 p.1)

-- ---- all of them

pub record EntriesOk (m : Manager) (rows : ℕ) (es : List Entry) : Type 0 where
  pub rows_fit : rows ≤ rows_max
  pub entries_fit : length es ≤ entries_max
  pub ends : ends_ok rows 0 es ≡ true
  pub each : all_of (entry_ok m) es ≡ true
  pub neighbours : apart es ≡ true

pub spans-ok : (m : Manager) (rows : ℕ) (es : List Entry) (ws : List ℕ) → EntriesOk m rows es → length ws ≡ rows
    → SpansOk m (spans 0 es ws)
spans-ok m rows es ws ok l =
    let ss = spans 0 es ws in let e = entries-spans rows 0 es ws ok.ends (omega arith) in
    let w = words-spans rows 0 es ws ok.ends (omega arith) in let n = length-spans 0 es ws in
    let f = ok.rows_fit in let g = ok.entries_fit in
    let t : all_of (span_ok m) ss ≡ true = rw (← entry_ok-spans m 0 ss, e) ok.each in let a = marks-of m ss t in
    record {
      marks = a;
      epochs = epochs-of m ss t;
      filled = filled_of rows 0 ss (rw e ok.ends);
      apart = apart_of 0 ss a (rw e ok.neighbours);
      rows_fit = rw w (omega arith);
      entries_fit = omega arith;
    }

pub entries-ok : (m : Manager) (ss : List Span) → SpansOk m ss → EntriesOk m (length (words_of ss)) (entries_of 0 ss)
entries-ok m ss ok = let z : 0 + length (words_of ss) ≡ length (words_of ss) = omega arith in record {
  rows_fit = ok.rows_fit;
  entries_fit = rw (length-entries_of 0 ss) ok.entries_fit;
  ends = rw z at (ends_ok-entries 0 ss ok.filled);
  each = entry_ok-spans m 0 ss ∙ span_ok-all m ss ok.marks ok.epochs;
  neighbours = apart-entries 0 ss ok.marks ok.apart;
}
