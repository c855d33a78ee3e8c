-- What 01's *sound* asks of a partition, on its spans; append, clear, roll back and purge keep it: a rewrite
-- fits.
-- In order: SpansOk, another manager, joined spans, append, clear, roll back, purge.
-- Assumes nothing.
use mathlib.Core.Path.{◌≡◌}
use mathlib.Core.Bool.{Bool, true, false, not}
use mathlib.Core.List.{List, [], ◌∷◌, ◌++◌}
use Prim.Native.Nat.{ℕ, ◌+◌, ◌≤◌, ◌<◌, max}
use native.Mathlib.Omega.{arith}
use lib.ListN.{length, length-append}
use lib.Dec.{eqb}
use borrow.Author.Tests.{eqb-false, not-true}
use Rattle.lists.specs.Lists.{keep_if}
use Rattle.lists.proofs.Laws.All.{All, All_imp, All-append, All-keep_if_imp}
use Rattle.lists.proofs.Laws.Bools.{and-false}
use Rattle.lists.proofs.Laws.Filter.{length-keep_if}
use Rattle.rules.specs.Limits.{rows_max, entries_max}
use Rattle.rules.specs.Span.{Span, is_delete, words_of}
use Rattle.rules.specs.Append.{rows_span, delete_span, extended, appended, cleared}
use Rattle.rules.specs.Rewrite.{joined, rolled_back, purged_in, purged}
use Rattle.rules.specs.WellFormed.{epoch_ok}
use Rattle.rules.specs.Manager.{Manager}
use Rattle.laws.proofs.Laws.Rewrite.{Apart, Joins, apart-joined, words-joined, length-joined}
use Rattle.laws.proofs.Laws.Rewrite.{All-joined}
use Rattle.laws.proofs.Laws.Rewrite.{words-keep_if, words-purged_in, length-purged_in, All-purged_in}
use Rattle.laws.proofs.Laws.Append.{words-appended, words-cleared, length-cleared, extended-joined}

-- a mark is rows or delete
abbrev pub MarkOk : Span → Type 0
MarkOk s = s.mark ≤ 1

abbrev pub EpochOk : Manager → Span → Type 0
EpochOk m s = epoch_ok m s.epoch ≡ true

-- the end of a rows entry lies above the end before it
abbrev pub Filled : Span → Type 0
Filled s = is_delete s ≡ false → 0 < length s.words

pub record SpansOk (m : Manager) (ss : List Span) : Type 0 where
  pub marks : All MarkOk ss
  pub epochs : All (EpochOk m) ss
  pub filled : All Filled ss
  pub apart : Apart ss
  pub rows_fit : length (words_of ss) ≤ rows_max
  pub entries_fit : length ss ≤ entries_max

pub spans-ok-none : (m : Manager) → SpansOk m []
unfolding words_of
spans-ok-none m = record {
  marks = tt;
  epochs = tt;
  filled = tt;
  apart = tt;
  rows_fit = omega arith;
  entries_fit = omega arith;
}

pub spans-ok-manager : (m m' : Manager) (ss : List Span) → ((j : ℕ) → epoch_ok m j ≡ true → epoch_ok m' j ≡ true)
    → SpansOk m ss → SpansOk m' ss
spans-ok-manager m m' ss f ok = record {
  marks = ok.marks;
  epochs = All_imp (EpochOk m) (EpochOk m') (λ s. f s.epoch) ss ok.epochs;
  filled = ok.filled;
  apart = ok.apart;
  rows_fit = ok.rows_fit;
  entries_fit = ok.entries_fit;
}

-- ---- spans that are joined

marks_join : Joins MarkOk
marks_join s t d p q = omega arith

epochs_join : (m : Manager) → Joins (EpochOk m)
epochs_join m s t d p q = p

filled_join : Joins Filled
filled_join s t d p q = λ f. let g = p d in simp length-append (omega arith)

spans-ok-joined : (m : Manager) (ss : List Span) → All MarkOk ss → All (EpochOk m) ss → All Filled ss
    → length (words_of ss) ≤ rows_max → length (joined ss) ≤ entries_max → SpansOk m (joined ss)
spans-ok-joined m ss a b c w e = record {
  marks = All-joined MarkOk marks_join ss a;
  epochs = All-joined (EpochOk m) (epochs_join m) ss b;
  filled = All-joined Filled filled_join ss c;
  apart = apart-joined ss;
  rows_fit = rw (words-joined ss) w;
  entries_fit = e;
}

-- ---- append

pub spans-ok-appended : (m : Manager) (i : ℕ) (batch : List ℕ) (ss : List Span) → epoch_ok m i ≡ true
    → length (words_of ss) + length batch ≤ rows_max → length (appended i batch ss) ≤ entries_max → SpansOk m ss
    → SpansOk m (appended i batch ss)
unfolding appended
spans-ok-appended m i [] ss h w e ok = ok
spans-ok-appended m i (x ∷ xs) ss h w e ok = rw j (spans-ok-joined m (ss ++ r)
    (All-append MarkOk ss r ok.marks (omega arith, tt)) (All-append (EpochOk m) ss r ok.epochs (h, tt))
    (All-append Filled ss r ok.filled (λ f. omega arith, tt))
    (rw (← words-joined (ss ++ r), ← j, words-appended i (x ∷ xs) ss, length-append) w) (rw (← j) e))
  where
    r : List Span
    r = rows_span i (x ∷ xs) ∷ []

    j : extended i (x ∷ xs) ss ≡ joined (ss ++ r)
    j = extended-joined i (x ∷ xs) ss ok.apart

-- ---- clear

apart-cleared : (i : ℕ) (ss : List Span) → Apart ss → Apart (cleared i ss)
unfolding cleared
apart-cleared i [] a = (tt, tt)
apart-cleared i (s ∷ []) a = (and-false (not (is_delete s)), (tt, tt))
apart-cleared i (s ∷ t ∷ ss) a = (a.0, apart-cleared i (t ∷ ss) a.1)

pub spans-ok-cleared : (m : Manager) (i : ℕ) (ss : List Span) → epoch_ok m i ≡ true → length ss < entries_max
    → SpansOk m ss → SpansOk m (cleared i ss)
unfolding cleared
spans-ok-cleared m i ss h e ok = record {
  marks = All-append MarkOk ss (delete_span i ∷ []) ok.marks (omega arith, tt);
  epochs = All-append (EpochOk m) ss (delete_span i ∷ []) ok.epochs (h, tt);
  filled = All-append Filled ss (delete_span i ∷ []) ok.filled (λ f. let z : ◌≡◌ {A = ℕ} 0 1 = cc in omega arith, tt);
  apart = apart-cleared i ss ok.apart;
  rows_fit = rw (words-cleared i ss) ok.rows_fit;
  entries_fit = rw (length-cleared i ss) e;
}

-- ---- roll back

pub spans-ok-rolled_back : (m m' : Manager) (i : ℕ) (ss : List Span)
    → ((j : ℕ) → epoch_ok m j ≡ true → (j ≡ i → ⊥) → epoch_ok m' j ≡ true) → SpansOk m ss
    → SpansOk m' (rolled_back i ss)
unfolding rolled_back
spans-ok-rolled_back m m' i ss f ok = let q : Span → Bool = λ s. not (eqb s.epoch i) in
    let a = length-keep_if q ss in let b = length-joined (keep_if q ss) in let c = words-keep_if q ss in
    let d = ok.rows_fit in let e = ok.entries_fit in
    spans-ok-joined m' (keep_if q ss) (All-keep_if_imp MarkOk MarkOk q (λ s t p. p) ss ok.marks)
    (All-keep_if_imp (EpochOk m) (EpochOk m') q
    (λ s t p. f s.epoch p (eqb-false s.epoch i (not-true (eqb s.epoch i) t))) ss ok.epochs)
    (All-keep_if_imp Filled Filled q (λ s t p. p) ss ok.filled) (omega arith) (omega arith)

-- ---- purge

pub spans-ok-purged : (m : Manager) (l : ℕ) (ss : List Span)
    → ((j : ℕ) → epoch_ok m j ≡ true → epoch_ok m (max j l) ≡ true) → SpansOk m ss → SpansOk m (purged l ss)
unfolding purged
spans-ok-purged m l ss f ok =
    let a = length-purged_in l ss ss in let b = length-joined (purged_in l ss ss) in let c = words-purged_in l ss ss in
    let d = ok.rows_fit in let e = ok.entries_fit in
    spans-ok-joined m (purged_in l ss ss) (All-purged_in MarkOk l ss (λ s d p. omega arith) ss ok.marks)
    (All-purged_in (EpochOk m) l ss (λ s d p. f s.epoch p) ss ok.epochs)
    (All-purged_in Filled l ss (λ s d p e. p d) ss ok.filled) (omega arith) (omega arith)
