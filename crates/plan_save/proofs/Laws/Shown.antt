-- The runs of a sound store's partitions (01: lots) hold what a read-only transaction (01: page) is shown of them.
-- Definitions: specs/Runs.antt; rules/specs/Hides.antt, rules/specs/Recovery.antt.
-- In order: a part that is kept; an entry over the one before it; from where on a partition is gone over; the
-- partitions below p; the rows of one partition; how many.
-- Assumes nothing.
use mathlib.Core.Path.{◌≡◌, sym, ◌∙◌, ap}
use mathlib.Core.Bool.{true, cond}
use mathlib.Core.List.{List, foldl, map}
use Prim.Native.Nat.{ℕ, zero, suc, ◌+◌, ◌-◌, ◌*◌, ◌≤◌, ◌<◌}
use native.Mathlib.Omega.{arith}
use lib.ListN.{length, take, drop, get_or, length-take, length-replicate, get_or-replicate}
use lib.Seq.{take-take, get_or-drop, set-set}
use lib.Dec.{ltb}
use borrow.Author.Tests.{lt-ltb, ltb-true}
use Rattle.lists.specs.Lists.{gather, part}
use Rattle.lists.proofs.Laws.All.{All, All_imp}
use Rattle.lists.proofs.Laws.Bools.{split, split-eq}
use Rattle.lists.proofs.Laws.Parts.{drop-take}
use Rattle.rules.specs.Limits.{rows_max, entries_max, partitions_max}
use Rattle.rules.specs.Span.{Span}
use Rattle.rules.specs.Store.{Store, manager_of, partition_at, entries_at, spans_at}
use Rattle.rules.specs.Recovery.{shown_at, checkpoint_at}
use Rattle.rules.specs.declared.Entry.{Entry}
use Rattle.rules.specs.declared.Partition.{Partition}
use Rattle.rules.specs.declared.Partitions.{Partitions}
use Rattle.laws.proofs.Laws.Epochs.{epoch-facts}
use Rattle.laws.proofs.Laws.WellFormed.{StoreOk, partition-entries}
use Rattle.lent.specs.Shapes.{turned}
use Rattle.totals.specs.Places.{from_of, to_of}
use Rattle.totals.specs.Reach.{page_reach, no_top, top_turn, cut_of, shows}
use Rattle.totals.specs.declared.Cut.{Cut}
use Rattle.totals.proofs.Laws.Page.{page-shows}
use Rattle.totals.proofs.Laws.Clearing.{top-still}
use Rattle.totals.proofs.Laws.Lot.{Lies, lot-turned, lot-last, SeenRows, shows-all, top_of, lot-shown}
use Rattle.partition_sound.specs.declared.Verdict.{Verdict}
use Rattle.plan_save.specs.Runs.{runs_in, size_of, runs_max, words_max, no_words, first_of, word_of, Laid, laid_turn}
use Rattle.plan_save.specs.Runs.{whole_at, sought_from, page_cut, laid_below, runs_of, words_at, counts_of}
use Rattle.plan_save.specs.Runs.{pending_turn, place_in}
use Rattle.plan_save.specs.declared.runs.Pending.{Pending}
use Rattle.plan_save.proofs.Laws.Joined.{joined, RunOk, joined-ok, run_rows, joined-rows, size-rows}
use Rattle.plan_save.proofs.Laws.Laid.{Stands, Lays, lays}

-- ---- a part that is kept

part-kept : (n k m : ℕ) (xs ys : List ℕ) → k + m ≤ n → take n xs ≡ take n ys → part k m xs ≡ part k m ys
part-kept n k m xs ys h e =
    let f = sym (take-take (k + m) n xs h) ∙ (ap (take (k + m)) e ∙ take-take (k + m) n ys h) in
    sym (drop-take k m xs) ∙ (ap (drop k) f ∙ drop-take k m ys)

-- ---- an entry that is shown writes over the run of the one before it

over_last : (c : Cut) (x : Laid) (d g : Entry) → ((n : ℕ) → shows c n d.epoch ≡ true)
    → ((n : ℕ) → shows c n g.epoch ≡ true) → laid_turn c (laid_turn c x d) g ≡ laid_turn c x g
unfolding pending_turn place_in
over_last c x d g h k = let s = x.pending in
    let to : Entry → Pending = λ y. record { at = s.at; from = s.from; end = y.end } in
    rw (h s.end, k d.end, k s.end) (λ i. record {
      pending = to g;
      words = set-set x.words (cond (ltb s.at words_max) s.at 0) (word_of (to d)) (word_of (to g)) i;
    })

-- ---- a sound store, of which v was found

-- of a partition that is whole by it a page at e is shown each entry
abbrev pub WholeShown : Store → Verdict → ℕ → Type 0
WholeShown st v e = (p : ℕ) → p < partitions_max → whole_at v p e ≡ true → All (SeenRows e) (entries_at p st)

module _ (st : Store) (ok : StoreOk st) (v : Verdict) (e : ℕ) (whole : WholeShown st v e) where
  abbrev es : List Entry
  es = st.entries

  abbrev ps : Partitions
  ps = st.state.partitions

  abbrev cut : ℕ → Cut
  cut p = page_cut es (partition_at p st) v p e

  abbrev runs : ℕ → List ℕ
  runs p = laid_below es ps v e p

  lies : (p : ℕ) → p < partitions_max → Lies es st.rows (partition_at p st)
  lies p h = let o = partition-entries p st (ok.partition p h) in let n = (ok.partition p h).entry-count in
      let f = (ok.partition p h).spans-ok.entries_fit in record {
        placed = record { entries-length = ok.entries-length; inside = ok.areas.inside p h; few = omega arith };
        rows-length = ok.rows-length;
        fits = o.rows_fit;
        ends = o.ends;
      }

  few : (p : ℕ) → p < partitions_max → length (entries_at p st) ≤ entries_max
  few p h = let q = partition_at p st in let f = (lies p h).placed.few in
      omega (arith, length-take q.entries (drop (entries_max * q.area) es))

  -- to go over them from there on is to go over all, where of shown entries the last alone tells
  sought-turned : {X : Type 0} (p : ℕ) → p < partitions_max → (f : X → Entry → X) (a : X)
      → (whole_at v p e ≡ true → (d g : Entry) → SeenRows e d → SeenRows e g → f (f a d) g ≡ f a g)
      → let q = partition_at p st in turned f a es (sought_from q v p e) (to_of q - sought_from q v p e)
      ≡ foldl f a (entries_at p st)
  unfolding sought_from
  sought-turned p h f a forgets = let q = partition_at p st in let P = (lies p h).placed in split (whole_at v p e)
      (λ t. split (ltb (from_of q) (to_of q))
      (λ l. rw (t, l) (lot-last es q P f a (SeenRows e) (forgets t) (whole p h t) (ltb-true (from_of q) (to_of q) l)))
      (λ l. rw (t, l) (lot-turned es q P f a)))
      (λ t. rw t (lot-turned es q P f a))

  -- the greatest clearing
  top-is : (p : ℕ) (h : p < partitions_max) → let q = partition_at p st in
      turned (top_turn (page_reach e)) no_top es (sought_from q v p e) (to_of q - sought_from q v p e)
      ≡ top_of es st.rows q (lies p h) (page_reach e)
  top-is p h = sought-turned p h (top_turn (page_reach e)) no_top (λ t d g m n. rw m.rows)

  -- there is none where all rows are shown
  whole-shows : (p : ℕ) → p < partitions_max → whole_at v p e ≡ true → (n : ℕ) (d : Entry) → SeenRows e d
      → shows (cut p) n d.epoch ≡ true
  whole-shows p h t n d m = rw (
    top-is p h,
    top-still (page_reach e) no_top (entries_at p st)
        (All_imp _ _ (λ g k. rw k.rows) (entries_at p st) (whole p h t)),
  ) (shows-all e 0 n d.epoch m.some m.seen)

  -- ---- the partitions below p: their runs are laid, and the places of the others are blank

  record Below (p : ℕ) (ws : List ℕ) : Type 0 where
    long : length ws ≡ words_max
    laid : (i : ℕ) → i < p → runs_in (words_at ws i) ≡ joined (cut i) 0 0 (entries_at i st)
    blank : (j : ℕ) → runs_max * p ≤ j → j < words_max → get_or ws j 0 ≡ 0

  below_none : Below 0 (runs 0)
  unfolding laid_below no_words
  below_none = record {
    long = length-replicate {A = ℕ} words_max 0;
    laid = λ i h. absurd (omega arith);
    blank = λ j h k. get_or-replicate {A = ℕ} words_max j 0 0 k;
  }

  module _ (p : ℕ) (h : p < partitions_max) (w : Below p (runs p)) where
    abbrev start : Laid
    start = record { pending = record { at = runs_max * p; from = 0; end = 0 }; words = runs p }

    first-is : first_of p ≡ record { at = runs_max * p; from = 0; end = 0 }
    unfolding first_of
    first-is = rw (lt-ltb p partitions_max h)

    stands : Stands (runs_max * p) (length (entries_at p st)) start
    unfolding word_of
    stands = let l = w.long in let f = few p h in record {
      long = l;
      inside = omega arith;
      low = omega arith;
      room = omega arith;
      up = omega arith;
      few = omega arith;
      here = w.blank (runs_max * p) (omega arith) (omega arith);
      blank = λ j a k. w.blank j (omega arith) (omega arith);
    }

    -- as the code lays them
    laid-lot : runs (suc p) ≡ (foldl (laid_turn (cut p)) start (entries_at p st)).words
    unfolding laid_below
    laid-lot = let x : Laid = record { pending = first_of p; words = runs p } in
        ap (λ x. x.words) (sought-turned p h (laid_turn (cut p)) x (λ t d g m k. over_last (cut p) x d g
        (λ n. whole-shows p h t n d m) (λ n. whole-shows p h t n g k)))
        ∙ ap (λ s. (foldl (laid_turn (cut p)) (record { pending = s; words = runs p }) (entries_at p st)).words)
        first-is

    lays-lot : Lays (runs_max * p) start (foldl (laid_turn (cut p)) start (entries_at p st))
        (joined (cut p) 0 0 (entries_at p st))
    lays-lot = lays (runs_max * p) (cut p) (partition_at p st).rows (entries_at p st) start (lies p h).fits
        (lies p h).ends stands

    abbrev next : List ℕ
    next = (foldl (laid_turn (cut p)) start (entries_at p st)).words

    below_next : Below (suc p) (runs (suc p))
    below_next = let l = lays-lot in let n = runs_max * p + runs_max in
        let m : runs_max * p + runs_max - runs_max * p ≡ runs_max = omega arith in rw laid-lot (record {
          long = l.long;
          laid = λ i k. split-eq i p
              (λ t. rw t (ap (λ a. runs_in (part (runs_max * p) a next)) (sym m) ∙ l.runs))
              (λ ne. ap runs_in (part-kept (runs_max * p) (runs_max * i) runs_max next (runs p) (omega arith) l.before)
              ∙ w.laid i (omega arith));
          blank = λ j a k. let d : n + (j - n) ≡ j = omega arith in
              ap (λ i. get_or next i 0) (sym d) ∙ (sym (get_or-drop n next (j - n) 0)
              ∙ (ap (λ xs. get_or xs (j - n) 0) l.behind ∙ (get_or-drop n (runs p) (j - n) 0
              ∙ rw d (w.blank j (omega arith) k))));
        })

  below : (p : ℕ) → p ≤ partitions_max → Below p (runs p)
  below zero h = below_none
  below (suc p) h = below_next p (omega arith) (below p (omega arith))

  -- ---- the rows of one partition

  module _ (p : ℕ) (h : p < partitions_max) where
    abbrev q : Partition
    q = partition_at p st

    abbrev own : List ℕ
    own = words_at (runs_of es ps v e).at p

    runs-are : runs_in own ≡ joined (cut p) 0 0 (entries_at p st)
    runs-are = (below partitions_max (omega arith)).laid p h

    -- where the rows lie does not matter
    same : (n j : ℕ) → shows (cut p) n j
        ≡ shows (cut_of (page_reach e) (top_of es st.rows q (lies p h) (page_reach e)) (rows_max * q.area)) n j
    unfolding shows
    same n j = rw (top-is p h)

    seen : All (λ (s : Span). 1 ≤ s.epoch) (spans_at p st)
    seen = All_imp _ _ (λ s t. (epoch-facts (manager_of st) s.epoch t).low) (spans_at p st)
        (ok.partition p h).spans-ok.epochs

    pub runs-ok : All RunOk (runs_in own)
    runs-ok = rw runs-are (joined-ok (cut p) q.rows 0 0 (entries_at p st) (lies p h).fits (lies p h).ends)

    -- what a page at e is shown
    pub rows_at : gather (run_rows st.rows (rows_max * q.area)) (runs_in own) ≡ shown_at e p st
    rows_at = let l = lies p h in rw runs-are
        (joined-rows st.rows (cut p) _ same q.rows 0 0 (entries_at p st) (omega arith) l.ends
        ∙ (lot-shown es st.rows q l (page_reach e) ∙ (unfold spans_at in page-shows e (spans_at p st) seen)))

    size-at : size_of (runs_in own) ≡ length (shown_at e p st)
    size-at = let l = ok.rows-length in let i = (lies p h).placed.inside in
        size-rows st.rows (rows_max * q.area) (omega arith) (runs_in own) runs-ok ∙ ap length rows_at

  pub counts-are : counts_of (runs_of es ps v e).at ≡ map length (checkpoint_at e st).rows
  unfolding counts_of checkpoint_at
  counts-are = rw (
    size-at 0 (omega arith),
    size-at 1 (omega arith),
    size-at 2 (omega arith),
    size-at 3 (omega arith),
    size-at 4 (omega arith),
    size-at 5 (omega arith),
    size-at 6 (omega arith),
    size-at 7 (omega arith),
  )
