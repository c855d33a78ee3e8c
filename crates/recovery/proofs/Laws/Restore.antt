-- What recovery decides by value is what step leaves. Definitions: specs/Restore.antt.
-- In order: what recovery leaves, a refusal, the spans of a partition's rows, the rows and the entry of partition p,
-- the partitions below n, the totals, recovery.
-- Assumes nothing.
use mathlib.Core.Path.{◌≡◌, refl, sym, ap, subst, ◌∙◌}
use mathlib.Core.Bool.{true, false, cond}
use mathlib.Core.List.{List, [], ◌∷◌, append-nil}
use Prim.Native.Nat.{ℕ, zero, suc, ◌+◌, ◌*◌, ◌≤◌, ◌<◌}
use native.Mathlib.Numerals.{add-one}
use native.Mathlib.Omega.{arith}
use lib.ListN.{length, get_or, set, take, drop, replicate, length-set}
use lib.Seq.{drop-drop, get_or-set_same, get_or-set_other}
use lib.Dec.{leb, eqb}
use borrow.Author.Tests.{eqb-true, leb-true, le-leb, ne_eqb}
use Rattle.lists.specs.Lists.{over}
use Rattle.lists.proofs.Laws.Bools.{split, split-eq, and_left, and_right}
use Rattle.lists.proofs.Laws.Over.{over-nil, over-one}
use Rattle.lists.proofs.Laws.Parts.{length_over}
use Rattle.lists.proofs.Laws.Places.{all-at}
use Rattle.rules.specs.Limits.{last_epoch, partitions_max, rows_max, entries_max, areas_max}
use Rattle.rules.specs.Manager.{Manager}
use Rattle.rules.specs.Begin.{created_manager}
use Rattle.rules.specs.Span.{entries_of, words_of}
use Rattle.rules.specs.Weight.{weight, weight_by, total}
use Rattle.rules.specs.Checkpoint.{Checkpoint, numbers_in, body_size, saved_in, is_corrupt, checkpoint_of}
use Rattle.std.specs.Prelude.{Result, Ok, Err, IfOk, IfErr}
use Rattle.rules.specs.Store.{Store, manager_of, no_partition, spans_at, state_of, with_totals, total_at, totals_of}
use Rattle.rules.specs.Store.{refreshed}
use Rattle.rules.specs.Store.{fresh_partitions, created_store, laid, laid_in_place}
use Rattle.rules.specs.WellFormed.{lengths_ok}
use Rattle.rules.specs.Recovery.{recovered_spans, recovered_below, recovered_store, recover_answer}
use Rattle.rules.specs.Step.{Outcome, outcome, step, recover}
use Rattle.rules.specs.declared.Answer.TheVariants.{Recovered, Refused}
use Rattle.rules.specs.declared.Refusal.{Refusal}
use Rattle.rules.specs.declared.Refusal.TheVariants.{Unsound, Corrupt}
use Rattle.rules.specs.declared.Entry.{Entry}
use Rattle.rules.specs.declared.Partition.{Partition}
use Rattle.rules.specs.declared.State.{State}
use Rattle.laws.proofs.Laws.Answers.{refused}
use Rattle.laws.proofs.Laws.Bytes.{rows_in-count}
use Rattle.laws.proofs.Laws.Checkpoint.{CheckpointOk, saved-ok}
use Rattle.laws.proofs.Laws.Recovery.{recovered-manager, recovered-spans}
use Rattle.laws.proofs.Laws.Totals.{totals-by, spans-refreshed}
use Rattle.laws.proofs.Recovers.{shown-recovered}
use Rattle.partition_sound.specs.Asked.{lengths_are}
use Rattle.checkpoint.specs.Header.{header_in, found_in, checkpoint_by}
use Rattle.checkpoint.specs.Rows.{rows_read, weight_read}
use Rattle.checkpoint.specs.declared.Header.{Header}
use Rattle.checkpoint.proofs.Laws.Header.{Whole, header-whole, header-errs, header-found}
use Rattle.store.specs.Kept.{store_of, Left}
use Rattle.recovery.specs.Restore.{body_of, bodies_for, weights_for, restored_from, restored_in, restored_by}
use Rattle.recovery.specs.Restore.{entry_of, entry_put, entries_restored, rows_restored, entries_for, partition_for}
use Rattle.recovery.specs.Restore.{partitions_for, books_restored}
use Rattle.recovery.specs.declared.Restored.{Restored}
use Rattle.recovery.proofs.Laws.Bodies.{body-next, body_end, rows_at}
use Rattle.laws.proofs.Laws.Each.{each_at}

-- ---- what recovery leaves, by what was decided

abbrev pub Leaves : State → List Entry → List ℕ → List ℕ → Outcome → Result Restored Refusal → Type 0
Leaves s es rs file out (Ok w) =
    Left out (record { state = books_restored w; answer = Recovered }) (rows_restored file w partitions_max rs)
    (entries_restored w partitions_max es)
Leaves s es rs file out (Err why) = Left out (record { state = s; answer = Refused why }) rs es

refused-left : (r : Refusal) (s : State) (es : List Entry) (rs file : List ℕ) (next : Store)
    → Leaves s es rs file (outcome (Refused r) next (store_of s rs es)) (Err r)
refused-left r s es rs file next = rw (refused r) (refl, refl)

-- ---- the spans of rows: one, of epoch e, where there are rows

words-recovered : (e : ℕ) (ws : List ℕ) → words_of (recovered_spans e ws) ≡ ws
unfolding words_of
words-recovered e [] = refl
words-recovered e (w ∷ ws) = append-nil (w ∷ ws)

count-recovered : (e : ℕ) (ws : List ℕ) → length (recovered_spans e ws) ≡ entries_for (length ws)
count-recovered e [] = refl
count-recovered e (w ∷ ws) = rw (ne_eqb (suc (length ws)) 0 (λ z. omega arith))

abbrev one_entry : ℕ → ℕ → List Entry
one_entry e n = cond (eqb n 0) [] (record { epoch = e; end = n; mark = 0 } ∷ [])

entry-recovered : (e : ℕ) (ws : List ℕ) → entries_of 0 (recovered_spans e ws) ≡ one_entry e (length ws)
unfolding entries_of
entry-recovered e [] = refl
entry-recovered e (w ∷ ws) = let z : 0 + suc (length ws) ≡ suc (length ws) = omega arith in
    rw (z, ne_eqb (suc (length ws)) 0 (λ z. omega arith))

total-recovered : (e : ℕ) (ws : List ℕ) → total e (recovered_spans e ws) ≡ weight ws
unfolding total weight_by
total-recovered e ws = ap weight (shown-recovered e ws)

-- ---- of a header that is found

module _ (file : List ℕ) (h : Header) (W : Whole last_epoch file h) where
  abbrev c : Checkpoint
  c = checkpoint_by file h

  abbrev count : ℕ → ℕ
  count p = get_or h.counts p 0

  abbrev ws : ℕ → List ℕ
  ws p = get_or c.rows p []

  ws-are : (p : ℕ) → ws p ≡ numbers_in 8 (count p) (drop (body_of h p) file)
  ws-are p = rows_at h.counts (drop h.body file) p
      ∙ ap (numbers_in 8 (count p)) (drop-drop (body_size (take p h.counts)) h.body file)

  ws-count : (p : ℕ) → length (ws p) ≡ count p
  ws-count p = rows_in-count h.counts (drop h.body file) p

  count_fits : (p : ℕ) → p < partitions_max → count p ≤ rows_max
  count_fits p l = let n = W.eight in
      leb-true (count p) rows_max (all-at (λ n. leb n rows_max) h.counts 0 W.counts p (omega arith))

  body-fits : (p : ℕ) → body_of h p + 8 * count p ≤ length file
  body-fits p = let a = body-next h p in let b = body_end h (suc p) in let f = W.body in omega arith

  -- ---- the rows of partition p, and what they weigh

  rows_next : (p : ℕ) → p < partitions_max → (rows : List ℕ) → length rows ≡ rows_max * areas_max
      → rows_read (rows_max * p) (get_or (bodies_for h) p 0) (count p) file rows ≡ over (rows_max * p) (ws p) rows
  unfolding rows_read
  rows_next p l rows n = let k = count_fits p l in
      rw (
        each_at 0 (body_of h) p l,
        le-leb (rows_max * p + count p) (length rows) (omega arith),
        le-leb (body_of h p + 8 * count p) (length file) (body-fits p),
      )
      (ap (λ xs. over (rows_max * p) xs rows) (sym (ws-are p)))

  weight_is : (p : ℕ) → p < partitions_max → weight (ws p) ≡ weight_read (get_or (bodies_for h) p 0) (count p) file
  unfolding weight_read
  weight_is p l =
      rw (
        each_at 0 (body_of h) p l,
        le-leb (count p) rows_max (count_fits p l),
        le-leb (body_of h p + 8 * count p) (length file) (body-fits p),
      ) (ap weight (ws-are p))

  module _ (s : State) (es : List Entry) (rs : List ℕ) (le : length es ≡ entries_max * areas_max)
      (lr : length rs ≡ rows_max * areas_max) where
    abbrev w : Restored
    w = restored_from file h

    abbrev e : ℕ
    e = h.epoch

    abbrev st : Store
    st = store_of s rs es

    rows-length : (n : ℕ) → n ≤ partitions_max → length (rows_restored file w n rs) ≡ rows_max * areas_max
    unfolding rows_restored
    rows-length zero l = lr
    rows-length (suc n) l = let m = rows-length n (omega arith) in let k = count_fits n (omega arith) in
        let a = ws-count n in
        ap length (rows_next n (omega arith) (rows_restored file w n rs) m)
        ∙ length_over (rows_max * n) (ws n) (rows_restored file w n rs) (omega arith) ∙ m

    -- its entry, where it has rows
    entry_next : (p : ℕ) → p < partitions_max → (xs : List Entry) → length xs ≡ length es
        → entry_put w p xs ≡ over (entries_max * p) (one_entry e (count p)) xs
    entry_next p l xs n = split (eqb (count p) 0)
        (λ t. rw t (sym (over-nil (entries_max * p) xs)))
        (λ f. rw f (sym (over-one (entries_max * p) _ xs (omega arith))))

    entries-length : (n : ℕ) → length (entries_restored w n es) ≡ length es
    unfolding entries_restored
    entries-length zero = refl
    entries-length (suc n) = split (eqb (count n) 0)
        (λ t. rw t (entries-length n))
        (λ f. rw f (length-set (entries_restored w n es) (entries_max * n) (entry_of w n) ∙ entries-length n))

    -- ---- the partitions below n

    abbrev at_below : ℕ → List Partition
    at_below zero = fresh_partitions.at
    at_below (suc n) = set (at_below n) n (partition_for h.counts n)

    at_length : (n : ℕ) → length (at_below n) ≡ partitions_max
    at_length zero = refl
    at_length (suc n) = length-set (at_below n) n _ ∙ at_length n

    at-area : (n p : ℕ) → p < partitions_max → (get_or (at_below n) p no_partition).area ≡ p
    at-area zero p l = ap (λ (q : Partition). q.area)
        (each_at no_partition (λ a. record { area = a; rows = 0; entries = 0 }) p l)
    at-area (suc n) p l = split-eq p n
        (λ t. let k = at_length n in rw t (ap (λ (q : Partition). q.area)
        (get_or-set_same (at_below n) n (partition_for h.counts n) no_partition (omega arith))))
        (λ ne. ap (λ (q : Partition). q.area) (get_or-set_other (at_below n) n p _ no_partition ne) ∙ at-area n p l)

    abbrev made_new : List Partition → State
    made_new at = state_of (created_manager (suc e)) (record { at = at; spare = 8 }) (replicate partitions_max 0)

    abbrev below_store : ℕ → Store
    below_store n = store_of (made_new (at_below n)) (rows_restored file w n rs) (entries_restored w n es)

    laid_next : (n : ℕ) → n < partitions_max
        → laid_in_place n (recovered_spans e (ws n)) (below_store n) ≡ below_store (suc n)
    unfolding laid_in_place laid rows_restored entries_restored
    laid_next n l =
        let rows = rows_restored file w n rs in let xs = entries_restored w n es in let z = ws-count n in
        let area = at-area n n l in let words = words-recovered e (ws n) in
        let r = ap length words ∙ z in let k = count-recovered e (ws n) ∙ ap entries_for z in
        let entry = entry-recovered e (ws n) ∙ ap (one_entry e) z in
        (λ j. store_of (made_new (set (at_below n) n (record { area = area j; rows = r j; entries = k j })))
        (over (rows_max * area j) (words j) rows) (over (entries_max * area j) (entry j) xs))
        ∙ (λ j. store_of (made_new (at_below (suc n))) (sym (rows_next n l rows (rows-length n (omega arith))) j)
        (sym (entry_next n l xs (entries-length n)) j))

    below : (n : ℕ) → n ≤ partitions_max → recovered_below c n st ≡ below_store n
    unfolding recovered_below created_store rows_restored entries_restored
    below zero l = refl
    below (suc n) l = ap (laid_in_place n (recovered_spans e (ws n))) (below n (omega arith))
        ∙ laid_next n (omega arith)

    -- ---- the totals, and the whole

    module _ (k : CheckpointOk last_epoch c) (t : lengths_ok st ≡ true) where
      abbrev last : Store
      last = recovered_below c partitions_max st

      lce-is : (manager_of last).clock.lce ≡ e
      unfolding recovered_store created_manager
      lce-is = ap (λ (m : Manager). m.clock.lce) (recovered-manager c k st t) ∙ omega arith

      spans-are : (p : ℕ) → p < partitions_max → spans_at p last ≡ recovered_spans e (ws p)
      unfolding recovered_store
      spans-are p l = sym (spans-refreshed p last) ∙ recovered-spans c k st t p l

      totals-are : totals_of last ≡ weights_for file h.counts (bodies_for h)
      unfolding total_at
      totals-are = totals-by last (λ p. weight_read (get_or (bodies_for h) p 0) (count p) file)
          (λ p l. ap (λ (n : ℕ). total n (spans_at p last)) lce-is ∙ ap (total e) (spans-are p l)
          ∙ total-recovered e (ws p) ∙ weight_is p l)

      whole : refreshed last ≡ store_of
          (state_of (created_manager (suc e)) (partitions_for h.counts) (weights_for file h.counts (bodies_for h)))
          (rows_restored file w partitions_max rs) (entries_restored w partitions_max es)
      whole = ap (λ (x : Store). with_totals (totals_of last) x) (below partitions_max (omega arith))
          ∙ ap (λ (ts : List ℕ). with_totals ts (below_store partitions_max)) totals-are

      restored-left : Leaves s es rs file (outcome Recovered (recovered_store c st) st) (Ok w)
      unfolding recovered_store
      restored-left = (
        refl,
        (λ j. store_of (state_of (created_manager (add-one e j)) (partitions_for h.counts) w.totals)
            (rows_restored file w partitions_max rs) (entries_restored w partitions_max es)) ∙ sym whole,
      )

-- ---- recovery

-- whatever header is found, where so much is lent as is to be
by-header : (s : State) (es : List Entry) (rs file : List ℕ) (f : Result Header Refusal) → header_in last_epoch file ≡ f
    → lengths_ok (store_of s rs es) ≡ true
    → Leaves s es rs file (step (recover file) (store_of s rs es)) (restored_in file f)
unfolding step recover_answer lengths_ok found_in
by-header s es rs file (Ok h) e t = let st = store_of s rs es in
    let a = eqb (length rs) (rows_max * areas_max) in let b = eqb (length es) (entries_max * areas_max) in
    let is = header-found last_epoch file ∙ ap (found_in file) e in
    let ok = ap is_corrupt is in let k = ap checkpoint_of is in
    rw (t, ok, k)
    (restored-left file h (subst (λ r. IfOk r (Whole last_epoch file)) e (header-whole last_epoch file)) s es rs
    (eqb-true (length es) (entries_max * areas_max) (and_right a b t))
    (eqb-true (length rs) (rows_max * areas_max) (and_left a b t)) (rw k at (saved-ok file)) t)
by-header s es rs file (Err why) e t = let st = store_of s rs es in
    let is = header-found last_epoch file ∙ ap (found_in file) e in let no = ap is_corrupt is in
    let w : why ≡ Corrupt = subst (λ r. IfErr r (λ x. x ≡ Corrupt)) e (header-errs last_epoch file) in
    rw (t, no, w) (refused-left Corrupt s es rs file (recovered_store (saved_in file) st))

too-short : (s : State) (es : List Entry) (rs file : List ℕ) → lengths_ok (store_of s rs es) ≡ false
    → Leaves s es rs file (step (recover file) (store_of s rs es)) (Err Unsound)
unfolding step recover_answer
too-short s es rs file u = let st = store_of s rs es in
    rw u (refused-left Unsound s es rs file (recovered_store (saved_in file) st))

module _ (file : List ℕ) (n m : ℕ) where
  pub restored-well : lengths_are n m ≡ true → restored_by file n m ≡ restored_in file (header_in last_epoch file)
  unfolding restored_by
  restored-well t = rw t

  pub restored-short : lengths_are n m ≡ false → restored_by file n m ≡ Err Unsound
  unfolding restored_by
  restored-short u = rw u

pub recover-left : (s : State) (es : List Entry) (rs file : List ℕ)
    → Leaves s es rs file (step (recover file) (store_of s rs es)) (restored_by file (length es) (length rs))
unfolding lengths_ok lengths_are
recover-left s es rs file = let st = store_of s rs es in let f = header_in last_epoch file in
    split (lengths_ok st)
    (λ t. subst (Leaves s es rs file (step (recover file) st)) (sym (restored-well file (length es) (length rs) t))
    (by-header s es rs file f refl t))
    (λ u. subst (Leaves s es rs file (step (recover file) st)) (sym (restored-short file (length es) (length rs) u))
    (too-short s es rs file u))
