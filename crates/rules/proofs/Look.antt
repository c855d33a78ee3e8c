-- How cases look at the store: a list of calls from a store made new, and a look at what they leave.
-- `observed` opens every definition, so that a case is proved by computing. A table is one computed test, which fails
-- sooner than a comparison of what all of it computes to.
-- Assumes nothing.
use mathlib.Core.Path.{◌≡◌, refl}
use mathlib.Core.Bool.{Bool, true, false, ◌&&◌, cond}
use mathlib.Core.List.{List, [], ◌∷◌, map}
use Prim.Native.Nat.{ℕ, zero, suc, ◌*◌}
use lib.ListN.{replicate}
use lib.Dec.{eqb}
use borrow.Author.Tests.{eqb-true}
use Rattle.lists.proofs.Laws.Bools.{and_left, and_right}
use Rattle.rules.specs.Limits.{rows_max, entries_max, areas_max, last_epoch, last_ticket}
use Rattle.rules.specs.Begin.{created_manager, begun_manager}
use Rattle.rules.specs.Close.{committed_txns, dropped_txns, settled_lce, oldest_open, settled, committed_manager}
use Rattle.rules.specs.Close.{rolled_back_manager}
use Rattle.rules.specs.ReadOnly.{snapshot_epoch, begun_ro_manager, ended_ro_manager}
use Rattle.rules.specs.Safe.{blocked, greatest_target, target_of, advanced_manager}
use Rattle.rules.specs.Span.{spans, entries_of, words_of}
use Rattle.rules.specs.Append.{extended, appended, cleared}
use Rattle.rules.specs.Sees.{sees_rw, applies_rw}
use Rattle.rules.specs.Hides.{hidden, flags_in, flags, shown_in, shown}
use Rattle.rules.specs.Weight.{weight, weight_by, total}
use Rattle.rules.specs.Rewrite.{joined_onto, joined, has_epoch, rolled_back, purged_in, purged, skips}
use Rattle.rules.specs.Bitmap.{bytes_for, byte_of, packed, bitmap_after}
use Rattle.rules.specs.Store.{Store, entries_at, spans_at, laid, laid_in_place, laid_in_spare, created_store}
use Rattle.rules.specs.Store.{state_of, total_at, totals_of, rolled_back_at, rolled_back_below, purged_store}
use Rattle.rules.specs.Answers.{reply_of, first_value, second_value}
use Rattle.rules.specs.WellFormed.{clock_ok, deps_ok, status_ok, writers_ok, readers_ok, manager_ok, areas_ok}
use Rattle.rules.specs.WellFormed.{epoch_ok, ends_ok, apart, partition_ok, lengths_ok, well_formed, totals_ok, sound}
use Rattle.rules.specs.Calls.{create_answer, begin_answer, append_answer, clear_answer, close_answer}
use Rattle.rules.specs.Calls.{begin_ro_answer, end_ro_answer, sees_of, applies_of, flags_at, scan_answer}
use Rattle.rules.specs.Calls.{advance_lse_answer, purge_answer}
use Rattle.rules.specs.Checkpoint.{bytes_of, number_of, numbers_in, encoded, rows_in, header_ok, last_from}
use Rattle.rules.specs.Recovery.{checkpoint_at, save_answer, recovered_below, recovered_store, recover_answer}
use Rattle.rules.specs.Step.{Call, create, scan, save, on_scan, saved_over, step, run}
use Rattle.rules.specs.Claim.{bit_at, words_scanned, words_at_ones}
use Rattle.rules.specs.declared.Reader.{Reader}

-- a store made new at s, whatever words stood there before
unfoldable pub made : ℕ → Store
made s =
    (step (create s) (record {
      state = state_of (created_manager 5) (record { at = []; spare = 3 }) (4 ∷ []);
      rows = replicate (rows_max * areas_max) 77;
      entries = replicate (entries_max * areas_max) (record { epoch = 9; end = 9; mark = 9 });
    })).store

-- ---- a call's line in 01's session: the number, then the values; of a scan the words shown

unfoldable pub line : Call → Store → List ℕ
line c st =
    let r = reply_of (step c st).answer in
    r.number ∷ on_scan c (λ (v : Reader) (p : ℕ) (lent : List ℕ). words_scanned v p lent st) r.values

unfoldable pub lines : List Call → Store → List (List ℕ)
lines [] st = []
lines (c ∷ cs) st = line c st ∷ lines cs (step c st).store

-- ---- looks

pub data Look : Type 0 where
  -- the lines of further calls
  lines_of : List Call → Look
  -- the bits of a scan by a reader, row by row
  bits_to : Reader → ℕ → Look
  -- a scan's number, row count and count of ones, and the bytes that it leaves of those that it is lent
  bytes_to : Reader → ℕ → List ℕ → Look
  -- a save's number and its value, and the bytes that it leaves of those that it is lent
  saved_to : ℕ → List ℕ → Look
  -- the entries of a partition: epoch, end, mark
  entries_in : ℕ → Look
  -- the totals of all partitions
  totals_left : Look

-- the first n bits from row i on
unfoldable pub bits : ℕ → ℕ → List ℕ → List ℕ
bits zero i bytes = []
bits (suc n) i bytes = cond (bit_at bytes i) 1 0 ∷ bits n (suc i) bytes

unfoldable pub looked : Look → Store → List (List ℕ)
looked (lines_of cs) st = lines cs st
looked (bits_to r p) st =
    let out = step (scan r p (replicate 64 255)) st in bits (first_value (reply_of out.answer)) 0 out.bytes ∷ []
looked (bytes_to r p lent) st =
    let out = step (scan r p lent) st in
    let reply = reply_of out.answer in (reply.number ∷ first_value reply ∷ second_value reply ∷ []) ∷ out.bytes ∷ []
looked (saved_to e lent) st =
    let out = step (save e lent) st in
    let reply = reply_of out.answer in (reply.number ∷ first_value reply ∷ []) ∷ out.bytes ∷ []
looked (entries_in p) st = map (λ e. e.epoch ∷ e.end ∷ e.mark ∷ []) (entries_at p st)
looked totals_left st = st.state.totals ∷ []

pub record Case : Type 0 where
  pub start : Store
  pub calls : List Call
  pub look : Look
  pub expected : List (List ℕ)

unfoldable pub observed : Case → List (List ℕ)
unfolding made line lines bits looked last_epoch last_ticket created_manager begun_manager committed_txns
    dropped_txns settled_lce oldest_open settled committed_manager rolled_back_manager snapshot_epoch begun_ro_manager
    ended_ro_manager blocked greatest_target target_of advanced_manager spans entries_of words_of extended appended
    cleared sees_rw applies_rw hidden flags_in flags joined_onto joined has_epoch rolled_back purged_in purged skips
    bytes_for byte_of packed bitmap_after spans_at laid laid_in_place laid_in_spare created_store rolled_back_at
    rolled_back_below purged_store clock_ok deps_ok status_ok writers_ok readers_ok manager_ok areas_ok epoch_ok ends_ok
    apart partition_ok lengths_ok well_formed shown_in shown weight weight_by total total_at totals_of totals_ok
    sound create_answer begin_answer append_answer clear_answer close_answer
    begin_ro_answer end_ro_answer sees_of applies_of flags_at scan_answer advance_lse_answer purge_answer step run
    words_at_ones bytes_of number_of numbers_in encoded rows_in header_ok last_from checkpoint_at save_answer
    recovered_below
    recovered_store recover_answer saved_over
observed c = looked c.look (run c.calls c.start)

-- ---- a table's test

module _ {A : Type 0} (test : A → A → Bool) where
  -- as long as each other, and each pair passes the test
  unfoldable pub alike : List A → List A → Bool
  alike [] [] = true
  alike [] (y ∷ ys) = false
  alike (x ∷ xs) [] = false
  alike (x ∷ xs) (y ∷ ys) = test x y && alike xs ys

  module _ (exact : (x y : A) → test x y ≡ true → x ≡ y) where
    alike-eq : (xs ys : List A) → alike xs ys ≡ true → xs ≡ ys
    unfolding alike
    alike-eq [] [] e = refl
    alike-eq [] (y ∷ ys) e = cc
    alike-eq (x ∷ xs) [] e = cc
    alike-eq (x ∷ xs) (y ∷ ys) e =
        let ih = alike-eq xs ys (and_right (test x y) (alike xs ys) e) in
        let h = exact x y (and_left (test x y) (alike xs ys) e) in cc

unfoldable pub agree : List (List (List ℕ)) → List (List (List ℕ)) → Bool
agree = alike (alike (alike eqb))

pub agree-eq : (xs ys : List (List (List ℕ))) → agree xs ys ≡ true → xs ≡ ys
unfolding agree
agree-eq = alike-eq (alike (alike eqb)) (alike-eq (alike eqb) (alike-eq eqb eqb-true))

-- ---- a table's theorem: that its test passes is a lemma of its own, since as an argument the test is computed twice

pub data IsTrue : Bool → Type 0 where
  yes : IsTrue true

-- each case is observed as expected
abbrev pub passes : List Case → Bool
passes cs = agree (map observed cs) (map (λ c. c.expected) cs)

pub table-holds : (cs : List Case) → IsTrue (passes cs) → map observed cs ≡ map (λ c. c.expected) cs
table-holds cs t = agree-eq (map observed cs) (map (λ c. c.expected) cs) (true_of t)
  where
    true_of : {b : Bool} → IsTrue b → b ≡ true
    true_of yes = refl
