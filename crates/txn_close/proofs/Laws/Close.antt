-- Closing at the place that was found, then settling, is what the rules say of the epoch.
-- Definitions: specs/Close.antt; rules/specs/Close.antt.
-- In order: one transaction closed, settled, the transactions of a manager, the books, LCE by itself.
-- Assumes nothing.
use mathlib.Core.Path.{◌≡◌, refl, sym, ap, ◌∙◌}
use mathlib.Core.Bool.{Bool, true, false, ◌&&◌, cond}
use mathlib.Core.List.{List, [], map}
use Prim.Native.Nat.{ℕ, suc, ◌≤◌}
use native.Mathlib.Omega.{arith}
use lib.ListN.{length, take, drop, length-set, length-append, length-take, length-drop}
use Rattle.lists.proofs.Laws.All.{All, All-append, All-take, All-drop, All-set}
use Rattle.lists.proofs.Laws.Bools.{and_right}
use Rattle.lists.proofs.Laws.Branches.{said}
use Rattle.rules.specs.Manager.{Manager, Writer, no_writer, manager_with, manager_in, writers_of, opens, view}
use Rattle.rules.specs.Close.{waiting_txn, committed_txns, dropped_txns, oldest_open, settled, committed_manager}
use Rattle.rules.specs.Close.{rolled_back_manager}
use Rattle.rules.specs.Calls.{close_answer}
use Rattle.rules.specs.Store.{with_manager_in}
use Rattle.rules.specs.WellFormed.{manager_ok}
use Rattle.rules.specs.declared.Answer.TheVariants.{Closed}
use Rattle.rules.specs.declared.Clock.{Clock}
use Rattle.rules.specs.declared.RwTxns.{RwTxns}
use Rattle.rules.specs.declared.Kept.{Kept}
use Rattle.rules.specs.declared.State.{State}
use Rattle.laws.proofs.Laws.Manager.{WriterFacts, manager-facts, opens-epoch}
use Rattle.laws.proofs.Laws.Close.{Unsettled, committed-unsettled, dropped-unsettled}
use Rattle.laws.proofs.Laws.Oldest.{oldest-settled}
use Rattle.laws.proofs.Laws.Views.{Fits}
use Rattle.txn.specs.Kept.{kept_of}
use Rattle.txn.specs.Records.{writers_with, table_with, viewed, Tidy}
use Rattle.txn.proofs.Laws.Records.{viewed_with, viewed-length, viewed-fit, tidy_with}
use Rattle.txn.proofs.Laws.Cut.{drop-one, change-one}
use Rattle.txn_find.specs.Find.{writer_at}
use Rattle.std.specs.Prelude.{Option, Some, None, position}
use Rattle.txn_find.proofs.Laws.Find.{writer-found, writer-stands, writer-none}
use Rattle.txn_find.proofs.Laws.Places.{Sized}
use Rattle.txn_close.specs.Close.{lead, run_lce, first_open, books_with, closed_txns, settled_by, ended_by, table_by}
use Rattle.txn_close.specs.Close.{lce_after, closed_manager}
use Rattle.txn_close.specs.declared.Ended.{Ended}
use Rattle.txn_close.specs.declared.close.Books.{Books}
use Rattle.txn_close.specs.declared.close.Settled.{Settled}
use Rattle.txn_close.proofs.Laws.Settle.{first-oldest, settled-runs, lce-after-bare}

-- ---- one transaction closed: the others keep their rows

closed-fit : (waits : Bool) (j i : ℕ) (ws : List Writer) → All Fits ws → All Fits (closed_txns waits j i ws)
closed-fit true j i ws a = All-set Fits ws j (waiting_txn i) a (omega arith)
closed-fit false j i ws a =
    All-append Fits (take j ws) (drop (suc j) ws) (All-take Fits j ws a) (All-drop Fits (suc j) ws a)

closed-few : (waits : Bool) (j i : ℕ) (ws : List Writer) → length (closed_txns waits j i ws) ≤ length ws
closed-few true j i ws = rw (length-set ws j (waiting_txn i)) (omega arith)
closed-few false j i ws = let t = length-take j ws in let d = length-drop (suc j) ws in
    rw (length-append (take j ws) (drop (suc j) ws)) (omega arith)

module _ {ts : RwTxns} {ds : List ℕ} (T : Tidy ts ds) (waits : Bool) (j i : ℕ) where
  pub closed-fits : All Fits (closed_txns waits j i (viewed ts ds))
  closed-fits = closed-fit waits j i (viewed ts ds) (viewed-fit T)

  pub closed-tidy : let ws = closed_txns waits j i (viewed ts ds) in Tidy (writers_with ws) (table_with ws)
  closed-tidy = let n = viewed-length T in let r = T.room in let f = closed-few waits j i (viewed ts ds) in
      tidy_with (closed_txns waits j i (viewed ts ds)) (omega arith) closed-fits

-- closed and ds are the books and the table once closed, q and es once settled
pub settled-are : (c : Clock) (ws : List Writer) → All Fits ws → (closed : Books) (q : Settled) (ds es : List ℕ)
    → closed ≡ books_with c ws → ds ≡ table_with ws
    → (let vs = viewed closed.writers ds in
    (q ≡ settled_by closed.clock vs) × (es ≡ table_with (drop (lead vs) vs)))
    → (q ≡ settled_by c ws) × (es ≡ table_with (drop (lead ws) ws))
settled-are c ws fits closed q ds es a b e =
    let v = (λ i. viewed (a i).writers (b i)) ∙ viewed_with ws fits in
    (e.0 ∙ (λ i. settled_by (a i).clock (v i)), e.1 ∙ (λ i. table_with (drop (lead (v i)) (v i))))

-- ---- the transactions of a manager, with the one found at place j closed, are settled as the rules say

module _ (m : Manager) (i : ℕ) {j : ℕ} (f : WriterFacts m.clock (writers_of m))
    (at : position (opens i) (writers_of m) ≡ Some j) where
  closed_is : (waits : Bool) → closed_txns waits j i (writers_of m)
      ≡ cond waits (committed_txns i (writers_of m)) (dropped_txns i (writers_of m))
  unfolding committed_txns dropped_txns
  closed_is true = sym (change-one (opens i) (λ (t : Writer). t.epoch) i (λ t o. opens-epoch i t o) m.clock.ec
      (waiting_txn i) m.clock.lce (writers_of m) j f.rising at)
  closed_is false = sym (drop-one (opens i) (λ (t : Writer). t.epoch) i (λ t o. opens-epoch i t o) m.clock.ec
      no_writer m.clock.lce (writers_of m) j f.rising at)

  closed-settled : (waits : Bool)
      → let ws = closed_txns waits j i (writers_of m) in let b = (settled_by m.clock ws).books in
      manager_with b.clock b.writers (table_with (drop (lead ws) ws)) m.readers ≡ closed_manager waits i m
  unfolding committed_manager rolled_back_manager committed_txns dropped_txns
  closed-settled true = let ws = writers_of m in
      rw (closed_is true) (sym (settled-runs m (committed_txns i ws) (committed-unsettled m.clock ws f i).rising))
  closed-settled false = let ws = writers_of m in
      rw (closed_is false) (sym (settled-runs m (dropped_txns i ws) (dropped-unsettled m.clock ws f i).rising))

  first-left : (ts : List Writer) → Unsettled m.clock ts → first_open ts ≡ oldest_open (writers_of (settled ts m))
  first-left ts u = first-oldest m.clock.lce m.clock.ec ts u.rising ∙ sym (oldest-settled m ts u.fits)

  closed-oldest : (waits : Bool)
      → first_open (closed_txns waits j i (writers_of m)) ≡ oldest_open (writers_of (closed_manager waits i m))
  unfolding committed_manager rolled_back_manager committed_txns dropped_txns
  closed-oldest true = let ws = writers_of m in
      rw (closed_is true) (first-left (committed_txns i ws) (committed-unsettled m.clock ws f i))
  closed-oldest false = let ws = writers_of m in
      rw (closed_is false) (first-left (dropped_txns i ws) (dropped-unsettled m.clock ws f i))

-- ---- closing a transaction on the records and their table is closing it on the books

abbrev ended_in : State → Ended → List ℕ → Kept
ended_in s e ds = record {
  state = with_manager_in (manager_with e.clock e.writers ds s.readers) s;
  answer = e.answer;
}

module _ (s : State) (z : Sized (manager_in s)) (rest : Bool) (yes : rest && manager_ok (manager_in s) ≡ true) (i : ℕ)
    (waits : Bool) where
  abbrev m : Manager
  m = manager_in s

  abbrev next : Manager
  next = closed_manager waits i m

  by-found : (r : Option ℕ) → r ≡ writer_at i s.writers
      → ended_in s (ended_by waits i s.clock s.writers (writers_of m) r) (table_by waits i (writers_of m) s.deps r)
      ≡ kept_of (close_answer i (rest && manager_ok m) m next) next s
  unfolding close_answer
  by-found (Some j) a = let ok = and_right rest (manager_ok m) yes in
      let f = (manager-facts m ok).writers in let at = said (writer-found m i a) refl in
      let left : Manager → ℕ → Kept = λ n k. record { state = with_manager_in n s; answer = Closed n.clock.lce k } in
      (λ k. left (closed-settled m i f at waits k) (closed-oldest m i f at waits k))
      ∙ rw (yes, (writer-stands m i z a refl).any)
  by-found None a = rw (yes, (writer-none m i a refl).any)

  pub ended_is : let r = writer_at i s.writers in
      ended_in s (ended_by waits i s.clock s.writers (writers_of m) r) (table_by waits i (writers_of m) s.deps r)
      ≡ kept_of (close_answer i (rest && manager_ok m) m next) next s
  ended_is = by-found (writer_at i s.writers) refl

-- ---- LCE by itself: over the records alone, it is that of the manager once closed and settled

module _ (i : ℕ) (m : Manager) (f : WriterFacts m.clock (writers_of m)) where
  settled-lce : (ts : List Writer) → Unsettled m.clock ts → run_lce m.clock.lce ts ≡ (settled ts m).clock.lce
  settled-lce ts u = sym (ap (λ (n : Manager). n.clock.lce) (settled-runs m ts u.rising))

  lce-closed : (waits : Bool)
      → lce_after waits i m.clock.lce (writers_of m) ≡ (closed_manager waits i m).clock.lce
  unfolding lce_after committed_manager rolled_back_manager
  lce-closed true = let ws = writers_of m in
      settled-lce (committed_txns i ws) (committed-unsettled m.clock ws f i)
  lce-closed false = let ws = writers_of m in
      settled-lce (dropped_txns i ws) (dropped-unsettled m.clock ws f i)

pub lce-after : (waits : Bool) (i : ℕ) (s : State) → manager_ok (manager_in s) ≡ true
    → lce_after waits i s.clock.lce (map (view []) (take s.writers.count s.writers.at))
    ≡ (closed_manager waits i (manager_in s)).clock.lce
lce-after waits i s ok = let m = manager_in s in
    lce-after-bare waits i s.clock.lce s.deps (take s.writers.count s.writers.at)
    ∙ lce-closed i m (manager-facts m ok).writers waits
