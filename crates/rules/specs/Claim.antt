-- Demand 3 as one statement: after every list of calls, what a scan shows is what the ledger shows.
-- 01 "The ledger of demand 3", first and last paragraphs; 02 (v). In order: event_of, history, words_at_ones,
-- words_scanned, Agrees, Start, HistoryShows. What it comes to for readers: Promises.antt.
-- Assumes nothing.
use Rattle.std.specs.Prelude.{◌≡◌, ◌↔◌, Bool, true, cond, List, [], ◌∷◌, ℕ, suc, ◌/◌, ◌%◌, ◌^◌, ◌≤◌, ◌<◌, length}
use Rattle.std.specs.Prelude.{take, get_or, eqb}
use Rattle.rules.specs.Limits.{partitions_max}
use Rattle.rules.specs.Answers.{Reply, reply_of, first_value, second_value, accepted}
use Rattle.rules.specs.Bitmap.{bytes_for}
use Rattle.rules.specs.Checkpoint.{saved_in}
use Rattle.rules.specs.Store.{Store, partition_at}
use Rattle.rules.specs.Step.{Call, create, manage, append, clear, rollback, scan, purge, save, recover}
use Rattle.rules.specs.Step.{area_rows, step, run}
use Rattle.rules.specs.Ledger.{Ledger, Event, new_at, began, added, deleted, committed, aborted}
use Rattle.rules.specs.Ledger.{opened, closed, recovered, other, heard, new_ledger, recovered_ledger}
use Rattle.rules.specs.Ledger.{has_open_rw, has_open_ro}
use Rattle.rules.specs.Ledger.{writer_shows, reader_shows}
use Rattle.rules.specs.declared.ManagerCall.TheVariants.{Begin, Commit, BeginRo, EndRo, AdvanceLse}
use Rattle.rules.specs.declared.Reader.{Reader}
use Rattle.rules.specs.declared.Reader.TheVariants.{Rw, Ro}

-- what the ledger is told of a call and its reply
unfoldable pub event_of : Call → Reply → Event
event_of (create s) r = new_at r.number s
event_of (manage Begin) r = began r.number (first_value r)
event_of (append i p batch) r = added r.number i p batch
event_of (clear i p) r = deleted r.number i p
event_of (manage (Commit i)) r = committed r.number i
event_of (rollback i) r = aborted r.number i
event_of (manage (BeginRo e)) r = opened r.number e (first_value r)
event_of (manage (EndRo t)) r = closed r.number t
event_of (scan v p lent) r = other
event_of (manage (AdvanceLse t)) r = other
event_of (purge p) r = other
event_of (save e lent) r = other
event_of (recover file) r = recovered r.number file

-- what the history of a list of calls tells it
unfoldable pub history : List Call → Store → List Event
history [] st = []
history (c ∷ cs) st = event_of c (reply_of (step c st).answer) ∷ history cs (step c st).store

unfoldable pub ledger_of : List Event → Ledger → Ledger
ledger_of [] g = g
ledger_of (e ∷ es) g = ledger_of es (heard e g)

-- bit n of a bitmap, row 0 lowest in byte 0
abbrev pub bit_at : List ℕ → ℕ → Bool
bit_at bytes n = eqb (get_or bytes (n / 8) 0 / 2 ^ (n % 8) % 2) 1

-- the words at the ones of a bitmap, lowest first; the first word is row n
unfoldable pub words_at_ones : List ℕ → ℕ → List ℕ → List ℕ
words_at_ones bytes n [] = []
words_at_ones bytes n (w ∷ ws) =
    let rest = words_at_ones bytes (suc n) ws in cond (bit_at bytes n) (w ∷ rest) rest

abbrev pub is_open_in : Reader → Ledger → Bool
is_open_in (Rw i) g = has_open_rw i g
is_open_in (Ro t) g = has_open_ro t g

abbrev pub shown_by : Reader → ℕ → Ledger → List ℕ
shown_by (Rw i) p g = writer_shows i p g
shown_by (Ro t) p g = reader_shows t p g

-- the words of partition p's area, as many as the scan counted rows, at the ones that it wrote
abbrev pub words_scanned : Reader → ℕ → List ℕ → Store → List ℕ
words_scanned r p lent st =
    let out = step (scan r p lent) st in
    words_at_ones out.bytes 0 (take (first_value (reply_of out.answer)) (area_rows (partition_at p st).area st))

-- a scan by r of partition p, lent these bytes, beside the ledger: accepted exactly for an open reader, and
-- then with as many ones as the ledger shows rows, and the words at the ones those that the ledger shows
pub record Agrees (st : Store) (g : Ledger) (r : Reader) (p : ℕ) (lent : List ℕ) : Type 0 where
  pub admits : (reply_of (step (scan r p lent) st).answer).number ≡ 0 ↔ is_open_in r g ≡ true
  pub counts : is_open_in r g ≡ true → second_value (reply_of (step (scan r p lent) st).answer)
      ≡ length (shown_by r p g)
  pub shows : is_open_in r g ≡ true → words_scanned r p lent st ≡ shown_by r p g

-- what starts a list of calls: making new at an epoch, or recovery of a file (02 (v))
pub data Start : Type 0 where
  at_epoch : ℕ → Start
  of_file : List ℕ → Start

abbrev pub first_call : Start → Call
first_call (at_epoch s) = create s
first_call (of_file file) = recover file

-- the ledger once it is accepted, whatever it was before
abbrev pub first_ledger : Start → Ledger
first_ledger (at_epoch s) = new_ledger s
first_ledger (of_file file) = recovered_ledger (saved_in file)

-- Demand 3. From any store, unsound ones included, on which the first call is accepted; for every list of calls that
-- follow; for every partition, every reader and every lent bitmap of the bytes that the rows need, whatever it held.
abbrev pub HistoryShows : Type 0
HistoryShows =
    (st : Store) (s : Start) → accepted (step (first_call s) st).answer ≡ true
    → (calls : List Call) (r : Reader) (p : ℕ) (lent : List ℕ) → p < partitions_max
    → let start = (step (first_call s) st).store in
    let end = run calls start in
    bytes_for (partition_at p end).rows ≤ length lent
    → Agrees end (ledger_of (history calls start) (first_ledger s)) r p lent
