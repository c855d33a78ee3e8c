-- Recovery decided by value. 02 (v).
-- In order: what a header gives, recovery; what is written: entries, rows, books. Laws:
-- proofs/Laws/Restore.antt.
-- Assumes nothing.
use Rattle.std.specs.Prelude.{cond, List, map, Result, Ok, Err, ℕ, zero, suc, ◌+◌, ◌*◌, ◌≤◌, get_or, set, take, eqb}
use Rattle.rules.specs.Limits.{last_epoch, partitions_max, rows_max, entries_max}
use Rattle.rules.specs.Checkpoint.{body_size}
use Rattle.rules.specs.Store.{partition_numbers, state_of}
use Rattle.rules.specs.Begin.{created_manager}
use Rattle.rules.specs.declared.Refusal.{Refusal}
use Rattle.rules.specs.declared.Refusal.TheVariants.{Unsound}
use Rattle.rules.specs.declared.Entry.{Entry}
use Rattle.rules.specs.declared.Partition.{Partition}
use Rattle.rules.specs.declared.Partitions.{Partitions}
use Rattle.rules.specs.declared.State.{State}
use Rattle.partition_sound.specs.Asked.{lengths_are}
use Rattle.checkpoint.specs.Header.{header_in, end_of}
use Rattle.checkpoint.specs.Rows.{rows_read, weight_read}
use Rattle.checkpoint.specs.declared.Header.{Header}
use Rattle.recovery.specs.declared.Restored.{Restored}

-- ---- what a header gives

-- its numbers may be counted on from
pub record Fits (h : Header) : Type 0 where
  pub epoch-fits : h.epoch ≤ last_epoch
  pub end_fits : end_of h ≤ 9223372036854775807

-- the bodies lie one behind the other: where that of partition p begins
abbrev pub body_of : Header → ℕ → ℕ
body_of h p = h.body + body_size (take p h.counts)

abbrev pub bodies_for : Header → List ℕ
bodies_for h = map (body_of h) partition_numbers

-- what the rows weigh
abbrev pub weights_for : List ℕ → List ℕ → List ℕ → List ℕ
weights_for file counts bodies = map (λ p. weight_read (get_or bodies p 0) (get_or counts p 0) file) partition_numbers

abbrev pub restored_from : List ℕ → Header → Restored
restored_from file h = record {
  epoch = h.epoch;
  next = h.epoch + 1;
  counts = h.counts;
  bodies = bodies_for h;
  totals = weights_for file h.counts (bodies_for h);
}

abbrev pub restored_in : List ℕ → Result Header Refusal → Result Restored Refusal
restored_in file (Ok h) = Ok (restored_from file h)
restored_in file (Err why) = Err why

-- n entries and m rows are lent; 02's order: 5, 11
unfoldable pub restored_by : List ℕ → ℕ → ℕ → Result Restored Refusal
restored_by file n m = cond (lengths_are n m) (restored_in file (header_in last_epoch file)) (Err Unsound)

-- ---- the entries, of the partitions below n: one for each that has rows, the first of its area

abbrev pub entry_of : Restored → ℕ → Entry
entry_of w p = record { epoch = w.epoch; end = get_or w.counts p 0; mark = 0 }

abbrev pub entry_put : Restored → ℕ → List Entry → List Entry
entry_put w p es = cond (eqb (get_or w.counts p 0) 0) es (set es (entries_max * p) (entry_of w p))

unfoldable pub entries_restored : Restored → ℕ → List Entry → List Entry
entries_restored w zero es = es
entries_restored w (suc n) es = entry_put w n (entries_restored w n es)

-- ---- the rows, of the partitions below n

unfoldable pub rows_restored : List ℕ → Restored → ℕ → List ℕ → List ℕ
rows_restored file w zero rows = rows
rows_restored file w (suc n) rows =
    rows_read (rows_max * n) (get_or w.bodies n 0) (get_or w.counts n 0) file (rows_restored file w n rows)

-- ---- the books: partition p in area p, with one entry where it has rows

abbrev pub entries_for : ℕ → ℕ
entries_for rows = cond (eqb rows 0) 0 1

abbrev pub partition_for : List ℕ → ℕ → Partition
partition_for counts p = let n = get_or counts p 0 in record { area = p; rows = n; entries = entries_for n }

abbrev pub partitions_for : List ℕ → Partitions
partitions_for counts = record { at = map (partition_for counts) partition_numbers; spare = partitions_max }

-- made new at `next`
abbrev pub books_restored : Restored → State
books_restored w = state_of (created_manager w.next) (partitions_for w.counts) w.totals
