-- What append and clear write: one entry, and a batch of rows behind the partition's last. 01 "Lots", Append, Clear.
-- In order: words in range, why there is no room, nothing written, one entry placed, room, append, clear, a plan
-- carried out.
-- Laws: proofs/Laws/Append.antt (a plan carried out leaves rules' laid_in_place), proofs/Laws/Plan.antt.
-- Assumes nothing.
use Rattle.std.specs.Prelude.{Bool, true, false, not, ◌&&◌, ◌||◌, cond, List, ℕ, ◌+◌, ◌-◌, ◌*◌, get_or, set, ltb, leb}
use Rattle.std.specs.Prelude.{eqb, Result, Ok, Err}
use Rattle.rules.specs.Limits.{areas_max, rows_max, entries_max}
use Rattle.rules.specs.Store.{Store, partition_at, with_partitions_in}
use Rattle.rules.specs.declared.Entry.{Entry}
use Rattle.rules.specs.declared.Partition.{Partition}
use Rattle.lent.specs.Entries.{none}
use Rattle.partition.specs.Areas.{with_partition}
use Rattle.partition.specs.Rows.{put_rows}
use Rattle.rules.specs.declared.Refusal.{Refusal}
use Rattle.rules.specs.declared.Refusal.TheVariants.{RowsFull, EntriesFull}
use Rattle.partition.specs.declared.Full.{Full}
use Rattle.partition.specs.declared.Plan.{Plan}

-- an area of the nine, at most 512 rows and 64 entries
unfoldable pub in_range : Partition → Bool
in_range q = ltb q.area areas_max && leb q.rows rows_max && leb q.entries entries_max

abbrev pub full_if : Bool → Bool → Full
full_if rows entries = record { rows = rows; entries = entries }

-- 8 before 9
abbrev pub refusal_of : Full → Refusal
refusal_of full = cond full.rows RowsFull EntriesFull

-- nothing is written: index and row stand past the last
abbrev pub stays : Partition → Plan
stays q = record {
  index = entries_max * areas_max;
  entry = none;
  row = rows_max * areas_max;
  rows = q.rows;
  entries = q.entries;
}

-- the entry behind the first n, and the batch at `row`
abbrev pub placed : ℕ → Partition → ℕ → Entry → Plan
placed n q row e = record {
  index = entries_max * q.area + n;
  entry = e;
  row = row;
  rows = e.end;
  entries = n + 1;
}

-- the plan, but where there is no room for the rows or for an entry
abbrev pub where_room : Bool → Bool → Plan → Result Plan Full
where_room rows entries plan = cond (rows || entries) (Err (full_if rows entries)) (Ok plan)

-- ---- append

-- the end of a rows entry of the same transaction moves
abbrev pub grows : ℕ → Entry → Bool
grows i e = not (eqb e.mark 1) && eqb e.epoch i

-- the last entry of partition q, where it has one
abbrev pub last_of : List Entry → Partition → Entry
last_of entries q = get_or entries (entries_max * q.area + (q.entries - 1)) none

-- how many of the partition's entries stay as they are: all, or all but a last one that grows
abbrev pub kept_in : Entry → Partition → ℕ → ℕ
kept_in last q i = cond (ltb 0 q.entries && grows i last) (q.entries - 1) q.entries

-- k rows behind the last, with an entry behind the first n
unfoldable pub append_at : ℕ → Partition → ℕ → ℕ → Result Plan Full
append_at n q i k = where_room (ltb (rows_max - q.rows) k) (leb entries_max n)
    (placed n q (rows_max * q.area + q.rows) (record { epoch = i; end = q.rows + k; mark = 0 }))

-- words out of range are taken for a full partition; a batch of no rows adds nothing
unfoldable pub append_plan : Entry → Partition → ℕ → ℕ → Result Plan Full
append_plan last q i k =
    cond (not (in_range q)) (Err (full_if true true))
    (cond (eqb k 0) (Ok (stays q)) (append_at (kept_in last q i) q i k))

-- ---- clear: always one entry, its end the row count

unfoldable pub clear_plan : Partition → ℕ → Result Plan Full
clear_plan q i =
    cond (not (in_range q)) (Err (full_if true true))
    (where_room false (leb entries_max q.entries)
    (placed q.entries q (rows_max * areas_max) (record { epoch = i; end = q.rows; mark = 1 })))

-- ---- the store once a plan is carried out: the entry put, the batch copied, the partition's counts set

unfoldable pub written_by : ℕ → Plan → List ℕ → Store → Store
written_by p plan batch st = record {
  state = with_partitions_in (with_partition p
      (record { area = (partition_at p st).area; rows = plan.rows; entries = plan.entries }) st.state.partitions)
      st.state;
  rows = put_rows plan.row batch st.rows;
  entries = set st.entries plan.index plan.entry;
}
