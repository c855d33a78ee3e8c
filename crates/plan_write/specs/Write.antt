-- What append and clear decide by value. 01 "Lots", Append, Clear.
-- In order: a plan, append, clear, the entries written. Laws: store/proofs/Laws/Write.antt.
-- Assumes nothing.
use Rattle.std.specs.Prelude.{Bool, ◌&&◌, cond, List, ℕ, set, eqb, Result, Ok, Err}
use Rattle.rules.specs.Manager.{has_open, manager_in}
use Rattle.rules.specs.WellFormed.{manager_ok}
use Rattle.rules.specs.declared.Refusal.{Refusal}
use Rattle.rules.specs.declared.Refusal.TheVariants.{NotOpen, EntriesFull}
use Rattle.rules.specs.declared.Entry.{Entry}
use Rattle.rules.specs.declared.Partition.{Partition}
use Rattle.rules.specs.declared.State.{State}
use Rattle.lent.specs.Entries.{moved_end}
use Rattle.partition.specs.Append.{refusal_of, append_plan, clear_plan}
use Rattle.partition.specs.declared.Full.{Full}
use Rattle.partition.specs.declared.Plan.{Plan}
use Rattle.admit.specs.Admit.{admitted, by_admission}
use Rattle.plan_write.specs.declared.Change.{Change}
use Rattle.plan_write.specs.declared.Change.TheVariants.{Put, Grow}
use Rattle.plan_write.specs.declared.Write.{Write}

-- the plan for partition p, which is q: where the count of entries stays, the last one's end moves
abbrev pub planned_write : ℕ → Partition → Plan → Write
planned_write p q plan = record {
  place = p;
  partition = record { area = q.area; rows = plan.rows; entries = plan.entries };
  change = cond (eqb plan.entries q.entries) (Grow plan.index plan.entry.end) (Put plan.index plan.entry);
  row = plan.row;
}

-- the write of a plan, or why there is none
abbrev pub planned_by : (Full → Refusal) → ℕ → Partition → Result Plan Full → Result Write Refusal
planned_by why p q (Ok plan) = Ok (planned_write p q plan)
planned_by why p q (Err full) = Err (why full)

-- partition p, which is q with the last entry given: 8, 9
abbrev pub append_at : Entry → ℕ → ℕ → ℕ → Partition → Result Write Refusal
append_at last k i p q = planned_by refusal_of p q (append_plan last q i k)

-- 01's order: 5, 1, 2, 8, 9
unfoldable pub append_write : State → Bool → Entry → ℕ → ℕ → ℕ → Result Write Refusal
append_write s rest last k i p =
    by_admission Err (λ q. cond (has_open i (manager_in s)) (append_at last k i p q) (Err NotOpen))
    (admitted (rest && manager_ok (manager_in s)) s.partitions p)

-- partition p, which is q: 9, whatever else there is no room for
abbrev pub clear_at : ℕ → ℕ → Partition → Result Write Refusal
clear_at i p q = planned_by (λ full. EntriesFull) p q (clear_plan q i)

-- 01's order: 5, 1, 2, 9
unfoldable pub clear_write : State → Bool → ℕ → ℕ → Result Write Refusal
clear_write s rest i p =
    by_admission Err (λ q. cond (has_open i (manager_in s)) (clear_at i p q) (Err NotOpen))
    (admitted (rest && manager_ok (manager_in s)) s.partitions p)

-- ---- the entries that are written
abbrev pub changed : List Entry → Change → List Entry
changed es (Put at e) = set es at e
changed es (Grow at end) = moved_end es at end

abbrev pub entries_written : List Entry → Write → List Entry
entries_written es w = changed es w.change
