-- Roll back of one partition: entries, places and rows. 01 "Lots", Roll back; rules' rolled_back_at.
-- In order: a partition's area and what is kept of it, its entries and its place, its rows.
-- Laws: proofs/Laws/Rolled.antt.
-- Assumes nothing.
use Rattle.std.specs.Prelude.{Bool, cond, List, ℕ, get_or}
use Rattle.lists.specs.Lists.{over}
use Rattle.rules.specs.Limits.{rows_max, entries_max}
use Rattle.rules.specs.Rewrite.{has_epoch}
use Rattle.rules.specs.Store.{no_partition}
use Rattle.rules.specs.declared.Partition.{Partition}
use Rattle.rules.specs.declared.Partitions.{Partitions}
use Rattle.rules.specs.declared.Entry.{Entry}
use Rattle.area.specs.Area.{entries_in, base_of, area_at}
use Rattle.rewrite_plan.specs.Plan.{spans_in, plan_of, roll_epochs}
use Rattle.rewrite.specs.Kept.{rewritten_of}
use Rattle.rewrite.specs.Copied.{rows_copied}
use Rattle.area.specs.declared.Area.{Area}
use Rattle.rewrite_plan.specs.declared.Plan.{Plan}
use Rattle.rewrite.specs.declared.Rewritten.{Rewritten}
use Rattle.partition.specs.Areas.{moved_to}

-- the entries of all areas, and the places of all partitions
pub record Rolled : Type 0 where
  pub entries : List Entry
  pub partitions : Partitions

abbrev pub rolled_of : List Entry → Partitions → Rolled
rolled_of es ps = record { entries = es; partitions = ps }

-- ---- partition p, before it is rolled back

abbrev pub place_in : ℕ → Rolled → Partition
place_in p w = get_or w.partitions.at p no_partition

abbrev pub area_in : ℕ → Rolled → Area
area_in p w = area_at w.entries (place_in p w)

abbrev pub plan_in : ℕ → ℕ → Rolled → Plan
plan_in i p w = plan_of (roll_epochs i (spans_in (area_in p w)))

abbrev pub kept_in : ℕ → ℕ → Rolled → Rewritten
kept_in i p w = rewritten_of (area_in p w) (plan_in i p w)

abbrev pub concerns : ℕ → ℕ → Rolled → Bool
concerns i p w = has_epoch i (spans_in (area_in p w))

-- ---- entries and places

-- what is kept goes to the spare area, and the old area is the spare
unfoldable pub rewritten_at : ℕ → ℕ → Rolled → Rolled
rewritten_at i p w = record {
  entries = over (base_of entries_max w.partitions.spare) (entries_in (kept_in i p w).area) w.entries;
  partitions = moved_to p (kept_in i p w).rows (kept_in i p w).area.count w.partitions;
}

unfoldable pub rolled_at : ℕ → ℕ → Rolled → Rolled
rolled_at i p w = cond (concerns i p w) (rewritten_at i p w) w

-- ---- rows

unfoldable pub rows_rolled_at : ℕ → Area → ℕ → ℕ → List ℕ → List ℕ
rows_rolled_at i a area spare rows =
    cond (has_epoch i (spans_in a))
    (rows_copied a (plan_of (roll_epochs i (spans_in a))) (base_of rows_max area) (base_of rows_max spare) rows)
    rows
