-- Roll back over the lent areas, partition by partition, as the code does it. 01 "Lots", Roll back; rules'
-- rolled_back_below.
-- In order: what is to be written of one partition, one partition, the partitions below k, all.
-- Laws: proofs/Laws/Lots.antt (on a sound store it is rules'; where it is not to be, nothing changes).
-- Assumes nothing.
use Rattle.std.specs.Prelude.{Bool, ◌&&◌, cond, List, ℕ, zero, suc, Option, None, Some}
use Rattle.rules.specs.Limits.{partitions_max}
use Rattle.rules.specs.Rewrite.{has_epoch}
use Rattle.rules.specs.declared.Entry.{Entry}
use Rattle.rules.specs.declared.Partitions.{Partitions}
use Rattle.area.specs.Load.{partition_in, loaded_area}
use Rattle.area.specs.declared.Area.{Area}
use Rattle.partition.specs.Areas.{moved_to}
use Rattle.rewrite_plan.specs.Plan.{spans_in, plan_of, roll_epochs}
use Rattle.rewrite.specs.Kept.{rewritten_of}
use Rattle.rewrite.specs.Move.{move_to_spare, entries_moved, rows_moved}
use Rattle.undo.specs.declared.Lot.{Lot}

-- ---- one partition, decided

-- what is kept goes to the spare area, and the old area is the spare
abbrev pub moved_lot : Area → Partitions → ℕ → ℕ → Lot
moved_lot a ps p i =
    let plan = plan_of (roll_epochs i (spans_in a)) in
    let done = rewritten_of a plan in
    record {
      moved = move_to_spare a plan done.area (partition_in ps p).area ps.spare;
      partitions = moved_to p done.rows done.area.count ps;
    }

-- nothing where it has no entry of the transaction
unfoldable pub lot_of : Bool → Area → Partitions → ℕ → ℕ → Option Lot
lot_of go a ps p i = cond (go && has_epoch i (spans_in a)) (Some (moved_lot a ps p i)) None

-- ---- and written

-- the lent areas and the places, as far as the roll back has come
pub record Rolling : Type 0 where
  pub entries : List Entry
  pub rows : List ℕ
  pub places : Partitions

abbrev pub rolling_of : List Entry → List ℕ → Partitions → Rolling
rolling_of es rs ps = record { entries = es; rows = rs; places = ps }

abbrev pub lot_written : Option Lot → Rolling → Rolling
lot_written None s = s
lot_written (Some w) s = record {
  entries = entries_moved w.moved s.entries;
  rows = rows_moved w.moved s.rows;
  places = w.partitions;
}

-- partition p
unfoldable pub rolling_at : Bool → ℕ → ℕ → Rolling → Rolling
rolling_at go i p s = lot_written (lot_of go (loaded_area s.entries s.places p) s.places p i) s

-- the partitions below k
unfoldable pub rolling_below : Bool → ℕ → ℕ → Rolling → Rolling
rolling_below go i zero s = s
rolling_below go i (suc k) s = rolling_at go i k (rolling_below go i k s)

-- all partitions
abbrev pub rolled_lots : Bool → ℕ → Rolling → Rolling
rolled_lots go i s = rolling_below go i partitions_max s
