-- The part of 01's *sound* that is about lots, over the clock and the epochs of the records, and in one pass.
-- In order: the records' epochs as a list; an epoch, an entry, a partition; one pass over the entries; all
-- partitions.
-- Laws: proofs/Laws/Sound.antt (partition_ok_by is rules' partition_ok, and one pass finds it).
-- Assumes nothing.
use Rattle.std.specs.Prelude.{Bool, not, ◌&&◌, ◌||◌, List, [], ◌∷◌, map, ℕ, ◌*◌, length, take, ltb, leb, eqb}
use Rattle.lists.specs.Lists.{all_of, elem, pad, part}
use Rattle.rules.specs.Limits.{writers_max, rows_max, entries_max}
use Rattle.rules.specs.WellFormed.{areas_ok, ends_ok, alike, apart, partition_ok}
use Rattle.rules.specs.declared.Clock.{Clock}
use Rattle.rules.specs.declared.Entry.{Entry}
use Rattle.rules.specs.Manager.{Manager}
use Rattle.rules.specs.declared.Partition.{Partition}
use Rattle.rules.specs.declared.Partitions.{Partitions}
use Rattle.rules.specs.declared.RwTxns.{RwTxns}
use Rattle.partition_sound.specs.declared.Epochs.{Epochs}

-- ---- the records' epochs

-- of the records in use
abbrev pub epochs_of : RwTxns → List ℕ
epochs_of ts = map (λ t. t.epoch) (take ts.count ts.at)

-- in places, unused places 0
abbrev pub epochs_with : List ℕ → Epochs
epochs_with js = record { at = pad writers_max 0 js; count = length js }

-- ---- the tests of rules' WellFormed: c is the manager's clock, js are the epochs of its records

unfoldable pub epoch_ok_by : Clock → List ℕ → ℕ → Bool
epoch_ok_by c js j = leb 1 j && ltb j c.ec && (leb j c.lce || elem j js)

abbrev pub entry_ok_by : Clock → List ℕ → Entry → Bool
entry_ok_by c js e = leb e.mark 1 && epoch_ok_by c js e.epoch

unfoldable pub partition_ok_by : Clock → List ℕ → List Entry → Partition → Bool
partition_ok_by c js entries q =
    let es = part (entries_max * q.area) q.entries entries in
    leb q.rows rows_max && leb q.entries entries_max
    && ends_ok q.rows 0 es && all_of (entry_ok_by c js) es && apart es

-- ---- one pass over the entries

-- entry e may stand after entry d
unfoldable pub follows : Clock → List ℕ → Entry → Entry → Bool
follows c js d e =
    entry_ok_by c js e && leb d.end e.end && (eqb e.mark 1 || ltb d.end e.end) && not (alike d e)

-- what stands before the first entry: a delete that ends at row 0, so that nothing is alike
abbrev pub before_first : Entry
before_first = record { epoch = 0; end = 0; mark = 1 }

-- each of es may stand after the one before it, the first after d, and the last end is the row count
unfoldable pub chained : Clock → List ℕ → ℕ → Entry → List Entry → Bool
chained c js rows d [] = eqb d.end rows
chained c js rows d (e ∷ es) = follows c js d e && chained c js rows e es

-- ---- the lots' part of well_formed

unfoldable pub partitions_ok : Manager → List Entry → Partitions → Bool
partitions_ok m entries ps = areas_ok ps && all_of (partition_ok m entries) ps.at
