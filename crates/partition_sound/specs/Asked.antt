-- What the test of the lots asks of the books, and that test over the lent entries. 01 "Refusals that come from the
-- state", *sound*.
-- In order: numbers between two others, LCE raised, what is asked, with what lands and without, the lengths, the
-- totals, the test.
-- Laws: proofs/Laws/Asked.antt (of what is asked of a manager it is rest_ok, and that is rules').
-- Assumes nothing.
use Rattle.std.specs.Prelude.{Bool, ◌&&◌, cond, List, [], ◌∷◌, ℕ, suc, ◌*◌, length, take, get_or, eqb}
use Rattle.lists.specs.Lists.{all_of, pad, part}
use Rattle.rules.specs.Manager.{manager_in}
use Rattle.rules.specs.Limits.{writers_max, rows_max, entries_max, areas_max}
use Rattle.rules.specs.Span.{Span, spans}
use Rattle.rules.specs.Weight.{total}
use Rattle.rules.specs.Store.{partition_numbers}
use Rattle.rules.specs.WellFormed.{areas_ok}
use Rattle.rules.specs.declared.Clock.{Clock}
use Rattle.rules.specs.declared.Entry.{Entry}
use Rattle.rules.specs.declared.Partition.{Partition}
use Rattle.rules.specs.declared.Partitions.{Partitions}
use Rattle.rules.specs.declared.RwTxns.{RwTxns}
use Rattle.rules.specs.declared.State.{State}
use Rattle.area.specs.Load.{partition_in}
use Rattle.partition_sound.specs.Sound.{epochs_of, partition_ok_by, partitions_ok}
use Rattle.partition_sound.specs.declared.Asked.{Asked}

-- xs are the numbers between lo and hi
unfoldable pub fills : ℕ → ℕ → List ℕ → Bool
fills lo hi [] = eqb (suc lo) hi
fills lo hi (x ∷ xs) = eqb (suc lo) x && fills x hi xs

-- where each epoch between LCE and EC has a record, no epoch need be looked up
unfoldable pub raised : Clock → List ℕ → Clock
raised c js = cond (fills c.lce c.ec js) (record { ec = c.ec; lce = c.ec; lse = c.lse }) c

-- where the epochs above LCE up to high land, but for one that is gone
abbrev pub asked_for : Clock → RwTxns → Partitions → List ℕ → ℕ → ℕ → Asked
asked_for c ts ps totals high gone = record {
  clock = raised c (epochs_of ts);
  lce = c.lce;
  epochs = pad writers_max 0 (epochs_of ts);
  count = length (epochs_of ts);
  partitions = ps;
  totals = totals;
  lands = record { over = c.lce; high = high; gone = gone };
}

-- where nothing lands
abbrev pub asked_of : Clock → RwTxns → Partitions → List ℕ → Asked
asked_of c ts ps totals = asked_for c ts ps totals c.lce 0

-- m rows and n entries are lent
unfoldable pub lengths_are : ℕ → ℕ → Bool
lengths_are n m = eqb m (rows_max * areas_max) && eqb n (entries_max * areas_max)

-- the spans of a partition among the entries and rows that are lent
unfoldable pub spans_of : List Entry → List ℕ → Partition → List Span
spans_of es rows q =
    spans 0 (part (entries_max * q.area) q.entries es) (part (rows_max * q.area) q.rows rows)

-- the totals are those worked out afresh at an epoch
unfoldable pub totals_are : List ℕ → ℕ → List Entry → List ℕ → Partitions → Bool
totals_are ts e es rows ps =
    all_of (λ p. eqb (get_or ts p 0) (total e (spans_of es rows (partition_in ps p)))) partition_numbers

-- *sound* but for the manager: es are the entries, beside rows
unfoldable pub rest_ok : State → List Entry → List ℕ → Bool
rest_ok s es rows =
    lengths_are (length es) (length rows) && partitions_ok (manager_in s) es s.partitions
    && totals_are s.totals s.clock.lce es rows s.partitions

-- the same from what is asked
unfoldable pub rest_asked : List Entry → List ℕ → Asked → Bool
rest_asked es rows a =
    lengths_are (length es) (length rows) && areas_ok a.partitions
    && all_of (partition_ok_by a.clock (take a.count a.epochs) es) a.partitions.at
    && totals_are a.totals a.lce es rows a.partitions
