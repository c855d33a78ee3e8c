-- The whole store: the books and the lent areas; a partition's spans, and spans laid into an area. 01 "Lots".
-- In order: Store, reading a partition, setters, laid, append and clear in place, the totals, create, roll back and
-- purge into the spare area.
-- Laws: laws/proofs/Laws/Store.antt.
-- Assumes nothing.
use Rattle.std.specs.Prelude.{cond, List, [], ◌∷◌, map, ℕ, zero, suc, ◌*◌, length, get_or, set, replicate}
use Rattle.lists.specs.Lists.{part, over}
use Rattle.rules.specs.Limits.{partitions_max, rows_max, entries_max}
use Rattle.rules.specs.Begin.{created_manager}
use Rattle.rules.specs.Span.{Span, spans, entries_of, words_of}
use Rattle.rules.specs.Weight.{total}
use Rattle.rules.specs.Rewrite.{has_epoch, rolled_back, purged, skips}
use Rattle.rules.specs.declared.Entry.{Entry}
use Rattle.rules.specs.Manager.{Manager, manager_in}
use Rattle.rules.specs.declared.Partition.{Partition}
use Rattle.rules.specs.declared.Partitions.{Partitions}
use Rattle.rules.specs.declared.State.{State}

pub record Store : Type 0 where
  pub state : State
  pub rows : List ℕ
  pub entries : List Entry

abbrev pub manager_of : Store → Manager
manager_of st = manager_in st.state

-- ---- a partition (01: lot) as it lies in its area

abbrev pub no_partition : Partition
no_partition = record { area = 0; rows = 0; entries = 0 }

abbrev pub partition_at : ℕ → Store → Partition
partition_at p st = get_or st.state.partitions.at p no_partition

abbrev pub entries_at : ℕ → Store → List Entry
entries_at p st = part (entries_max * (partition_at p st).area) (partition_at p st).entries st.entries

abbrev pub rows_at : ℕ → Store → List ℕ
rows_at p st = part (rows_max * (partition_at p st).area) (partition_at p st).rows st.rows

unfoldable pub spans_at : ℕ → Store → List Span
spans_at p st = spans 0 (entries_at p st) (rows_at p st)

-- its total: what a page at LCE is shown of it, in milligrams (02 (iii))
unfoldable pub total_at : ℕ → Store → ℕ
total_at p st = total (manager_of st).clock.lce (spans_at p st)

-- ---- setters: the only place that writes all fields of a State

abbrev pub state_of : Manager → Partitions → List ℕ → State
state_of m ps ts = record {
  clock = m.clock;
  writers = m.writers;
  deps = m.deps;
  readers = m.readers;
  partitions = ps;
  totals = ts;
}

abbrev pub with_manager_in : Manager → State → State
with_manager_in m s = state_of m s.partitions s.totals

abbrev pub with_partitions_in : Partitions → State → State
with_partitions_in ps s = state_of (manager_in s) ps s.totals

abbrev pub with_totals_in : List ℕ → State → State
with_totals_in ts s = state_of (manager_in s) s.partitions ts

abbrev pub with_manager : Manager → Store → Store
with_manager m st = record { state = with_manager_in m st.state; rows = st.rows; entries = st.entries }

abbrev pub with_totals : List ℕ → Store → Store
with_totals ts st = record { state = with_totals_in ts st.state; rows = st.rows; entries = st.entries }

-- partition p has these spans, in area a, and s is the spare area; words beyond those written stay
unfoldable pub laid : ℕ → ℕ → ℕ → List Span → Store → Store
laid p a s ss st = record {
  state = with_partitions_in (record {
    at = set st.state.partitions.at p (record { area = a; rows = length (words_of ss); entries = length ss });
    spare = s;
  }) st.state;
  rows = over (rows_max * a) (words_of ss) st.rows;
  entries = over (entries_max * a) (entries_of 0 ss) st.entries;
}

-- append and clear write where the partition lies
unfoldable pub laid_in_place : ℕ → List Span → Store → Store
laid_in_place p ss st = laid p (partition_at p st).area st.state.partitions.spare ss st

-- a rewrite writes to the spare area, and the old area becomes the spare
unfoldable pub laid_in_spare : ℕ → List Span → Store → Store
laid_in_spare p ss st = laid p st.state.partitions.spare (partition_at p st).area ss st

-- ---- the totals brought up to date: worked out afresh

abbrev pub partition_numbers : List ℕ
partition_numbers = 0 ∷ 1 ∷ 2 ∷ 3 ∷ 4 ∷ 5 ∷ 6 ∷ 7 ∷ []

unfoldable pub totals_of : Store → List ℕ
totals_of st = map (λ p. total_at p st) partition_numbers

abbrev pub refreshed : Store → Store
refreshed st = with_totals (totals_of st) st

-- ---- making new: partition p starts empty in area p, area 8 is spare, all totals are 0; no row or entry word is
-- written

abbrev pub fresh_partitions : Partitions
fresh_partitions = record {
  at = map (λ a. record { area = a; rows = 0; entries = 0 }) partition_numbers;
  spare = 8;
}

abbrev pub created_state : ℕ → State
created_state s = state_of (created_manager s) fresh_partitions (replicate partitions_max 0)

unfoldable pub created_store : ℕ → Store → Store
created_store s st = record { state = created_state s; rows = st.rows; entries = st.entries }

-- ---- roll back: only the partitions with an entry of the transaction, in rising order

unfoldable pub rolled_back_at : ℕ → ℕ → Store → Store
rolled_back_at i p st = cond (has_epoch i (spans_at p st)) (laid_in_spare p (rolled_back i (spans_at p st)) st) st

-- the partitions below n
unfoldable pub rolled_back_below : ℕ → ℕ → Store → Store
rolled_back_below i zero st = st
rolled_back_below i (suc n) st = rolled_back_at i n (rolled_back_below i n st)

-- ---- purge of a partition at LSE

unfoldable pub purged_store : ℕ → Store → Store
purged_store p st =
    cond (skips (manager_of st).clock.lse (spans_at p st)) st
    (laid_in_spare p (purged (manager_of st).clock.lse (spans_at p st)) st)
