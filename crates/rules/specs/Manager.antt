-- The transaction manager (01: the books without the lots) read as lists, and written back. 01 "The books".
-- In order: records, the manager, transactions in use, setters, an open transaction, a read-only one. The only file
-- that writes all fields of the manager and of its records out, and the only one that knows how the deps lie in their
-- table.
-- Assumes nothing.
use Rattle.std.specs.Prelude.{Bool, ◌&&◌, List, [], ◌∷◌, map, ℕ, length, take, drop, replicate, eqb}
use Rattle.lists.specs.Lists.{gather, keep_if, any_of, first_of, pad}
use Rattle.rules.specs.Limits.{writers_max, readers_max, deps_max, deps_all}
use Rattle.rules.specs.declared.Clock.{Clock}
use Rattle.rules.specs.declared.RwTxn.{RwTxn}
use Rattle.rules.specs.declared.RwTxns.{RwTxns}
use Rattle.rules.specs.declared.RoTxn.{RoTxn}
use Rattle.rules.specs.declared.RoTxns.{RoTxns}
use Rattle.rules.specs.declared.State.{State}

-- ---- records, and what stands in an unused place

-- a read-write transaction with its deps as a list
pub record Writer : Type 0 where
  pub epoch : ℕ
  pub waiting : ℕ
  pub deps : List ℕ

abbrev pub writer : ℕ → ℕ → List ℕ → Writer
writer epoch waiting ds = record { epoch = epoch; waiting = waiting; deps = ds }

abbrev pub rw_txn : ℕ → ℕ → ℕ → RwTxn
rw_txn epoch waiting n = record { epoch = epoch; waiting = waiting; deps = n }

abbrev pub ro_txn : ℕ → ℕ → RoTxn
ro_txn ticket epoch = record { ticket = ticket; epoch = epoch }

abbrev pub no_writer : Writer
no_writer = writer 0 0 []

abbrev pub no_rw : RwTxn
no_rw = rw_txn 0 0 0

abbrev pub no_ro : RoTxn
no_ro = ro_txn 0 0

-- ---- the manager, and that of the books

pub record Manager : Type 0 where
  pub clock : Clock
  pub writers : RwTxns
  pub deps : List ℕ
  pub readers : RoTxns

-- the manager of these parts
abbrev pub manager_with : Clock → RwTxns → List ℕ → RoTxns → Manager
manager_with c ts ds ps = record { clock = c; writers = ts; deps = ds; readers = ps }

abbrev pub manager_in : State → Manager
manager_in s = manager_with s.clock s.writers s.deps s.readers

-- no transaction yet, the next ticket 1
abbrev pub empty_manager : Clock → Manager
empty_manager c = record {
  clock = c;
  writers = record { at = replicate writers_max no_rw; count = 0 };
  deps = replicate deps_all 0;
  readers = record { at = replicate readers_max no_ro; count = 0; next = 1 };
}

-- ---- the places in use, as lists

abbrev pub records_of : Manager → List RwTxn
records_of m = take m.writers.count m.writers.at

-- a record with its row of the table
abbrev pub view : List ℕ → RwTxn → Writer
view row t = writer t.epoch t.waiting (take t.deps row)

-- the first row of the table belongs to the first record
abbrev pub views : List ℕ → List RwTxn → List Writer
views ds [] = []
views ds (t ∷ ts) = view (take deps_max ds) t ∷ views (drop deps_max ds) ts

abbrev pub writers_of : Manager → List Writer
writers_of m = views m.deps (records_of m)

abbrev pub readers_of : Manager → List RoTxn
readers_of m = take m.readers.count m.readers.at

-- ---- setters: lists back into places, unused places 0

abbrev pub record_of : Writer → RwTxn
record_of w = rw_txn w.epoch w.waiting (length w.deps)

abbrev pub row_of : Writer → List ℕ
row_of w = pad deps_max 0 w.deps

abbrev pub with_clock : Clock → Manager → Manager
with_clock c m = record { clock = c; writers = m.writers; deps = m.deps; readers = m.readers }

abbrev pub with_ec : ℕ → Clock → Clock
with_ec e c = record { ec = e; lce = c.lce; lse = c.lse }

abbrev pub with_lce : ℕ → Clock → Clock
with_lce e c = record { ec = c.ec; lce = e; lse = c.lse }

abbrev pub with_lse : ℕ → Clock → Clock
with_lse e c = record { ec = c.ec; lce = c.lce; lse = e }

abbrev pub with_writers : List Writer → Manager → Manager
with_writers ws m = record {
  clock = m.clock;
  writers = record { at = pad writers_max no_rw (map record_of ws); count = length ws };
  deps = pad deps_all 0 (gather row_of ws);
  readers = m.readers;
}

abbrev pub with_readers : List RoTxn → ℕ → Manager → Manager
with_readers ps n m = record {
  clock = m.clock;
  writers = m.writers;
  deps = m.deps;
  readers = record { at = pad readers_max no_ro ps; count = length ps; next = n };
}

-- ---- an open read-write transaction: it has a record that does not wait

abbrev pub is_open : Writer → Bool
is_open w = eqb w.waiting 0

abbrev pub opens : ℕ → Writer → Bool
opens i w = is_open w && eqb w.epoch i

abbrev pub has_open : ℕ → Manager → Bool
has_open i m = any_of (opens i) (writers_of m)

abbrev pub open_epochs : List Writer → List ℕ
open_epochs ws = map (λ w. w.epoch) (keep_if is_open ws)

-- the deps of the open transaction of epoch i
abbrev pub deps_at : ℕ → Manager → List ℕ
deps_at i m = (first_of (opens i) no_writer (writers_of m)).deps

-- ---- a read-only transaction, by its ticket

abbrev pub has_ticket : ℕ → RoTxn → Bool
has_ticket t p = eqb p.ticket t

abbrev pub has_reader : ℕ → Manager → Bool
has_reader t m = any_of (has_ticket t) (readers_of m)

-- the epoch of the read-only transaction of ticket t
abbrev pub epoch_at : ℕ → Manager → ℕ
epoch_at t m = (first_of (has_ticket t) no_ro (readers_of m)).epoch
