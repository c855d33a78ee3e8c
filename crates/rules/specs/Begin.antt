-- Making new and begin, in the manager. 01 "The books", first paragraph and Begin; 004 III-B "EC".
-- In order: created_manager, begun_manager. Laws: laws/proofs/Laws/Begin.antt.
-- Assumes nothing.
use Rattle.std.specs.Prelude.{List, [], ◌∷◌, ◌++◌, ℕ, suc, ◌-◌}
use Rattle.rules.specs.Manager.{Writer, writer, empty_manager, writers_of, with_clock, with_ec, with_writers}
use Rattle.rules.specs.Manager.{open_epochs}
use Rattle.rules.specs.Manager.{Manager}

-- making new at s: EC = s, LCE = LSE = s − 1, no transaction, next ticket 1
unfoldable pub created_manager : ℕ → Manager
created_manager s = empty_manager (record { ec = s; lce = s - 1; lse = s - 1 })

-- a transaction that begins at epoch e beside the transactions ws: its deps are the epochs open just before
abbrev pub begun_txn : ℕ → List Writer → Writer
begun_txn e ws = writer e 0 (open_epochs ws)

-- begin: the clock hands out EC and steps it by one
unfoldable pub begun_manager : Manager → Manager
begun_manager m =
    with_clock (with_ec (suc m.clock.ec) m.clock)
    (with_writers (writers_of m ++ (begun_txn m.clock.ec (writers_of m) ∷ [])) m)
