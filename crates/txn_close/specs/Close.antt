-- Closing and settling as one pass over rising records sees them. 01 "The books", Commit, roll back.
-- The rules' own wording is settled_lce and oldest_open (rules/specs/Close.antt); proofs/Laws/Settle.antt shows that
-- the
-- two agree.
-- In order: lead, run_lce, first_open, the books, the transaction closed, LCE then, the search for it.
-- Assumes nothing.
use Rattle.std.specs.Prelude.{Bool, cond, List, [], ◌∷◌, ℕ, Option, Some, None, suc, drop, set}
use Rattle.rules.specs.Manager.{Writer, is_open, with_lce}
use Rattle.rules.specs.Close.{waiting_txn, committed_txns, dropped_txns, committed_manager, rolled_back_manager}
use Rattle.rules.specs.declared.Answer.TheVariants.{Closed, Refused}
use Rattle.rules.specs.declared.Refusal.TheVariants.{NotOpen}
use Rattle.rules.specs.declared.Clock.{Clock}
use Rattle.rules.specs.declared.RwTxns.{RwTxns}
use Rattle.rules.specs.Manager.{Manager}
use Rattle.txn.specs.Records.{cut, writers_with, table_with}
use Rattle.txn_close.specs.declared.Ended.{Ended}
use Rattle.txn_close.specs.declared.close.Books.{Books}
use Rattle.txn_close.specs.declared.close.Reached.{Reached}
use Rattle.txn_close.specs.declared.close.Settled.{Settled}

-- how many wait before the first open one
abbrev pub lead : List Writer → ℕ
lead [] = 0
lead (t ∷ ts) = cond (is_open t) 0 (suc (lead ts))

-- the epoch of the last of those, or lce
abbrev pub run_lce : ℕ → List Writer → ℕ
run_lce lce [] = lce
run_lce lce (t ∷ ts) = cond (is_open t) lce (run_lce t.epoch ts)

-- the epoch of the first open one, or 0
abbrev pub first_open : List Writer → ℕ
first_open [] = 0
first_open (t ∷ ts) = cond (is_open t) t.epoch (first_open ts)

abbrev pub reach_of : ℕ → List Writer → Reached
reach_of lce ts = record { lce = run_lce lce ts; count = lead ts; oldest = first_open ts }

-- the books with these transactions, but for their table
abbrev pub books_with : Clock → List Writer → Books
books_with c ws = record { clock = c; writers = writers_with ws }

-- ---- the transaction of epoch i, at place j, closed: waits says that it waits, committed

abbrev pub closed_txns : Bool → ℕ → ℕ → List Writer → List Writer
closed_txns waits j i ws = cond waits (set ws j (waiting_txn i)) (cut j (suc j) ws)

-- LCE once the transaction of epoch i is closed: settled over the records as they are then
unfoldable pub lce_after : Bool → ℕ → ℕ → List Writer → ℕ
lce_after waits i lce ws = run_lce lce (cond waits (committed_txns i ws) (dropped_txns i ws))

-- ---- the search for it, then closed and settled

-- LCE is settled over ws, and what it has reached is gone
abbrev pub settled_by : Clock → List Writer → Settled
settled_by c ws =
    record { books = books_with (with_lce (run_lce c.lce ws) c) (drop (lead ws) ws); oldest = first_open ws }

abbrev pub ended_with : Settled → Ended
ended_with s =
    record { answer = Closed s.books.clock.lce s.oldest; clock = s.books.clock; writers = s.books.writers }

-- by what the search found among ws, which the records ts show
abbrev pub ended_by : Bool → ℕ → Clock → RwTxns → List Writer → Option ℕ → Ended
ended_by waits i c ts ws (Some j) = ended_with (settled_by c (closed_txns waits j i ws))
ended_by waits i c ts ws None = record { answer = Refused NotOpen; clock = c; writers = ts }

-- the table of deps then
abbrev pub table_by : Bool → ℕ → List Writer → List ℕ → Option ℕ → List ℕ
table_by waits i ws ds (Some j) = let vs = closed_txns waits j i ws in table_with (drop (lead vs) vs)
table_by waits i ws ds None = ds

-- the rules' own wording, LCE settled
abbrev pub closed_manager : Bool → ℕ → Manager → Manager
closed_manager waits i m = cond waits (committed_manager i m) (rolled_back_manager i m)
