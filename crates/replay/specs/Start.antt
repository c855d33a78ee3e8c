-- A session's store at its start. 01 "A session": made new at 1.
-- Laws: proofs/Laws/Start.antt.
-- Assumes nothing.
use Rattle.std.specs.Prelude.{List, ℕ}
use Rattle.rules.specs.Step.{Outcome, create, step}
use Rattle.rules.specs.Store.{created_state}
use Rattle.lent.specs.Entries.{filled0}
use Rattle.store.specs.Kept.{store_of}

-- rows are the words that its areas of rows hold; the books are those of making new already, which reads no state
unfoldable pub started : List ℕ → Outcome
started rows = step (create 1) (store_of (created_state 1) rows filled0)
