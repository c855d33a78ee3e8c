-- Laws of a session's start. Definition: specs/Start.antt.
-- In order: as the code goes; making new is accepted.
-- Assumes nothing.
use mathlib.Core.Path.{◌≡◌}
use mathlib.Core.Bool.{true}
use mathlib.Core.List.{List, []}
use Prim.Native.Nat.{ℕ, ◌*◌}
use lib.ListN.{length}
use borrow.Author.Tests.{eq-eqb}
use Rattle.rules.specs.Answers.{accepted}
use Rattle.rules.specs.Calls.{create_answer}
use Rattle.rules.specs.Limits.{rows_max, areas_max, last_epoch}
use Rattle.rules.specs.Step.{call_of, step}
use Rattle.rules.specs.Store.{created_state}
use Rattle.rules.specs.WellFormed.{lengths_ok}
use Rattle.rules.specs.declared.Command.TheVariants.{Create}
use Rattle.rules.specs.declared.State.{State}
use Rattle.lent.specs.Entries.{filled0}
use Rattle.lent.specs.declared.Table.{Table}
use Rattle.store.specs.Kept.{store_of}
use Rattle.dispatch.specs.Dispatch.{Did, kept_in}
use Rattle.replay.specs.Start.{started}
use Rattle.dispatch.specs.declared.Turned.{Turned}

pub started-by : (s : State) (t : Table) (rows after bytes : List ℕ) (r : Turned) → s ≡ created_state 1
    → t ≡ record { at = filled0 }
    → Did (Create 1) (step (call_of (Create 1) [] []) (store_of s rows t.at)) (kept_in r) after r.table.at [] bytes
    → (r.answer ≡ (started rows).answer) × (store_of r.state after r.table.at ≡ (started rows).store)
unfolding started
started-by s t rows after bytes r p q d = (rw (p, q) at d).0

pub start-accepted : (rows : List ℕ) → length rows ≡ rows_max * areas_max → accepted (started rows).answer ≡ true
unfolding started step create_answer lengths_ok filled0 last_epoch
start-accepted rows h = rw (eq-eqb (length rows) (rows_max * areas_max) h)
