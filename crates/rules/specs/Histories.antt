-- What a history leaves: a list of calls on a store that an accepted making new or recovery left. 01 "The books" (LCE),
-- "Refusals" (5); 02 (i), (v).
-- In order: a history; it is sound; its first call closes all; LCE; the load that holds LCE back. Proofs:
-- laws/proofs/Promises.antt.
-- Assumes nothing.
use Rattle.std.specs.Prelude.{◌≡◌, true, List, [], ◌∷◌, map, ℕ, ◌<◌}
use Rattle.lists.specs.Lists.{least_of}
use Rattle.rules.specs.Limits.{partitions_max}
use Rattle.rules.specs.Store.{Store, manager_of}
use Rattle.rules.specs.Answers.{reply_of, second_value, accepted}
use Rattle.rules.specs.WellFormed.{sound}
use Rattle.rules.specs.Step.{Call, rollback, scan, commit, step, run}
use Rattle.rules.specs.Ledger.{Ledger, latest}
use Rattle.rules.specs.Claim.{history, ledger_of, is_open_in, Start, first_call, first_ledger}
use Rattle.rules.specs.declared.Reader.{Reader}
use Rattle.rules.specs.declared.Reader.TheVariants.{Rw}
use Rattle.rules.specs.declared.Answer.TheVariants.{Refused}
use Rattle.rules.specs.declared.Refusal.TheVariants.{NotOpen}

-- ---- a history: making new or recovery is accepted, and a list of calls follows

abbrev pub Made : Start → Store → Type 0
Made s st = accepted (step (first_call s) st).answer ≡ true

abbrev pub store_after : Start → Store → List Call → Store
store_after s st calls = run calls (step (first_call s) st).store

abbrev pub ledger_after : Start → Store → List Call → Ledger
ledger_after s st calls = ledger_of (history calls (step (first_call s) st).store) (first_ledger s)

-- the store is sound, and no call that follows answers 5
abbrev pub HistorySound : Type 0
HistorySound =
    (s : Start) (st : Store) → Made s st → (calls : List Call) → let end = store_after s st calls in
    (sound end ≡ true) × ((c : Call) → (reply_of (step c end).answer).number ≡ 5 → ⊥)

-- the first call closes all: no page and no load is open on the store that it leaves
abbrev pub StartClosesAll : Type 0
StartClosesAll =
    (s : Start) (st : Store) → Made s st → (r : Reader) (p : ℕ) → p < partitions_max → (lent : List ℕ)
    → (step (scan r p lent) (step (first_call s) st).store).answer ≡ Refused NotOpen

-- LCE is the greatest committed epoch that has no open load of smaller epoch
abbrev pub HistoryLce : Type 0
HistoryLce =
    (s : Start) (st : Store) → Made s st → (calls : List Call)
    → (manager_of (store_after s st calls)).clock.lce ≡ latest (ledger_after s st calls)

-- ---- the load that holds LCE back (02 (i)): commit and roll back name the oldest open load

-- the least epoch of an open load, or 0
abbrev pub oldest : Ledger → ℕ
oldest g = least_of (map (λ w. w.name) g.writers)

-- after one more call
abbrev pub ledger_next : Call → Store → Ledger → Ledger
ledger_next c at g = ledger_of (history (c ∷ []) at) g

abbrev pub NamesOldest : Call → Store → Ledger → Type 0
NamesOldest c at g =
    accepted (step c at).answer ≡ true
    → second_value (reply_of (step c at).answer) ≡ oldest (ledger_next c at g)

abbrev pub HistoryNamesOldest : Type 0
HistoryNamesOldest =
    (s : Start) (st : Store) → Made s st → (calls : List Call) (i : ℕ)
    → let g = ledger_after s st calls in let at = store_after s st calls in
    NamesOldest (commit i) at g × NamesOldest (rollback i) at g

-- load h is open in the ledger, above LCE and below i
pub record HoldsBack (h i lce : ℕ) (g : Ledger) : Type 0 where
  pub opened : is_open_in (Rw h) g ≡ true
  pub above : lce < h
  pub below : h < i

-- a commit of i that leaves LCE below i names a load that holds it back
abbrev pub HistoryNamesHolder : Type 0
HistoryNamesHolder =
    (s : Start) (st : Store) → Made s st → (calls : List Call) (i : ℕ)
    → let g = ledger_after s st calls in let at = store_after s st calls in
    let out = step (commit i) at in let lce = (manager_of out.store).clock.lce in
    accepted out.answer ≡ true → lce < i
    → HoldsBack (second_value (reply_of out.answer)) i lce (ledger_next (commit i) at g)
