-- The steps of begin on the records and their table. 01 "The books", Begin. The whole: rules/specs/Begin.antt.
-- Assumes nothing.
use Rattle.std.specs.Prelude.{List, map, ℕ, ◌+◌, eqb, take, set}
use Rattle.lists.specs.Lists.{keep_if}
use Rattle.rules.specs.Manager.{rw_txn}
use Rattle.rules.specs.declared.RwTxn.{RwTxn}
use Rattle.rules.specs.declared.RwTxns.{RwTxns}

-- the epochs of the open records
abbrev pub opened : List RwTxn → List ℕ
opened ts = map (λ t. t.epoch) (keep_if (λ t. eqb t.waiting 0) ts)

abbrev pub opened_in : RwTxns → List ℕ
opened_in ts = opened (take ts.count ts.at)

-- one record more, open, of epoch e and with k deps
abbrev pub recorded_in : ℕ → ℕ → RwTxns → RwTxns
recorded_in e k ts = record { at = set ts.at ts.count (rw_txn e 0 k); count = ts.count + 1 }
