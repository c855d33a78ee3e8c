-- The place of the first record that passes a test. 01 "Refusals that come from the input", 2: an open load or
-- page. Its row of the table of deps.
-- Laws: proofs/Laws/Find.antt.
-- Assumes nothing.
use Rattle.std.specs.Prelude.{Bool, ◌&&◌, List, Option, ℕ, min, ◌*◌, eqb, take, position}
use Rattle.lists.specs.Lists.{part}
use Rattle.rules.specs.Limits.{writers_max, deps_max}
use Rattle.rules.specs.Manager.{has_ticket}
use Rattle.rules.specs.declared.RwTxn.{RwTxn}
use Rattle.rules.specs.declared.RwTxns.{RwTxns}
use Rattle.rules.specs.declared.RoTxns.{RoTxns}

-- the record is open and has epoch i
abbrev pub opens_at : ℕ → RwTxn → Bool
opens_at i t = eqb t.waiting 0 && eqb t.epoch i

-- the open transaction of epoch i, among the records in use
unfoldable pub writer_at : ℕ → RwTxns → Option ℕ
writer_at i ts = position (opens_at i) (take ts.count ts.at)

-- the read-only transaction of ticket t
unfoldable pub reader_at : ℕ → RoTxns → Option ℕ
reader_at t ps = position (has_ticket t) (take ps.count ps.at)

-- the first n words of row j, none where the table has no such row
abbrev pub row_at : ℕ → ℕ → List ℕ → List ℕ
row_at n j ds = take n (part (deps_max * min j writers_max) deps_max ds)
