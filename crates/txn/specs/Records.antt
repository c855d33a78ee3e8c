-- The manager's records and their table of deps in their arrays, unused places 0; those from one place up to another
-- taken out.
-- Laws: proofs/Laws/Records.antt, proofs/Laws/Cut.antt.
-- Assumes nothing.
use Rattle.std.specs.Prelude.{◌≡◌, List, ◌++◌, map, ℕ, ◌≤◌, length, take, drop}
use Rattle.lists.specs.Lists.{gather, pad}
use Rattle.rules.specs.Limits.{writers_max, readers_max, deps_all}
use Rattle.rules.specs.Manager.{Writer, no_rw, no_ro, views, readers_of, record_of, row_of}
use Rattle.rules.specs.declared.RwTxns.{RwTxns}
use Rattle.rules.specs.declared.RoTxn.{RoTxn}
use Rattle.rules.specs.declared.RoTxns.{RoTxns}
use Rattle.rules.specs.Manager.{Manager}

-- xs without the elements from a up to b
abbrev pub cut : {A : Type 0} → ℕ → ℕ → List A → List A
cut a b xs = take a xs ++ drop b xs

-- a list in its places, unused places 0, as with_writers and with_readers put it
abbrev pub writers_with : List Writer → RwTxns
writers_with ws = record { at = pad writers_max no_rw (map record_of ws); count = length ws }

abbrev pub table_with : List Writer → List ℕ
table_with ws = pad deps_all 0 (gather row_of ws)

abbrev pub readers_with : List RoTxn → ℕ → RoTxns
readers_with ps n = record { at = pad readers_max no_ro ps; count = length ps; next = n }

-- the transactions of these records, their deps in this table
abbrev pub viewed : RwTxns → List ℕ → List Writer
viewed ts ds = views ds (take ts.count ts.at)

-- records and table are those of the transactions that they show, so what stands behind those in use is 0
pub record Tidy (ts : RwTxns) (ds : List ℕ) : Type 0 where
  pub room : ts.count ≤ writers_max
  pub len : length ts.at ≡ writers_max
  pub words : length ds ≡ deps_all
  pub records : ts ≡ writers_with (viewed ts ds)
  pub table : ds ≡ table_with (viewed ts ds)

abbrev pub TidyReaders : Manager → Type 0
TidyReaders m = m.readers.at ≡ pad readers_max no_ro (readers_of m)
