-- The places of the manager's arrays that are not in use, and the words of the table. Definitions: specs/Records.antt.
-- In order: records and table written, the parts of them that are in use, a sound manager's, soundness of the parts.
-- Assumes nothing.
use mathlib.Core.Path.{◌≡◌, sym, ap, ◌∙◌}
use mathlib.Core.Bool.{Bool, true, ◌&&◌}
use mathlib.Core.List.{List, map}
use Prim.Native.Nat.{ℕ, ◌*◌, ◌≤◌}
use native.Mathlib.Omega.{arith}
use lib.ListN.{length, take, get_or, length-map}
use lib.Seq.{length-take-le}
use lib.Dec.{eqb}
use borrow.Author.Tests.{eqb-true, eq-eqb}
use Rattle.lists.specs.Lists.{gather, pad}
use Rattle.lists.proofs.Laws.All.{All}
use Rattle.lists.proofs.Laws.Bools.{and_left, and_right}
use Rattle.lists.proofs.Laws.Parts.{take-pad}
use Rattle.lists.proofs.Laws.Places.{length-pad, padded}
use Rattle.lists.proofs.Laws.Select.{length-rows}
use Rattle.lists.proofs.Laws.Tests.{and-three}
use Rattle.rules.specs.Limits.{writers_max, readers_max, deps_max, deps_all}
use Rattle.rules.specs.Manager.{Writer, no_rw, no_ro, manager_with, records_of, writers_of, record_of, row_of}
use Rattle.rules.specs.WellFormed.{unused_rw, unused_ro, manager_ok}
use Rattle.rules.specs.declared.RwTxn.{RwTxn}
use Rattle.rules.specs.declared.RwTxns.{RwTxns}
use Rattle.rules.specs.declared.RoTxn.{RoTxn}
use Rattle.rules.specs.Manager.{Manager}
use Rattle.laws.proofs.Laws.Manager.{manager-facts}
use Rattle.laws.proofs.Laws.Views.{Fits, rows-wide, views-rows, views-whole, views-fit}
use Rattle.txn_find.proofs.Laws.Places.{Sized}
use Rattle.txn.specs.Records.{writers_with, table_with, viewed, Tidy, TidyReaders}

-- ---- records and table of the transactions ws

pub viewed_with : (ws : List Writer) → All Fits ws → viewed (writers_with ws) (table_with ws) ≡ ws
viewed_with ws h =
    let e : take (length ws) (pad writers_max no_rw (map record_of ws)) ≡ map record_of ws =
    ap (λ n. take n (pad writers_max no_rw (map record_of ws))) (sym (length-map ws record_of))
    ∙ take-pad writers_max no_rw (map record_of ws) in
    rw e (views-rows ws _ h)

pub tidy_with : (ws : List Writer) → length ws ≤ writers_max → All Fits ws → Tidy (writers_with ws) (table_with ws)
tidy_with ws few h =
    let l = length-map ws record_of in let n = length-rows row_of deps_max ws (rows-wide ws h) in
    let e = viewed_with ws h in record {
      room = few;
      len = length-pad writers_max no_rw (map record_of ws) (omega arith);
      words = length-pad deps_all 0 (gather row_of ws) (omega arith);
      records = rw e;
      table = rw e;
    }

-- ---- the parts in use

module _ {ts : RwTxns} {ds : List ℕ} (T : Tidy ts ds) where
  pub viewed-length : length (viewed ts ds) ≡ ts.count
  viewed-length = sym (ap (λ (x : RwTxns). x.count) T.records)

  pub viewed-fit : All Fits (viewed ts ds)
  viewed-fit = views-fit ds (take ts.count ts.at)

  pub used-records : take ts.count ts.at ≡ map record_of (viewed ts ds)
  used-records = let ws = viewed ts ds in
      ap (λ (x : RwTxns). take x.count x.at) T.records
      ∙ ap (λ n. take n (pad writers_max no_rw (map record_of ws))) (sym (length-map ws record_of))
      ∙ take-pad writers_max no_rw (map record_of ws)

  pub used-words : take (deps_max * ts.count) ds ≡ gather row_of (viewed ts ds)
  used-words = let ws = viewed ts ds in
      let n : deps_max * ts.count ≡ length (gather row_of ws) =
      ap (λ k. deps_max * k) (sym viewed-length) ∙ sym (length-rows row_of deps_max ws (rows-wide ws viewed-fit)) in
      ap (take (deps_max * ts.count)) T.table ∙ ap (λ k. take k (table_with ws)) n
      ∙ take-pad deps_all 0 (gather row_of ws)

  pub tidy-places : ts.at ≡ pad writers_max no_rw (take ts.count ts.at)
  tidy-places = ap (λ (x : RwTxns). x.at) T.records ∙ ap (pad writers_max no_rw) (sym used-records)

  pub tidy-words : ds ≡ pad deps_all 0 (take (deps_max * ts.count) ds)
  tidy-words = T.table ∙ ap (pad deps_all 0) (sym used-words)

-- ---- a sound manager's

unused-rw : (t : RwTxn) → unused_rw t ≡ true → t ≡ no_rw
unused-rw t ok = let p = and-three (eqb t.epoch 0) (eqb t.waiting 0) (eqb t.deps 0) ok in
    λ i. record {
      epoch = eqb-true t.epoch 0 p.0 i;
      waiting = eqb-true t.waiting 0 p.1 i;
      deps = eqb-true t.deps 0 p.2 i;
    }

unused-ro : (p : RoTxn) → unused_ro p ≡ true → p ≡ no_ro
unused-ro p ok = λ i. record {
  ticket = eqb-true p.ticket 0 (and_left (eqb p.ticket 0) (eqb p.epoch 0) ok) i;
  epoch = eqb-true p.epoch 0 (and_right (eqb p.ticket 0) (eqb p.epoch 0) ok) i;
}

module _ (m : Manager) (ok : manager_ok m ≡ true) (z : Sized m) where
  pub writers-tidy : Tidy m.writers m.deps
  writers-tidy =
      let f = manager-facts m ok in let l = z.writers in let w = z.deps in
      let few = f.writers-room in let ts = records_of m in
      let n : length ts ≡ m.writers.count = length-take-le m.writers.count m.writers.at (omega arith) in
      let all = views-whole m.deps ts (omega arith) f.deps-room f.deps_unused in
      let at = padded unused_rw no_rw no_rw m.writers.at writers_max m.writers.count l few
      (λ i h e. unused-rw (get_or m.writers.at i no_rw) e) f.writers_unused in
      let table = padded (eqb 0) 0 0 m.deps deps_all (deps_max * length ts) w (omega arith)
      (λ i h e. sym (eqb-true 0 (get_or m.deps i 0) e)) all.rest in
      let k : m.writers.count ≡ length (writers_of m) =
      sym n ∙ ap length (sym all.records) ∙ length-map (writers_of m) record_of in record {
        room = few;
        len = l;
        words = w;
        records = λ i. record { at = (at ∙ ap (pad writers_max no_rw) (sym all.records)) i; count = k i };
        table = table ∙ ap (pad deps_all 0) (sym all.rows);
      }

  pub readers-tidy : TidyReaders m
  readers-tidy =
      padded unused_ro no_ro no_ro m.readers.at readers_max m.readers.count z.readers
      (manager-facts m ok).readers-room
      (λ i l e. unused-ro (get_or m.readers.at i no_ro) e) (manager-facts m ok).readers_unused

-- ---- the parts of a manager are sound just where it is

pub parts-sound-is : (m : Manager) (rest : Bool) {r : Bool} → Sized m
    → r ≡ (rest && (eqb (length m.deps) deps_all
    && manager_ok (manager_with m.clock m.writers m.deps m.readers)))
    → r ≡ (rest && manager_ok m)
parts-sound-is m rest z e = e ∙ rw (eq-eqb (length m.deps) deps_all z.deps)
