-- `plan_scan::scan_core` meets its contract: refused, or a scan of the partition that it is admitted to, as the record
-- says that is found.
-- Assumes nothing.
use Rattle.std.proofs.Common.{◌≡◌, ℕ, ◌*◌, min, get_or, sym, ap, arith}
use Rattle.std.proofs.lemmas.Result.{err_from_is_err_and}
use Rattle.lists.specs.Lists.{part}
use Rattle.rules.specs.Limits.{writers_max, deps_max}
use Rattle.rules.specs.Manager.{no_writer, no_rw, no_ro, writers_of, view, opens, deps_at, manager_in}
use Rattle.rules.specs.Manager.{Manager}
use Rattle.txn_find.specs.Find.{row_at}
use Rattle.txn_find.proofs.Laws.Find.{Stands, writer-stands, writer-none, reader-stands, reader-none}
use Rattle.txn_find.proofs.Laws.Places.{sized}
use Rattle.txn.proofs.Laws.Records.{parts-sound-is}
use Rattle.plan_scan.specs.Scan.{scan_plan}
use Rattle.plan_scan.proofs.scan_core.Goals as goal

-- the row of the record that was found
deps-read : (m : Manager) (i : ℕ) {j : ℕ}
    → Stands (opens i) (writers_of m) m.writers.count writers_max
    (view (part (deps_max * j) deps_max m.deps) (get_or m.writers.at j no_rw)) j
    → row_at (get_or m.writers.at j no_rw).deps j m.deps ≡ deps_at i m
deps-read m i {j} w = let e : min j writers_max ≡ j = omega (arith, w.below) in
    rw e (sym (ap (λ x. x.deps) (w.first no_writer)))

pub returns-in_err-q : goal.returns-in_err-q
unfolding scan_plan
returns-in_err-q c = let s = c.args.state in
    let p = err_from_is_err_and c.from_residual.result c.from_residual.ensures.1 in
    rw (
      ← parts-sound-is (manager_in s) c.args.rest (sized s c.well_formed.0) c.parts_sound-sound.ensures,
      ← c.admit.ensures,
      c.in_err-q.was,
    )
    (rw (p.1, p.2))

pub returns-in_default : goal.returns-in_default
unfolding scan_plan
returns-in_default c = let s = c.args.state in
    rw (
      c.in-Rw.is,
      ← parts-sound-is (manager_in s) c.args.rest (sized s c.well_formed.0) c.parts_sound-sound.ensures,
      ← c.admit.ensures,
      c.in_ok-q.was,
      (writer-none (manager_in s) _ c.find_writer.ensures c.in_default.is).any,
    )

pub offset_bounds-writers-j : goal.offset_bounds-writers-j
offset_bounds-writers-j c = let s = c.args.state in let e = c.in-Some.is in
    omega (arith, (writer-stands (manager_in s) _ (sized s c.well_formed.0) c.find_writer.ensures e).below)

pub bounds-writers-j : goal.bounds-writers-j
bounds-writers-j c = let s = c.args.state in let e = c.in-Some.is in
    omega (arith, (writer-stands (manager_in s) _ (sized s c.well_formed.0) c.find_writer.ensures e).below)

pub returns-in_default-find_reader : goal.returns-in_default-find_reader
unfolding scan_plan
returns-in_default-find_reader c = let s = c.args.state in
    rw (
      c.in-Ro.is,
      ← parts-sound-is (manager_in s) c.args.rest (sized s c.well_formed.0) c.parts_sound-sound.ensures,
      ← c.admit.ensures,
      c.in_ok-q.was,
      (reader-none (manager_in s) _ c.find_reader.ensures c.in_default-find_reader.is).any,
    )

pub offset_bounds-readers-j : goal.offset_bounds-readers-j
offset_bounds-readers-j c = let s = c.args.state in let e = c.in-Some-find_reader.is in
    omega (arith, (reader-stands (manager_in s) _ (sized s c.well_formed.0) c.find_reader.ensures e).below)

pub bounds-readers-j : goal.bounds-readers-j
bounds-readers-j c = let s = c.args.state in let e = c.in-Some-find_reader.is in
    omega (arith, (reader-stands (manager_in s) _ (sized s c.well_formed.0) c.find_reader.ensures e).below)

pub returns-in-Some : goal.returns-in-Some
unfolding scan_plan
returns-in-Some c = let s = c.args.state in let m = manager_in s in let z = sized s c.well_formed.0 in
    let w = writer-stands m _ z c.find_writer.ensures c.in-Some.is in
    rw (
      c.in-Rw.is,
      ← parts-sound-is m c.args.rest z c.parts_sound-sound.ensures,
      ← c.admit.ensures,
      c.in_ok-q.was,
      w.any,
      ← deps-read m c.in-Rw.i w,
      ← c.row_of.ensures,
    )
    c.scan_partition.ensures

pub returns-in-Some-find_reader : goal.returns-in-Some-find_reader
unfolding scan_plan
returns-in-Some-find_reader c = let s = c.args.state in let m = manager_in s in let z = sized s c.well_formed.0 in
    let w = reader-stands m _ z c.find_reader.ensures c.in-Some-find_reader.is in
    rw (
      c.in-Ro.is,
      ← parts-sound-is m c.args.rest z c.parts_sound-sound.ensures,
      ← c.admit.ensures,
      c.in_ok-q.was,
      w.any,
      w.first no_ro,
    )
    c.scan_partition-in-Ro.ensures
