-- What a scan decides by value. 01 "Who sees a row".
-- In order: a scan of a partition, the view and the deps of a reader, a reader's scan, the bytes written. Laws:
-- store/proofs/Laws/Scan.antt.
-- Assumes nothing.
use Rattle.std.specs.Prelude.{Bool, ◌&&◌, cond, List, [], ◌++◌, ℕ, ◌/◌, length, take, drop, replicate, ltb, leb}
use Rattle.std.specs.Prelude.{Result, Ok, Err}
use Rattle.rules.specs.Manager.{Manager, deps_at, epoch_at, manager_in}
use Rattle.rules.specs.Limits.{rows_max}
use Rattle.rules.specs.Bitmap.{bytes_for}
use Rattle.rules.specs.Calls.{is_reader}
use Rattle.rules.specs.WellFormed.{manager_ok}
use Rattle.rules.specs.declared.Refusal.{Refusal}
use Rattle.rules.specs.declared.Refusal.TheVariants.{NotOpen, ShortOutput}
use Rattle.rules.specs.declared.Reader.{Reader}
use Rattle.rules.specs.declared.Reader.TheVariants.{Rw, Ro}
use Rattle.rules.specs.declared.Partition.{Partition}
use Rattle.rules.specs.declared.State.{State}
use Rattle.visible.specs.declared.View.{View}
use Rattle.visible.specs.declared.View.TheVariants.{Rw as rw_view, Ro as ro_view}
use Rattle.visible.specs.Scan.{scanned, bitmap_scanned}
use Rattle.area.specs.declared.Area.{Area}
use Rattle.admit.specs.Admit.{admitted, by_admission}
use Rattle.plan_scan.specs.declared.Look.{Look}

-- the bytes that a partition's rows need at most
abbrev pub bitmap_max : ℕ
bitmap_max = rows_max / 8

-- the bytes of a partition's rows, all 0
abbrev pub no_bits : List ℕ
no_bits = replicate bitmap_max 0

-- the reader of view v and of these deps, with the entries of area a and k bytes lent
unfoldable pub look_at : Area → Partition → View → List ℕ → ℕ → Result Look Refusal
look_at a q v deps k =
    cond (ltb k (bytes_for q.rows)) (Err ShortOutput)
    (Ok (record {
      rows = q.rows;
      ones = scanned v deps a q.rows no_bits;
      bits = bitmap_scanned v deps a q.rows no_bits;
      count = bytes_for q.rows;
    }))

abbrev pub view_of : Reader → Manager → View
view_of (Rw i) m = rw_view i
view_of (Ro t) m = ro_view (epoch_at t m)

-- none are lent for a read-only transaction
abbrev pub deps_of : Reader → Manager → List ℕ
deps_of (Rw i) m = deps_at i m
deps_of (Ro t) m = []

-- 01's order: 5, 1, 2, 3; a has the partition's entries
unfoldable pub scan_plan : Reader → State → Bool → Area → ℕ → ℕ → Result Look Refusal
scan_plan r s rest a k p = let m = manager_in s in
    by_admission Err (λ q. cond (is_reader r m) (look_at a q (view_of r m) (deps_of r m) k) (Err NotOpen))
    (admitted (rest && manager_ok m) s.partitions p)

-- the first n of the bytes over those lent, where so many are
unfoldable pub copied : ℕ → List ℕ → List ℕ → List ℕ
copied n bits lent = cond (leb n bitmap_max && leb n (length lent)) (take n bits ++ drop n lent) lent
