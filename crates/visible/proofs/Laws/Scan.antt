-- What a scan answers, by what its tests say. Definitions: specs/Scan.antt.
-- In order: where the tests hold; the same over spans, for the store.
-- Assumes nothing.
use mathlib.Core.Path.{◌≡◌}
use mathlib.Core.Bool.{Bool, true}
use mathlib.Core.List.{List}
use Prim.Native.Nat.{ℕ, ◌≤◌}
use lib.ListN.{length}
use borrow.Author.Tests.{le-leb}
use Rattle.lists.specs.Lists.{ones}
use Rattle.lists.proofs.Laws.Bools.{and_left}
use Rattle.rules.specs.Limits.{rows_max}
use Rattle.rules.specs.Span.{spans}
use Rattle.rules.specs.Hides.{flags}
use Rattle.rules.specs.Bitmap.{bytes_for, bitmap_after}
use Rattle.rules.specs.WellFormed.{ends_ok}
use Rattle.visible.specs.declared.View.{View}
use Rattle.area.specs.declared.Area.{Area}
use Rattle.visible.specs.View.{sees_view}
use Rattle.area.specs.Area.{entries_in}
use Rattle.visible.proofs.Laws.Flags.{flags-entries}
use Rattle.visible.specs.Scan.{scan_ok, table_flags, scanned, bitmap_scanned}

module _ (t : Area) (rows : ℕ) (lent : List ℕ) where
  pub scan-ok : ends_ok rows 0 (entries_in t) ≡ true → rows ≤ rows_max → bytes_for rows ≤ length lent
      → scan_ok t rows lent ≡ true
  unfolding scan_ok
  scan-ok e r b = rw (e, le-leb rows rows_max r, le-leb (bytes_for rows) (length lent) b)

-- ---- over a partition's spans, whatever its words

abbrev pub span_flags : View → List ℕ → Area → List ℕ → List Bool
span_flags v deps t ws = flags (sees_view v deps) (sees_view v deps) (spans 0 (entries_in t) ws)

module _ (v : View) (deps : List ℕ) (t : Area) (rows : ℕ) (lent ws : List ℕ)
    (ok : scan_ok t rows lent ≡ true) (l : length ws ≡ rows) where
  same_flags : table_flags v deps t ≡ span_flags v deps t ws
  unfolding scan_ok
  same_flags = flags-entries (sees_view v deps) (sees_view v deps) rows (entries_in t) (and_left _ _ ok) ws l

  pub scanned-spans : scanned v deps t rows lent ≡ ones (span_flags v deps t ws)
  unfolding scanned
  scanned-spans = rw (ok, same_flags)

  pub bitmap-spans : bitmap_scanned v deps t rows lent ≡ bitmap_after (span_flags v deps t ws) lent
  unfolding bitmap_scanned
  bitmap-spans = rw (ok, same_flags)
