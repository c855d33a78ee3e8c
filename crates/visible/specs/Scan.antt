-- What a scan answers and writes, for all input. 01 "Who sees a row", last paragraph.
-- In order: scan_ok, view_flags, scanned, bitmap_scanned.
-- Assumes nothing.
use Rattle.std.specs.Prelude.{Bool, ◌&&◌, cond, List, ℕ, leb, length}
use Rattle.lists.specs.Lists.{ones}
use Rattle.rules.specs.declared.Entry.{Entry}
use Rattle.rules.specs.Limits.{rows_max}
use Rattle.rules.specs.Bitmap.{bytes_for, bitmap_after}
use Rattle.rules.specs.WellFormed.{ends_ok}
use Rattle.visible.specs.declared.View.{View}
use Rattle.area.specs.declared.Area.{Area}
use Rattle.visible.specs.View.{sees_view}
use Rattle.area.specs.Area.{entries_in}
use Rattle.visible.specs.Flags.{flags_of}

-- the ends are those of so many rows, which a partition can have, and the lent bytes are enough
unfoldable pub scan_ok : Area → ℕ → List ℕ → Bool
scan_ok t rows lent = ends_ok rows 0 (entries_in t) && (leb rows rows_max && leb (bytes_for rows) (length lent))

-- the flags of a reader: it applies the deletes that it sees (laws' `applies-all`)
abbrev pub view_flags : View → List ℕ → List Entry → List Bool
view_flags v deps es = flags_of (sees_view v deps) (sees_view v deps) es

abbrev pub table_flags : View → List ℕ → Area → List Bool
table_flags v deps t = view_flags v deps (entries_in t)

unfoldable pub scanned : View → List ℕ → Area → ℕ → List ℕ → ℕ
scanned v deps t rows lent = cond (scan_ok t rows lent) (ones (table_flags v deps t)) 0

unfoldable pub bitmap_scanned : View → List ℕ → Area → ℕ → List ℕ → List ℕ
bitmap_scanned v deps t rows lent = cond (scan_ok t rows lent) (bitmap_after (table_flags v deps t) lent) lent
