-- The kept rows, copied from one area of the lent rows to another. 01 "Lots", Roll back, Purge.
-- In order: kept_words, areas_apart, copy_ok, rows_copied. Laws: proofs/Laws/Copied.antt.
-- Assumes nothing.
use Rattle.std.specs.Prelude.{Bool, ◌&&◌, ◌||◌, cond, List, ℕ, ◌+◌, leb, length}
use Rattle.lists.specs.Lists.{part, over}
use Rattle.rules.specs.Limits.{rows_max}
use Rattle.rules.specs.Span.{spans, words_of}
use Rattle.rules.specs.declared.Entry.{Entry}
use Rattle.area.specs.Area.{entries_in}
use Rattle.rewrite.specs.Kept.{kept, ends_fit}
use Rattle.area.specs.declared.Area.{Area}
use Rattle.rewrite_plan.specs.declared.Plan.{Plan}

-- the words of the spans that the plan keeps, in order
unfoldable pub kept_words : List ℕ → List Entry → List ℕ → List ℕ
kept_words ps es ws = words_of (kept ps (spans 0 es ws))

-- two areas of 512 rows, inside n rows and apart
abbrev pub areas_apart : ℕ → ℕ → ℕ → Bool
areas_apart from to n =
    leb (from + rows_max) n && (leb (to + rows_max) n && (leb (from + rows_max) to || leb (to + rows_max) from))

unfoldable pub copy_ok : Area → ℕ → ℕ → List ℕ → Bool
copy_ok a from to rows = ends_fit 0 (entries_in a) && areas_apart from to (length rows)

-- nothing is written where the ends are not those of an area, or the areas are not inside or not apart
unfoldable pub rows_copied : Area → Plan → ℕ → ℕ → List ℕ → List ℕ
rows_copied a p from to rows =
    cond (copy_ok a from to rows) (over to (kept_words p.at (entries_in a) (part from rows_max rows)) rows) rows
