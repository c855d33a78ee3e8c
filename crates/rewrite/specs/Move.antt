-- What a rewrite of one partition moves. 01 "Lots", Roll back, Purge.
-- In order: to the spare area; entries one after the other; what is left of the entries and the rows.
-- Laws: proofs/Laws/Move.antt.
-- Assumes nothing.
use Rattle.std.specs.Prelude.{List, [], ◌∷◌, ℕ, ◌+◌, set}
use Rattle.rules.specs.Limits.{rows_max, entries_max}
use Rattle.rules.specs.declared.Entry.{Entry}
use Rattle.area.specs.Area.{base_of, entries_in}
use Rattle.area.specs.declared.Area.{Area}
use Rattle.rewrite_plan.specs.declared.Plan.{Plan}
use Rattle.rewrite.specs.Copied.{rows_copied}
use Rattle.rewrite.specs.declared.moves.Move.{Move}

abbrev pub move_to_spare : Area → Plan → Area → ℕ → ℕ → Move
move_to_spare old plan new area spare = record {
  old = old;
  plan = plan;
  new = new;
  entry = base_of entries_max spare;
  from = base_of rows_max area;
  to = base_of rows_max spare;
}

-- these entries set one after the other, from index i on; past the end nothing changes
unfoldable pub puts_from : ℕ → List Entry → List Entry → List Entry
puts_from i [] es = es
puts_from i (x ∷ xs) es = puts_from (i + 1) xs (set es i x)

-- ---- what is left

abbrev pub entries_moved : Move → List Entry → List Entry
entries_moved m es = puts_from m.entry (entries_in m.new) es

abbrev pub rows_moved : Move → List ℕ → List ℕ
rows_moved m rows = rows_copied m.old m.plan m.from m.to rows
