-- The part that purge answers with, cut out of the lent rows. 01 "Lots", Purge.
-- In order: area_of, part_of. Laws: proofs/Laws/Part.antt.
-- Assumes nothing.
use Rattle.std.specs.Prelude.{List, ℕ, ◌*◌, get_or}
use Rattle.lists.specs.Lists.{part}
use Rattle.rules.specs.Limits.{rows_max}
use Rattle.rules.specs.Answers.{live_part}
use Rattle.rules.specs.Store.{no_partition}
use Rattle.rules.specs.declared.Answer.{Answer}
use Rattle.rules.specs.declared.Partitions.{Partitions}
use Rattle.rules.specs.declared.State.{State}

abbrev pub area_of : Partitions → ℕ → ℕ
area_of ps p = (get_or ps.at p no_partition).area

-- s are the books before the purge of partition p, rows the lent rows after it, and a its answer
abbrev pub part_of : State → List ℕ → ℕ → Answer → List ℕ
part_of s rows p a =
    live_part (part (rows_max * area_of s.partitions p) rows_max rows)
    (part (rows_max * s.partitions.spare) rows_max rows) a
