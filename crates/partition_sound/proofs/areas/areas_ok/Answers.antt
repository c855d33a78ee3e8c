-- `areas_ok` is the test areas_ok: each area is one of nine, and none stands twice.
-- Assumes nothing.
use Rattle.std.proofs.Common.{true, false, refl, sym, ◌∙◌}
use Rattle.partition_sound.proofs.Laws.Areas.{areas_ok-is}
use Rattle.partition_sound.proofs.areas.areas_ok.Goals as goal

pub returns-then-all_below : goal.returns-then-all_below
returns-then-all_below c =
    sym (areas_ok-is _ _ true c.all_differ.result c.areas_of-areas.ensures c.if-all_below.ensures c.all_differ.ensures)

pub returns-else-all_below : goal.returns-else-all_below
returns-else-all_below c =
    c.if-all_below.false ∙ sym (areas_ok-is _ _ false _ c.areas_of-areas.ensures c.if-all_below.ensures refl)
