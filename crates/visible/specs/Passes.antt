-- What the passes of a scan hand on: cited by the helpers' contracts, by no public one.
-- In order: as_top, flags_under. Laws: proofs/Laws/Top.antt, proofs/Laws/Rows.antt.
-- Assumes nothing.
use Rattle.std.specs.Prelude.{Bool, List, ℕ}
use Rattle.rules.specs.declared.Entry.{Entry}
use Rattle.rules.specs.Top.{Top as Greatest, flags_by}
use Rattle.visible.specs.declared.View.{View}
use Rattle.visible.specs.declared.delete.Top.{Top}
use Rattle.visible.specs.View.{sees_view}
use Rattle.rules.specs.Bare.{bare}

-- the greatest applied delete as rules has it
abbrev pub as_top : Top → Greatest
as_top t = record { epoch = t.epoch; at = t.at }

-- the flags of entries by the greatest applied delete
abbrev pub flags_under : View → List ℕ → Top → List Entry → List Bool
flags_under v deps t es = flags_by (sees_view v deps) (as_top t) 0 (bare 0 es)
