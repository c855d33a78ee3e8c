-- `undo::lots::roll_lots` meets its contract: a turn rolls partition p back, as it stands after those below it.
-- Assumes nothing.
use Rattle.std.proofs.Common.{refl, add-one}
use Rattle.undo.specs.Lots.{rolling_at, rolling_below}
use Rattle.undo.proofs.lots.roll_lots.Goals as goal
use Rattle.undo.proofs.lots.roll_lots.Goals.{in-Some, in_default}

pub loop-p-init : goal.loop-p-init
unfolding rolling_below
loop-p-init c = refl

pub loop-p-preserved : goal.loop-p-preserved
unfolding rolling_below rolling_at
loop-p-preserved c = elim c.match-decide.branch [
  | in-Some w ↦ rw (
    w.entries-is,
    w.rows-is,
    w.places-is,
    w.put.ensures,
    w.copy.ensures,
    add-one c.loop-p.p,
    ← c.loop-p.invariant,
    ← c.load-a.ensures,
    ← w.in-Some.ensures,
  )
  | in_default w ↦ rw (
    w.entries-is,
    w.rows-is,
    w.places-is,
    add-one c.loop-p.p,
    ← c.loop-p.invariant,
    ← c.load-a.ensures,
    ← w.in_default.ensures,
  )
]
