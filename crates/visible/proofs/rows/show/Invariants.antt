-- The entries before i are laid; of entry i, the rows passed are.
-- Assumes nothing.
use Rattle.std.proofs.Common.{◌≡◌, take, replicate}
use Rattle.visible.specs.View.{sees_view}
use Rattle.visible.specs.Passes.{as_top}
use Rattle.visible.proofs.Laws.Rows.{Laid}
use Rattle.visible.proofs.rows.show.Given as goal

abbrev pub invariant-loop-i : goal.invariant-loop-i
invariant-loop-i l = Laid (sees_view l.v l.deps) (as_top l.top) l.es l.i l.from l.count l.shown

abbrev pub invariant-loop-s : goal.invariant-loop-s
invariant-loop-s l = take l.s-index l.s-items ≡ replicate l.s-index l.b
