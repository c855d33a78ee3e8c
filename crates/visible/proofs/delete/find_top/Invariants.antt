-- The greatest delete of the entries in use is that of those from i on, after the greatest so far.
-- Assumes nothing.
use Rattle.std.proofs.Common.{◌≡◌, drop}
use Rattle.rules.specs.Top.{top_from, top_delete}
use Rattle.rules.specs.Bare.{bare}
use Rattle.visible.specs.View.{sees_view}
use Rattle.visible.specs.Passes.{as_top}
use Rattle.visible.proofs.delete.find_top.Given as goal

abbrev pub invariant-loop-i : goal.invariant-loop-i
invariant-loop-i l = top_delete (sees_view l.v l.deps) (bare 0 l.es)
    ≡ top_from (sees_view l.v l.deps) l.i (as_top l.top) (bare 0 (drop l.i l.es))
