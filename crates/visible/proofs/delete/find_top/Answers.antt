-- `visible::delete::find_top` meets its contract, entry by entry.
-- Assumes nothing.
use Rattle.std.proofs.Common.{sym, ◌∙◌, get_or, drop, ◌+◌}
use Rattle.std.proofs.lemmas.List.{drop_more, drop_all}
use Rattle.rules.specs.Top.{top_from}
use Rattle.rules.specs.Bare.{bare}
use Rattle.lent.specs.Entries.{none}
use Rattle.visible.specs.View.{sees_view}
use Rattle.visible.specs.Passes.{as_top}
use Rattle.visible.proofs.Laws.Top.{top-next}
use Rattle.visible.proofs.delete.find_top.Goals as goal

pub loop-i-preserved : goal.loop-i-preserved
loop-i-preserved c = let l = c.loop-i in let es = c.args.es.now in
    rw c.top_step-top.ensures
    (l.invariant ∙ rw (drop_more es l.i none c.loop-i-test.true)
    (top-next (sees_view c.args.v c.args.deps.now) l.i (as_top l.top) (get_or es l.i none) 0 0 (drop (l.i + 1) es)))

pub returns : goal.returns
unfolding bare top_from
returns c = let l = c.loop-i in sym (l.invariant ∙ rw (drop_all l.i c.args.es.now c.loop-i-test.false))
