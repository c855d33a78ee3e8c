-- `rewrite::ends::ends_fit` meets its contract, entry by entry.
-- Assumes nothing.
use Rattle.std.proofs.Common.{sym, ◌∙◌}
use borrow.Author.Tests.{le-leb, lt-leb}
use Rattle.std.proofs.lemmas.List.{at_drop_more, at_drop_all}
use Rattle.lent.specs.Entries.{none}
use Rattle.rewrite.specs.Kept.{ends_fit}
use Rattle.rewrite.proofs.ends.ends_fit.Goals as goal

pub returns-then-e-from : goal.returns-then-e-from
unfolding ends_fit
returns-then-e-from c = let l = c.loop-e in
    sym (l.invariant ∙ (at_drop_more (ends_fit l.from) c.args.es.now l.e-index none c.loop-e-test.true
    ∙ rw (lt-leb _ _ c.if-e-from.true)))

pub loop-e-preserved : goal.loop-e-preserved
unfolding ends_fit
loop-e-preserved c = let l = c.loop-e in
    l.invariant ∙ (at_drop_more (ends_fit l.from) c.args.es.now l.e-index none c.loop-e-test.true
    ∙ rw (le-leb _ _ c.if-e-from.false))

pub returns : goal.returns
unfolding ends_fit
returns c = let l = c.loop-e in
    sym (l.invariant ∙ at_drop_all (ends_fit l.from) c.args.es.now l.e-index c.loop-e-test.false)
