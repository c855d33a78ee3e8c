-- `visible::ends::ends_ok` meets its contract, entry by entry.
-- Assumes nothing.
use Rattle.std.proofs.Common.{sym, ◌∙◌}
use Rattle.std.proofs.lemmas.List.{at_drop_more, at_drop_all}
use Rattle.rules.specs.WellFormed.{ends_ok}
use Rattle.lent.specs.Entries.{none}
use Rattle.visible.proofs.ends.ends_ok.Goals as goal

pub returns-then-not-end_ok : goal.returns-then-not-end_ok
unfolding ends_ok
returns-then-not-end_ok c = let l = c.loop-e in
    sym (l.invariant ∙ (at_drop_more (ends_ok c.args.rows l.end) c.args.es.now l.e-index none c.loop-e-test.true
    ∙ rw (sym c.end_ok.ensures ∙ c.if-not-end_ok.true)))

pub loop-e-preserved : goal.loop-e-preserved
unfolding ends_ok
loop-e-preserved c = let l = c.loop-e in
    l.invariant ∙ (at_drop_more (ends_ok c.args.rows l.end) c.args.es.now l.e-index none c.loop-e-test.true
    ∙ rw (sym c.end_ok.ensures ∙ c.if-not-end_ok.false))

pub returns : goal.returns
unfolding ends_ok
returns c = let l = c.loop-e in
    sym (l.invariant ∙ at_drop_all (ends_ok c.args.rows l.end) c.args.es.now l.e-index c.loop-e-test.false)
