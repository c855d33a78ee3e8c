-- `rewrite_plan::has_epoch` meets its contract: where an entry's rows begin makes no difference.
-- Assumes nothing.
use Rattle.std.proofs.Common.{eqb, rules, tests}
use Rattle.std.proofs.lemmas.Iterator.{YieldsList-from_slice}
use Rattle.std.proofs.lemmas.Iterator.Search.{any_from_yields_List}
use Rattle.area.specs.Area.{entries_in}
use Rattle.rewrite_plan.proofs.Laws.Tests.{has-entries}
use Rattle.rewrite_plan.proofs.has_epoch.Goals as goal

pub returns : goal.returns
returns c = rw (has-entries c.args.i 0 (entries_in c.args.a), ← c.entries.ensures.value)
    (any_from_yields_List (λ e. eqb e.epoch c.args.i) _ _ _ c.any.ensures.ran
    (YieldsList-from_slice c.entries.result.now cc) (λ x b q k. search (rules, tests)))
