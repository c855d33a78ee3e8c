-- `rewrite_plan::skips` meets its contract: where an entry's rows begin makes no difference.
-- Assumes nothing.
use Rattle.std.proofs.Common.{rules, tests}
use Rattle.std.proofs.lemmas.Iterator.{YieldsList-from_slice}
use Rattle.std.proofs.lemmas.Iterator.Search.{all_from_yields_List}
use Rattle.area.specs.Area.{entries_in}
use Rattle.rewrite_plan.proofs.Laws.Tests.{left, skips-entries}
use Rattle.rewrite_plan.proofs.skips.Goals as goal

pub returns : goal.returns
returns c = rw (skips-entries c.args.l 0 (entries_in c.args.a), ← c.entries.ensures.value)
    (all_from_yields_List (left c.args.l) _ _ _ c.all.ensures.ran
    (YieldsList-from_slice c.entries.result.now cc) (λ x b q k. search (rules, tests)))
