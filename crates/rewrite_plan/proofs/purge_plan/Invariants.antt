-- The first k places are planned, and the others 0.
-- Assumes nothing.
use Rattle.std.proofs.Common.{◌≡◌, take}
use Rattle.lists.specs.Lists.{pad}
use Rattle.rules.specs.Limits.{entries_max}
use Rattle.rewrite_plan.specs.Plan.{spans_in, purge_epochs}
use Rattle.rewrite_plan.proofs.purge_plan.Given as goal

abbrev pub invariant-loop-k : goal.invariant-loop-k
invariant-loop-k l = let ss = spans_in l.fn.a in l.at ≡ pad entries_max 0 (take l.k (purge_epochs l.l ss ss))
