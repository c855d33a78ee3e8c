-- The first k places are planned, and the others 0.
-- Assumes nothing.
use Rattle.std.proofs.Common.{◌≡◌, take}
use Rattle.lists.specs.Lists.{pad}
use Rattle.rules.specs.Limits.{entries_max}
use Rattle.rewrite_plan.specs.Plan.{spans_in, roll_epochs}
use Rattle.rewrite_plan.proofs.roll_plan.Given as goal

abbrev pub invariant-loop-k : goal.invariant-loop-k
invariant-loop-k l = l.at ≡ pad entries_max 0 (take l.k (roll_epochs l.i (spans_in l.fn.a)))
