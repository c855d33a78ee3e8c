-- The lowest of all is the lowest of those left and of what was found.
-- Assumes nothing.
use Rattle.std.proofs.Common.{◌≡◌, min, drop}
use mathlib.Core.List.{foldr}
use Rattle.lists.specs.Lists.{gather}
use Rattle.rules.specs.Manager.{views}
use Rattle.txn_safe.specs.Safe.{under_deps}
use Rattle.txn_safe.proofs.under_writers.Given as goal

abbrev pub invariant-loop-i : goal.invariant-loop-i
invariant-loop-i l = foldr min l.fn.top (gather under_deps (views l.deps l.x-items))
    ≡ foldr min l.low (gather under_deps (drop l.i (views l.deps l.x-items)))
