-- Some record blocks just where one that is left does; some dep of the row is at or below t just where one that is left
-- is.
-- Assumes nothing.
use Rattle.std.proofs.Common.{◌≡◌, drop, false}
use lib.Dec.{leb}
use Rattle.lists.specs.Lists.{any_of}
use Rattle.rules.specs.Manager.{views}
use Rattle.txn_safe.specs.Safe.{dep_blocks}
use Rattle.txn_safe.proofs.dep_blocks.Given as goal

abbrev pub invariant-writers : goal.invariant-writers
invariant-writers l = (l.held ≡ false)
    × (any_of (dep_blocks l.t) (views l.deps l.x-items) ≡ any_of (dep_blocks l.t) (drop l.i (views l.deps l.x-items)))

abbrev pub invariant-loop-d : goal.invariant-loop-d
invariant-loop-d l = (l.held ≡ false)
    × (any_of (λ e. leb e l.t) l.row ≡ any_of (λ e. leb e l.t) (drop l.d-index l.row))
