-- The lowest bound: the deps first, then the read-only transactions.
-- Assumes nothing.
use Rattle.std.proofs.Common.{sym, take, map}
use Rattle.lists.specs.Lists.{gather}
use Rattle.lists.proofs.Laws.Lowest.{lowest-back}
use Rattle.rules.specs.Safe.{greatest_target}
use Rattle.rules.specs.declared.RoTxn.{RoTxn}
use Rattle.txn.specs.Records.{viewed}
use Rattle.txn_safe.specs.Safe.{under_deps}
use Rattle.txn_safe.proofs.greatest.Goals as goal

pub returns : goal.returns
unfolding greatest_target
returns c = let a = c.args in
    rw (c.under_readers.ensures, c.under_writers.ensures)
    (sym (lowest-back a.c.lce (map (λ (p : RoTxn). p.epoch) (take a.ps.count a.ps.at))
    (gather under_deps (viewed a.ts a.deps.now))))
