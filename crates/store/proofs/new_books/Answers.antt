-- The clock from s, every place unused, the partitions fresh.
-- Assumes nothing.
use Rattle.rules.specs.Begin.{created_manager}
use Rattle.txn_find.proofs.Laws.Places.{default_rw, default_ro}
use Rattle.store.proofs.new_books.Goals as goal

pub returns : goal.returns
unfolding created_manager
returns c = rw (
  c.saturating_sub-base.ensures,
  default_rw c.default-ts.ensures,
  default_ro c.default-ps.ensures,
  c.fresh-partitions.ensures,
)
