-- `Epoch::new` takes the words from FIRST to LAST, which are 1 and rules' last_epoch.
-- Assumes nothing.
use Rattle.lists.proofs.Laws.Branches.{tests}
use Rattle.rules.specs.Limits.{last_epoch}
use Rattle.epoch.specs.Epochs.{start_of}
use Rattle.epoch.proofs.Epoch.new.Goals as goal
use Rattle.epoch.proofs.Epoch.new.Goals.{then-s-via-then-s, then-s-via-else-s+then-s-2}

pub returns-then-s : goal.returns-then-s
unfolding start_of last_epoch
returns-then-s c = elim c.then-s.branch [
  | then-s-via-then-s w ↦ search tests
  | then-s-via-else-s+then-s-2 w ↦ search tests
]

pub returns : goal.returns
unfolding start_of last_epoch
returns c = search tests
