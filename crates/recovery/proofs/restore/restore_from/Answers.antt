-- Assumes nothing.
use Rattle.std.proofs.Common.{arith}
use Rattle.laws.proofs.Laws.Limits.{last_epoch-fits}
use Rattle.recovery.proofs.restore.restore_from.Goals as goal

pub overflow_add-result : goal.overflow_add-result
overflow_add-result c = omega (arith, last_epoch-fits, c.requires.epoch-fits)
