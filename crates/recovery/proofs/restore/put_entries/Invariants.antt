-- The entries of the partitions below p are put. Assumes nothing.
use Rattle.std.proofs.Common.{◌≡◌}
use Rattle.recovery.specs.Restore.{entries_restored}
use Rattle.recovery.proofs.restore.put_entries.Given as goal

abbrev pub invariant-loop-p : goal.invariant-loop-p
invariant-loop-p l = l.entries ≡ entries_restored l.w l.p l.fn.entries
