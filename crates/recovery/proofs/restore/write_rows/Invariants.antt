-- The rows of the partitions below p are written. Assumes nothing.
use Rattle.std.proofs.Common.{◌≡◌}
use Rattle.recovery.specs.Restore.{rows_restored}
use Rattle.recovery.proofs.restore.write_rows.Given as goal

abbrev pub invariant-loop-p : goal.invariant-loop-p
invariant-loop-p l = l.rows ≡ rows_restored l.file l.w l.p l.fn.rows
