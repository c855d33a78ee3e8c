-- What is found of the partitions below p.
-- Assumes nothing.
use Rattle.std.proofs.Common.{◌≡◌, length}
use Rattle.partition_sound.specs.Rest.{begins, landed_below}
use Rattle.partition_sound.proofs.Laws.Rest.{ok_up_to}
use Rattle.partition_sound.proofs.rest_of.Given as goal

abbrev pub invariant-loop-p : goal.invariant-loop-p
invariant-loop-p l =
    (l.ok ≡ ok_up_to l.entries l.rows l.fn.a (begins (length l.entries) (length l.rows) l.fn.a.partitions) l.p)
    × (l.after ≡ landed_below l.entries l.rows l.fn.a l.p)
