-- The output, and where the next rows go, are as the partitions below p leave them. Assumes nothing.
use Rattle.std.proofs.Common.{◌≡◌}
use Rattle.plan_save.specs.Save.{put_to, lots_put}
use Rattle.plan_save.proofs.put_lots.Given as goal

abbrev pub invariant-loop-p : goal.invariant-loop-p
invariant-loop-p l = put_to l.at l.out ≡ lots_put l.bases l.ws l.rows (put_to l.fn.start l.fn.out) l.p
