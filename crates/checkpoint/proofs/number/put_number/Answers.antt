-- `put_number` meets its contract: the low bytes, written over those that stand there.
-- Assumes nothing.
use Prim.Native.Nat.{◌+◌, ◌-◌}
use Rattle.std.proofs.Common.{arith}
use Rattle.lists.proofs.Laws.Over.{put-over}
use Rattle.laws.proofs.Laws.Bytes.{length-bytes_of}
use Rattle.checkpoint.proofs.Laws.Numbers.{low_bytes}
use Rattle.checkpoint.proofs.number.put_number.Goals as goal

pub returns : goal.returns
returns c = let a = c.args in let r = c.requires in
    rw (c.copy_from_slice.ensures.after, c.to_le_bytes.ensures, low_bytes a.size a.x r.1)
    (put-over a.at (a.at + a.size - a.at) _ a.out.now (omega (arith, length-bytes_of a.size a.x)))
