-- Assumes nothing.
use Rattle.std.proofs.Common.{arith, length, ◌∙◌}
use borrow.Author.Tests.{le-leb}
use Rattle.rules.specs.Checkpoint.{header_size}
use Rattle.checkpoint.specs.Rows.{header_put}
use Rattle.checkpoint.proofs.Laws.Numbers.{write-behind}
use Rattle.checkpoint.proofs.write.put_header.Goals as goal

pub returns-then-out-ge-HEADER_SIZE : goal.returns-then-out-ge-HEADER_SIZE
unfolding header_put
returns-then-out-ge-HEADER_SIZE c = let a = c.args in
    rw (le-leb header_size (length a.out.now) (omega arith))
    ((rw c.put_number.ensures at c.put_counts.ensures)
    ∙ write-behind 8 2 0 a.epoch a.counts a.out.now (omega arith))
