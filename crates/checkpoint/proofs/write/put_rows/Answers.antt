-- The rows ahead and then the rest are all of them. Assumes nothing.
use Rattle.std.proofs.Common.{arith, ◌≡◌, ◌∙◌, ◌+◌, ◌-◌}
use borrow.Author.Tests.{leb-true}
use Rattle.lists.proofs.Laws.Branches.{said}
use Rattle.checkpoint.specs.Rows.{rows_put}
use Rattle.checkpoint.proofs.Laws.Numbers.{write-rest}
use Rattle.checkpoint.proofs.write.put_rows.Goals as goal

pub returns-clause-bytes : goal.returns-clause-bytes
unfolding rows_put
returns-clause-bytes c = let a = c.args in
    let t = said c.has_room.ensures c.if-not-has_room.false in
    let u = said c.has_room-else-not-has_room.ensures c.if-not-has_room-2.false in
    let k = c.head_of-head.result in let n = a.count - k in let all : k + n ≡ a.count = omega arith in
    let f = leb-true _ _ t in let g = leb-true _ _ u in
    rw (t, u) ((rw c.copy.ensures at c.copy-2.ensures)
    ∙ (write-rest 8 k n a.at a.from a.rows.now a.out.now (rw all f) (rw all g) ∙ rw all))
