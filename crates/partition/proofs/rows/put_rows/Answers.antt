-- Assumes nothing.
use Rattle.std.proofs.Common.{◌≡◌, ◌+◌, ◌∙◌, ◌<◌, length, sym, ap, take, get_or, set, add-one, arith}
use lib.Seq.{take-suc, take-length, length-take-le}
use borrow.Author.Tests.{le-leb}
use Rattle.lists.specs.Lists.{over}
use Rattle.lists.proofs.Laws.Over.{over-nil, over-push}
use Rattle.partition.specs.Rows.{put_rows}
use Rattle.partition.proofs.rows.put_rows.Goals as goal

pub loop-j-init : goal.loop-j-init
loop-j-init c = sym (over-nil c.args.at c.args.rows.now)

pub loop-j-preserved : goal.loop-j-preserved
loop-j-preserved c = let l = c.loop-j in let a = c.args in let vs = a.batch.now in let x = get_or vs l.j 0 in
    let h : l.j < length vs = omega arith in
    let n : length (take l.j vs) ≡ l.j = length-take-le l.j vs (omega arith) in
    rw (l.invariant, add-one l.j, take-suc vs l.j 0 h)
    (ap (λ k. set (over a.at (take l.j vs) a.rows.now) (a.at + k) x) (sym n)
    ∙ over-push a.at (take l.j vs) x a.rows.now (omega arith))

pub returns : goal.returns
unfolding put_rows
returns c = let a = c.args in let all : c.loop-j.j ≡ length a.batch.now = omega arith in
    rw (
      c.loop-j.invariant,
      all,
      take-length a.batch.now,
      le-leb (a.at + length a.batch.now) (length a.rows.now) (omega arith),
    )
