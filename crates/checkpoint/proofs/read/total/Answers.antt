-- Assumes nothing.
use Rattle.std.proofs.Common.{arith, ap}
use lib.Dec.{leb}
use lib.ListN.{drop_of_length-le}
use borrow.Author.Tests.{leb-true}
use Rattle.lists.proofs.Laws.Places.{all-at, from_next}
use Rattle.rules.specs.Limits.{rows_max}
use Rattle.rules.specs.Checkpoint.{sum_of}
use Rattle.checkpoint.proofs.read.total.Goals as goal

pub loop-n-preserved : goal.loop-n-preserved
loop-n-preserved c = let l = c.loop-n in let cs = c.args.counts in
    let m = leb-true _ _ (all-at (λ n. leb n rows_max) cs 0 c.requires l.n-index (omega arith)) in
    let e = ap sum_of (from_next cs 0 l.n-index (omega arith)) in (omega arith, omega arith)

pub returns : goal.returns
returns c = let l = c.loop-n in
    let e = ap sum_of (drop_of_length-le c.args.counts {i = l.n-index} (omega arith)) in (omega arith, omega arith)
