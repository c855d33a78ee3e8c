-- Assumes nothing.
use Rattle.std.proofs.Common.{arith, ap}
use lib.ListN.{drop_of_length-le}
use Rattle.plan_save.specs.Runs.{runs_in, size_of}
use Rattle.plan_save.proofs.Laws.Words.{size-next, size_stop, size_none}
use Rattle.plan_save.proofs.size_of.Goals as goal

pub loop-w-preserved : goal.loop-w-preserved
loop-w-preserved c = let l = c.loop-w in let k = c.width_in-k.ensures in
    let z = size-next c.args.ws.now l.w-index (omega arith) (omega arith) in (omega arith, omega arith)

pub returns-then-k-eq0 : goal.returns-then-k-eq0
returns-then-k-eq0 c = let l = c.loop-w in let k = c.width_in-k.ensures in
    let z = size_stop c.args.ws.now l.w-index (omega arith) (omega arith) in (omega arith, omega arith)

pub returns-after-loop-w : goal.returns-after-loop-w
returns-after-loop-w c = let l = c.loop-w in
    let z = ap (λ xs. size_of (runs_in xs)) (drop_of_length-le c.args.ws.now {i = l.w-index} (omega arith)) in
    (omega (arith, size_none), omega arith)
