-- Assumes nothing.
use Rattle.std.proofs.Common.{arith, ◌≡◌, refl, ap, add-one}
use Rattle.rules.specs.Limits.{partitions_max}
use Rattle.plan_save.specs.Save.{Put, lots_put}
use Rattle.plan_save.proofs.Laws.Words.{own-part}
use Rattle.plan_save.proofs.put_lots.Goals as goal

pub loop-p-init : goal.loop-p-init
unfolding lots_put
loop-p-init c = refl

pub loop-p-preserved : goal.loop-p-preserved
unfolding lots_put
loop-p-preserved c = let l = c.loop-p in let p = c.put_runs-at.ensures in
    rw (p.end, p.bytes, own-part c.args.ws.now l.p, l.invariant, add-one l.p)

pub returns : goal.returns
returns c = let l = c.loop-p in let all : l.p ≡ partitions_max = omega arith in
    ap (λ (x : Put). x.out) (rw all at l.invariant)
