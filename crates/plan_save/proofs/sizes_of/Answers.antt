-- Assumes nothing.
use Rattle.std.proofs.Common.{arith, ◌≡◌, refl, ◌∙◌, ap}
use Rattle.rules.specs.Limits.{partitions_max}
use Rattle.rules.specs.Checkpoint.{sum_of}
use Rattle.laws.proofs.Laws.Each.{filled_none, filled_next, filled-all}
use Rattle.plan_save.specs.Runs.{runs_in, size_of, counts_of}
use Rattle.plan_save.proofs.Laws.Words.{size_at, size_below, below_next, below_all, own-part, own-length}
use Rattle.plan_save.proofs.sizes_of.Goals as goal

pub loop-p-init : goal.loop-p-init
unfolding size_below
loop-p-init c = (omega arith, refl, filled_none _ _ _ refl)

pub size_of-n-requires : goal.size_of-n-requires
size_of-n-requires c = let ws = c.args.ws.now in rw (own-part ws c.loop-p.p) (own-length ws c.loop-p.p)

pub loop-p-preserved : goal.loop-p-preserved
loop-p-preserved c = let l = c.loop-p in let s = c.size_of-n.ensures in let ws = c.args.ws.now in
    let e : c.size_of-n.result ≡ size_at ws l.p = s.0 ∙ ap (λ xs. size_of (runs_in xs)) (own-part ws l.p) in
    let n = below_next ws l.p in
    (omega arith, omega arith, filled_next _ _ l.counts l.p _ (omega arith) e l.invariant.2)

pub returns : goal.returns
unfolding counts_of
returns c = let l = c.loop-p in let ws = c.args.ws.now in let all : l.p ≡ partitions_max = omega arith in
    let a : l.counts ≡ counts_of ws = filled-all _ _ l.counts (rw all at l.invariant.2) in
    let b : l.rows ≡ sum_of (counts_of ws) = (rw all at l.invariant.1) ∙ below_all ws in
    ((λ j. record { counts = a j; rows = b j }), omega arith)
