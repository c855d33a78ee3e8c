-- `rewrite::copying::copy_entries` meets its contract: the rows are copied in the entries' turns.
-- Assumes nothing.
use Rattle.std.proofs.Common.{refl, arith}
use Rattle.rewrite.proofs.Laws.Copied.{copied_none, copied-turn, copied_all}
use Rattle.rewrite.proofs.copying.copy_entries.Goals as goal

pub loop-k-init : goal.loop-k-init
loop-k-init c = copied_none c.args.ps.now c.args.es.now c.args.from c.args.to c.args.rows.now
    c.requires.0 c.requires.1 c.requires.2

pub run_of-n-requires : goal.run_of-n-requires
run_of-n-requires c = (copied-turn c.loop-k.invariant c.loop-k-test.true _ refl).begins

pub overflow_add-from : goal.overflow_add-from
overflow_add-from c = let t = copied-turn c.loop-k.invariant c.loop-k-test.true _ c.run_of-n.ensures in
    omega (arith, t.src_in, c.well_formed)

pub copy_run-requires : goal.copy_run-requires
copy_run-requires c = let t = copied-turn c.loop-k.invariant c.loop-k-test.true _ c.run_of-n.ensures in
    (omega (arith, t.src_in), omega (arith, t.dst_in))

pub loop-k-preserved : goal.loop-k-preserved
loop-k-preserved c =
    (copied-turn c.loop-k.invariant c.loop-k-test.true _ c.run_of-n.ensures).next _ c.copy_run.ensures

pub returns : goal.returns
returns c = copied_all c.loop-k.invariant c.loop-k-test.false
