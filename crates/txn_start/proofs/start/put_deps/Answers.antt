-- Assumes nothing.
use Rattle.std.proofs.Common.{◌≡◌, ◌∙◌, ◌<◌, ◌*◌, ◌+◌, take, length, arith}
use lib.ListN.{length-take}
use lib.Seq.{take_all}
use borrow.Author.Tests.{eq-eqb, ne_eqb}
use Rattle.rules.specs.Limits.{deps_max}
use Rattle.txn_start.proofs.Laws.Begin.{filled_none, fill, pass}
use Rattle.txn_start.proofs.start.put_deps.Goals as goal
use Rattle.txn_start.proofs.start.put_deps.Goals.{then-open, else-open}

pub loop-t-init : goal.loop-t-init
loop-t-init c = record { few = omega arith; filled = filled_none _ _ _ }

pub overflow_add-deps : goal.overflow_add-deps
overflow_add-deps c = let f = c.loop-t.invariant.few in omega (arith, length-take c.args.ts.count c.args.ts.at)

pub offset_bounds-deps-from : goal.offset_bounds-deps-from
offset_bounds-deps-from c = let f = c.loop-t.invariant.few in omega (arith, length-take c.args.ts.count c.args.ts.at)

pub bounds-deps-from : goal.bounds-deps-from
bounds-deps-from c = let f = c.loop-t.invariant.few in omega (arith, length-take c.args.ts.count c.args.ts.at)

pub overflow_add-k : goal.overflow_add-k
overflow_add-k c = let f = c.loop-t.invariant.few in omega (arith, length-take c.args.ts.count c.args.ts.at)

pub loop-t-preserved : goal.loop-t-preserved
loop-t-preserved c = let l = c.loop-t in let ts = c.args.ts in let f = l.invariant.few in
    let room : deps_max * ts.count + l.k < length c.args.deps.now =
    omega (arith, length-take ts.count ts.at, c.requires.1) in elim c.if-open.branch [
      | then-open w ↦ rw (w.deps-is, w.k-is) (record {
        few = omega arith;
        filled = fill l.invariant.filled c.loop-t-test.true (eq-eqb _ _ w.if-open.true) room;
      })
      | else-open w ↦ rw (w.deps-is, w.k-is) (record {
        few = omega arith;
        filled = pass l.invariant.filled c.loop-t-test.true (ne_eqb _ _ w.if-open.false);
      })
    ]

pub returns : goal.returns
returns c = let l = c.loop-t in let xs = take c.args.ts.count c.args.ts.at in
    let all : take l.t-index xs ≡ xs = take_all l.t-index xs c.loop-t-test.false in
    (l.invariant.filled.used ∙ rw all, l.invariant.filled.held ∙ rw all)
