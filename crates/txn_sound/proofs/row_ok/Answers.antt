-- Assumes nothing.
use Rattle.std.proofs.Common.{◌∙◌, ◌+◌, refl, sym, take, eqb, length-take, arith}
use borrow.Author.Tests.{le-ltb, ne_eqb}
use Rattle.lists.proofs.Laws.Bools.{and-false}
use Rattle.lists.proofs.Laws.Branches.{tests}
use Rattle.lists.proofs.Laws.Places.{from_next}
use Rattle.txn_sound.specs.Sound.{row_ok}
use Rattle.txn_sound.proofs.Laws.Row.{below, below_next, row-well, row-ill}
use Rattle.txn_sound.proofs.row_ok.Goals as goal
use Rattle.txn_sound.proofs.row_ok.Goals.{then-d-lo, else-d-lo}
use Rattle.txn_sound.proofs.row_ok.Goals.{then-bad-eq0+then-n-eq0, then-bad-eq0+else-n-eq0, else-bad-eq0}

pub returns-then-k-gt-DEPS_MAX : goal.returns-then-k-gt-DEPS_MAX
unfolding row_ok
returns-then-k-gt-DEPS_MAX c = search tests

pub loop-d-init : goal.loop-d-init
loop-d-init c = record { told = refl; few = omega arith }

pub overflow_add-bad : goal.overflow_add-bad
overflow_add-bad c = let few = c.loop-d.invariant.few in omega (arith, length-take c.min-n.result c.args.row.now)

pub loop-d-preserved : goal.loop-d-preserved
loop-d-preserved c = let l = c.loop-d in let xs = take c.min-n.result c.args.row.now in let e = c.args.epoch in
    let few = l.invariant.few in elim c.if-d-lo.branch [
      | then-d-lo w ↦ record {
        told = l.invariant.told ∙ rw (
          from_next xs 0 l.d-index c.loop-d-test.true,
          w.bad-is,
          le-ltb l.lo _ w.if-d-lo.true,
          and-false (below l.d-index l.lo e),
          and-false (eqb l.bad 0),
          ne_eqb (l.bad + 1) 0 (λ z. omega arith),
        );
        few = omega (arith, w.bad-is);
      }
      | else-d-lo w ↦ record {
        told = l.invariant.told ∙ rw (
          from_next xs 0 l.d-index c.loop-d-test.true,
          w.bad-is,
          w.lo-is,
          below_next l.d-index l.lo _ e _ w.if-d-lo.false,
        );
        few = omega (arith, w.bad-is);
      }
    ]

pub returns-then-lo-epoch : goal.returns-then-lo-epoch
returns-then-lo-epoch c = let a = c.args in let l = c.loop-d in
    c.all_zero.ensures ∙ sym (row-well a.lse a.epoch a.k c.min-n.result a.row.now c.if-k-gt-DEPS_MAX.false
    c.min-n.ensures l.lo l.bad l.d-index l.invariant.told l.auto.d-index-end c.loop-d-test.false c.if-lo-epoch.either)

pub returns-else-lo-epoch : goal.returns-else-lo-epoch
returns-else-lo-epoch c = let a = c.args in let l = c.loop-d in
    let no = row-ill a.lse a.epoch a.k c.min-n.result a.row.now c.if-k-gt-DEPS_MAX.false
    c.min-n.ensures l.lo l.bad l.d-index l.invariant.told l.auto.d-index-end c.loop-d-test.false c.if-lo-epoch.either in
    cc
