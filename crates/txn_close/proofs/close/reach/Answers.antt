-- Assumes nothing.
use Rattle.std.proofs.Common.{◌≡◌, ◌∙◌, refl, take, arith}
use native.Mathlib.Nat.{add-zero}
use lib.ListN.{length-take, drop_of_length-le}
use borrow.Author.Tests.{eq-eqb, ne_eqb}
use Rattle.lists.proofs.Laws.Places.{from_next, take-used}
use Rattle.rules.specs.Limits.{writers_max}
use Rattle.rules.specs.Manager.{no_rw}
use Rattle.txn_find.proofs.Laws.Places.{writers_32}
use Rattle.txn_close.proofs.close.reach.Goals as goal

pub loop-k-init : goal.loop-k-init
loop-k-init c = record { lce = refl; count = omega arith; oldest = refl }

pub returns-then-t-eq0 : goal.returns-then-t-eq0
returns-then-t-eq0 c = let ts = c.args.ts in let xs = take c.min-n.result ts.at in let l = c.loop-k in
    let e : xs ≡ take ts.count ts.at =
    rw c.min-n.ensures (take-used ts.at ts.count writers_max (writers_32 ts _ c.well_formed.0)) in
    rw (
      ← e,
      l.invariant.lce,
      l.invariant.count,
      l.invariant.oldest,
      from_next xs no_rw l.k c.loop-k-test.true,
      eq-eqb _ _ c.if-t-eq0.true,
      add-zero,
    )

pub loop-k-preserved : goal.loop-k-preserved
loop-k-preserved c = let xs = take c.min-n.result c.args.ts.at in let l = c.loop-k in
    let next = from_next xs no_rw l.k c.loop-k-test.true in record {
      lce = l.invariant.lce ∙ rw (next, ne_eqb _ _ c.if-t-eq0.false);
      count = l.invariant.count ∙ rw (next, ne_eqb _ _ c.if-t-eq0.false) (omega arith);
      oldest = l.invariant.oldest ∙ rw (next, ne_eqb _ _ c.if-t-eq0.false);
    }

pub returns : goal.returns
returns c = let ts = c.args.ts in let xs = take c.min-n.result ts.at in let l = c.loop-k in
    let e : xs ≡ take ts.count ts.at =
    rw c.min-n.ensures (take-used ts.at ts.count writers_max (writers_32 ts _ c.well_formed.0)) in
    let n : l.k ≡ c.min-n.result =
    omega (arith, length-take c.min-n.result ts.at, writers_32 ts _ c.well_formed.0) in
    rw (
      ← e,
      l.invariant.lce,
      l.invariant.count,
      l.invariant.oldest,
      drop_of_length-le xs c.loop-k-test.false,
      add-zero,
      n,
    )
