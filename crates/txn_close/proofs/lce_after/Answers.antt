-- Assumes nothing.
use Rattle.std.proofs.Common.{◌≡◌, ◌∙◌, refl, sym, false, not, cond, ◌&&◌, eqb, take, get_or}
use lib.ListN.{drop_of_length-le}
use borrow.Author.Tests.{eq-eqb, ne_eqb}
use Rattle.lists.proofs.Laws.Places.{from_next, take-used}
use Rattle.rules.specs.Limits.{writers_max}
use Rattle.rules.specs.Manager.{no_rw}
use Rattle.txn_find.proofs.Laws.Places.{writers_32}
use Rattle.txn_close.proofs.Laws.Settle.{lce-after-nil, lce-after-cons}
use Rattle.txn_close.proofs.lce_after.Goals as goal
use Rattle.txn_close.proofs.lce_after.Goals.{else-t-eq0-via-then-t-eq0+else-t-i, else-t-eq0-via-else-t-eq0}
use Rattle.txn_close.proofs.lce_after.Goals.{then-t-eq0-2+then-not-waits, else-t-eq0-2}
use Rattle.txn_close.proofs.lce_after.Goals.{else-t-eq0-2-via-then-t-eq0-2+else-not-waits}
use Rattle.txn_close.proofs.lce_after.Goals.{else-t-eq0-2-via-else-t-eq0-2}

pub loop-t-init : goal.loop-t-init
loop-t-init c = refl

pub returns-then-t-i : goal.returns-then-t-i
returns-then-t-i c = let ts = c.args.ts in let xs = take c.min-n.result ts.at in let l = c.loop-t in
    let e : xs ≡ take ts.count ts.at =
    rw c.min-n.ensures (take-used ts.at ts.count writers_max (writers_32 ts _ c.well_formed.1.0)) in
    rw (← e) (sym (l.invariant ∙ rw (
      from_next xs no_rw l.t-index c.loop-t-test.true,
      lce-after-cons,
      eq-eqb _ _ c.if-t-eq0.true,
      ne_eqb _ _ c.if-t-i.true,
    )))

pub loop-t-preserved : goal.loop-t-preserved
loop-t-preserved c = let a = c.args in let xs = take c.min-n.result a.ts.at in let l = c.loop-t in
    let t = get_or xs l.t-index no_rw in
    let same : eqb t.waiting 0 && not (eqb t.epoch a.i) ≡ false = elim c.else-t-eq0.branch [
      | else-t-eq0-via-then-t-eq0+else-t-i w ↦ rw (eq-eqb _ _ w.if-t-eq0.true, eq-eqb _ _ w.if-t-i.false)
      | else-t-eq0-via-else-t-eq0 w ↦ rw (ne_eqb _ _ w.if-t-eq0.false)
    ] in
    let past : c.if-t-eq0-2.last ≡ cond (eqb t.waiting 0 && not a.waits) l.last t.epoch = elim c.if-t-eq0-2.branch [
      | then-t-eq0-2+then-not-waits w ↦ rw (w.last-is, eq-eqb _ _ w.if-t-eq0-2.true, w.if-not-waits.true)
      | else-t-eq0-2 w ↦ elim w.else-t-eq0-2.branch [
        | else-t-eq0-2-via-then-t-eq0-2+else-not-waits v ↦
            rw (w.last-is, eq-eqb _ _ v.if-t-eq0-2.true, v.if-not-waits.false)
        | else-t-eq0-2-via-else-t-eq0-2 v ↦ rw (w.last-is, ne_eqb _ _ v.if-t-eq0-2.false)
      ]
    ] in
    l.invariant ∙ rw (from_next xs no_rw l.t-index c.loop-t-test.true, lce-after-cons, same, past)

pub returns : goal.returns
returns c = let ts = c.args.ts in let xs = take c.min-n.result ts.at in let l = c.loop-t in
    let e : xs ≡ take ts.count ts.at =
    rw c.min-n.ensures (take-used ts.at ts.count writers_max (writers_32 ts _ c.well_formed.1.0)) in
    rw (← e) (sym (l.invariant ∙ rw (drop_of_length-le xs c.loop-t-test.false, lce-after-nil)))
