-- `plan_purge::purge_core` meets its contract: refused, or carried out on the partition that it is admitted to.
-- Assumes nothing.
use Rattle.std.proofs.lemmas.Result.{err_from_is_err_and}
use Rattle.rules.specs.Manager.{manager_in}
use Rattle.txn_find.proofs.Laws.Places.{sized}
use Rattle.txn.proofs.Laws.Records.{parts-sound-is}
use Rattle.plan_purge.specs.Purge.{purge_plan}
use Rattle.plan_purge.proofs.purge_core.Goals as goal

pub returns-in_err-q : goal.returns-in_err-q
unfolding purge_plan
returns-in_err-q c = let s = c.args.state in
    let why = err_from_is_err_and c.from_residual.result c.from_residual.ensures.1 in
    rw (
      ← parts-sound-is (manager_in s) c.args.rest (sized s c.well_formed.0) c.parts_sound-sound.ensures,
      ← c.in_err-q.ensures,
      why.1,
      why.2,
    )

pub returns : goal.returns
unfolding purge_plan
returns c = let s = c.args.state in
    rw (
      ← parts-sound-is (manager_in s) c.args.rest (sized s c.well_formed.0) c.parts_sound-sound.ensures,
      ← c.in_ok-q.ensures,
      c.purge_at.ensures,
    )
