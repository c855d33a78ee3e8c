-- `plan_write::append_core` meets its contract: refused, or carried out on the partition that it is admitted to, where
-- the transaction is found.
-- Assumes nothing.
use Rattle.std.proofs.lemmas.Result.{err_from_is_err_and}
use Rattle.rules.specs.Manager.{manager_in}
use Rattle.txn_find.proofs.Laws.Find.{writer-stands, writer-none}
use Rattle.txn_find.proofs.Laws.Places.{sized}
use Rattle.txn.proofs.Laws.Records.{parts-sound-is}
use Rattle.plan_write.specs.Write.{append_write}
use Rattle.plan_write.proofs.append_core.Goals as goal

pub returns-in_err-q : goal.returns-in_err-q
unfolding append_write
returns-in_err-q c = let s = c.args.state in
    let p = err_from_is_err_and c.from_residual.result c.from_residual.ensures.1 in
    rw (
      ← parts-sound-is (manager_in s) c.args.rest (sized s c.well_formed.0) c.parts_sound-sound.ensures,
      ← c.admit.ensures,
      c.in_err-q.was,
    )
    (rw (p.1, p.2))

pub returns-in_default : goal.returns-in_default
unfolding append_write
returns-in_default c = let s = c.args.state in
    rw (
      ← parts-sound-is (manager_in s) c.args.rest (sized s c.well_formed.0) c.parts_sound-sound.ensures,
      ← c.admit.ensures,
      c.in_ok-q.was,
      (writer-none (manager_in s) _ c.find_writer.ensures c.in_default.is).any,
    )

pub returns : goal.returns
unfolding append_write
returns c = let s = c.args.state in let z = sized s c.well_formed.0 in
    rw (
      ← parts-sound-is (manager_in s) c.args.rest z c.parts_sound-sound.ensures,
      ← c.admit.ensures,
      c.in_ok-q.was,
      (writer-stands (manager_in s) _ z c.find_writer.ensures c.in-Some.is).any,
    )
    c.append_at.ensures
