-- Soundness; then the transaction is closed, if it is open.
-- Assumes nothing.
use Rattle.std.proofs.Common.{◌≡◌}
use Rattle.lists.proofs.Laws.Bools.{and_right}
use Rattle.lists.proofs.Laws.Branches.{said}
use Rattle.rules.specs.Calls.{close_answer}
use Rattle.rules.specs.Manager.{manager_in}
use Rattle.rules.specs.WellFormed.{manager_ok}
use Rattle.txn_find.proofs.Laws.Places.{sized}
use Rattle.txn.proofs.Laws.Records.{writers-tidy, parts-sound-is}
use Rattle.txn_close.proofs.Laws.Close.{ended_is}
use Rattle.txn_close.proofs.closed.Goals as goal

pub close_at-e-requires : goal.close_at-e-requires
close_at-e-requires c = let s = c.args.state in let z = sized s c.well_formed.0 in
    let sound = parts-sound-is (manager_in s) c.args.rest z c.parts_sound.ensures in
    writers-tidy (manager_in s) (and_right c.args.rest (manager_ok (manager_in s)) (said sound c.if-parts_sound.true)) z

pub returns-then-parts_sound : goal.returns-then-parts_sound
unfolding close_answer
returns-then-parts_sound c = let s = c.args.state in let z = sized s c.well_formed.0 in
    let sound = parts-sound-is (manager_in s) c.args.rest z c.parts_sound.ensures in
    rw (c.close_at-e.ensures.0, c.close_at-e.ensures.1)
    (ended_is s z c.args.rest (said sound c.if-parts_sound.true) c.args.i c.args.waits)

pub returns-else-parts_sound : goal.returns-else-parts_sound
unfolding close_answer
returns-else-parts_sound c = let s = c.args.state in let z = sized s c.well_formed.0 in
    let sound = parts-sound-is (manager_in s) c.args.rest z c.parts_sound.ensures in
    rw (said sound c.if-parts_sound.false)
