-- `recovery::save` meets its contract: what is planned, and then written, is what step leaves.
-- Assumes nothing.
use Rattle.std.proofs.Common.{sym, ◌∙◌, subst}
use Rattle.store.proofs.Laws.Write.{state_8}
use Rattle.store.specs.Kept.{store_of}
use Rattle.rules.specs.Step.{step, save}
use Rattle.recovery.proofs.Laws.Save.{Leaves, save-left}
use Rattle.recovery.proofs.save.Goals as goal

pub returns-in-Ok : goal.returns-in-Ok
returns-in-Ok c = let a = c.args in let st = store_of a.state a.rows.now a.entries.now in let out = a.out.now in
    let eight = state_8 a.state _ c.well_formed.0 in
    let plan = rw (c.runs_of-t.ensures, c.rest_of-found.ensures, c.ask-a.ensures) at c.save_core.ensures in
    rw c.write_checkpoint.ensures
    (subst (Leaves out st (step (save a.epoch out) st)) (sym plan ∙ c.in-Ok.is)
    (save-left a.state eight a.entries.now a.rows.now out a.epoch))

pub returns-in-Err : goal.returns-in-Err
returns-in-Err c = let a = c.args in let st = store_of a.state a.rows.now a.entries.now in let out = a.out.now in
    let eight = state_8 a.state _ c.well_formed.0 in
    let plan = rw (c.runs_of-t.ensures, c.rest_of-found.ensures, c.ask-a.ensures) at c.save_core.ensures in
    subst (Leaves out st (step (save a.epoch out) st)) (sym plan ∙ c.in-Err.is)
    (save-left a.state eight a.entries.now a.rows.now out a.epoch)
