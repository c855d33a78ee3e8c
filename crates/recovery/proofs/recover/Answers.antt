-- `recovery::recover` meets its contract: what is found in the file, and then written, is what step leaves.
-- Assumes nothing.
use Rattle.std.proofs.Common.{sym, ◌∙◌, subst}
use Rattle.store.specs.Kept.{store_of}
use Rattle.rules.specs.Step.{step, recover}
use Rattle.recovery.proofs.Laws.Restore.{Leaves, recover-left}
use Rattle.recovery.proofs.recover.Goals as goal

pub returns-in-Ok : goal.returns-in-Ok
returns-in-Ok c = let a = c.args in let es = a.entries.now in let rs = a.rows.now in let file = a.file.now in
    let st = store_of a.state rs es in
    rw (c.books_of.ensures, c.write_rows.ensures, c.put_entries.ensures)
    (subst (Leaves a.state es rs file (step (recover file) st)) (sym c.recover_core.ensures ∙ c.in-Ok.is)
    (recover-left a.state es rs file))

pub returns-in-Err : goal.returns-in-Err
returns-in-Err c = let a = c.args in let es = a.entries.now in let rs = a.rows.now in let file = a.file.now in
    let st = store_of a.state rs es in
    subst (Leaves a.state es rs file (step (recover file) st)) (sym c.recover_core.ensures ∙ c.in-Err.is)
    (recover-left a.state es rs file)
