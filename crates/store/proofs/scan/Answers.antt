-- `store::scan` meets its contract: what is planned, and then written, is what step leaves.
-- Assumes nothing.
use Rattle.std.proofs.Common.{sym, ◌∙◌, subst}
use Rattle.rules.specs.Step.{step, scan}
use Rattle.store.specs.Kept.{store_of}
use Rattle.store.proofs.Laws.Write.{state_8}
use Rattle.store.proofs.Laws.Scan.{Leaves, scan-left}
use Rattle.store.proofs.scan.Goals as goal

pub returns-in-Ok : goal.returns-in-Ok
returns-in-Ok c = let a = c.args in let st = store_of a.state a.rows.now a.entries.now in let lent = a.bitmap.now in
    let plan = rw (c.load-lot.ensures, c.rest_ok-rest.ensures, c.ask-a.ensures) at c.scan_core.ensures in
    rw c.write_bits.ensures
    (subst (Leaves lent st (step (scan a.reader a.p lent) st)) (sym plan ∙ c.in-Ok.is)
    (scan-left a.state (state_8 a.state _ c.well_formed.0) a.entries.now a.rows.now lent a.p a.reader))

pub returns-in-Err : goal.returns-in-Err
returns-in-Err c = let a = c.args in let st = store_of a.state a.rows.now a.entries.now in let lent = a.bitmap.now in
    let plan = rw (c.load-lot.ensures, c.rest_ok-rest.ensures, c.ask-a.ensures) at c.scan_core.ensures in
    subst (Leaves lent st (step (scan a.reader a.p lent) st)) (sym plan ∙ c.in-Err.is)
    (scan-left a.state (state_8 a.state _ c.well_formed.0) a.entries.now a.rows.now lent a.p a.reader)
