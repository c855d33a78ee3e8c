-- `store::create` meets its contract: what making new keeps is what step leaves.
-- Assumes nothing.
use Rattle.store.proofs.Laws.Kept.{create-left}
use Rattle.store.proofs.create.Goals as goal

pub returns : goal.returns
returns c = let a = c.args in
    rw (c.create_core.ensures)
    (create-left a.state a.entries.now a.rows.now a.a)
