-- `store::roll_back` meets its contract: the manager's part first, then the partitions, if it was accepted.
-- Assumes nothing.
use Rattle.store.proofs.Laws.Write.{state_8, totals_8}
use Rattle.store.proofs.Laws.RollBack.{roll-back-left}
use Rattle.store.proofs.roll_back.Goals as goal

pub returns : goal.returns
returns c = let a = c.args in
    rw (c.rewrite_done.ensures, c.roll_back_core-next.ensures, c.rest_of-r.ensures, c.ask_roll_back-asked.ensures)
    (roll-back-left a.state (state_8 a.state _ c.well_formed.0) (totals_8 a.state _ c.well_formed.0) a.entries.now
    a.rows.now a.a _ _ _
    (rw (
      c.goes_on-go.ensures,
      c.roll_back_core-next.ensures,
      c.rest_of-r.ensures,
      c.ask_roll_back-asked.ensures,
    ) at c.roll_lots-partitions.ensures))
