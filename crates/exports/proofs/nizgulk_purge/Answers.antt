-- `exports::nizgulk_purge` meets its contract: the part in force is the place of the partition's rows.
-- Assumes nothing.
use Rattle.store.specs.Kept.{store_of}
use Rattle.store.proofs.Laws.Write.{state_8}
use Rattle.exports.proofs.Laws.Words.{purges}
use Rattle.exports.proofs.nizgulk_purge.Goals as goal

pub returns : goal.returns
returns c = let a = c.args in
    rw c.reply_to_purge.ensures
    (purges (store_of a.state a.rows.now a.entries.now) (state_8 a.state _ c.well_formed.0) c.purge-k.result _ _ a.p
    c.purge-k.ensures)
