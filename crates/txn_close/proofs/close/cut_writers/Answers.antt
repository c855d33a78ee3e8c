-- Assumes nothing.
use Rattle.rules.specs.Limits.{writers_max}
use Rattle.txn_find.proofs.Laws.Places.{writers_32, default_rw}
use Rattle.txn.proofs.Laws.Cut.{cut-padded}
use Rattle.txn_close.proofs.close.cut_writers.Goals as goal

pub returns : goal.returns
returns c = let ts = c.args.ts in let p = c.requires.a_le_b in
    cut-padded _ ts.at writers_max ts.count c.args.a c.args.b _ (writers_32 ts _ c.well_formed.0) p.0 p.1 p.2
    c.requires.at_value (rw (default_rw c.default.ensures) at c.cut.ensures)
