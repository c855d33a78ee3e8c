-- Assumes nothing.
use Rattle.rules.specs.Limits.{readers_max}
use Rattle.txn_find.proofs.Laws.Places.{readers_32, default_ro}
use Rattle.txn.proofs.Laws.Cut.{cut-padded}
use Rattle.txn_read.proofs.read_only.cut_readers.Goals as goal

pub returns : goal.returns
returns c = let ps = c.args.ps in let p = c.requires.a_le_b in
    let e = cut-padded _ ps.at readers_max ps.count c.args.a c.args.b _ (readers_32 ps _ c.well_formed.0) p.0 p.1 p.2
    c.requires.at_value (rw (default_ro c.default.ensures) at c.cut.ensures) in
    rw (e.0, e.1)
