-- Assumes nothing.
use Rattle.rules.specs.Limits.{deps_all}
use Rattle.txn.proofs.Laws.Cut.{cut-padded}
use Rattle.txn_close.proofs.close.cut_words.Goals as goal

pub returns : goal.returns
returns c = let a = c.args in let p = c.requires.a_le_b in
    (cut-padded 0 a.deps.now deps_all a.n a.a a.b _ p.3 p.0 p.1 p.2 c.requires.deps_value c.cut.ensures).0
