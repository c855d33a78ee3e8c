-- The search goes through the places in use.
-- Assumes nothing.
use Rattle.std.proofs.Common.{◌≡◌, ◌-◌, min, take, rules, tests, arith}
use Rattle.std.proofs.lemmas.Iterator.{YieldsList-from_slice}
use Rattle.std.proofs.lemmas.Iterator.Search.{position_from_yields_List}
use Rattle.lists.proofs.Laws.Places.{take-used}
use Rattle.rules.specs.Limits.{writers_max}
use Rattle.txn_find.specs.Find.{opens_at, writer_at}
use Rattle.txn_find.proofs.Laws.Places.{writers_32}
use Rattle.txn_find.proofs.find_writer.Goals as goal

pub returns : goal.returns
unfolding writer_at
returns c = let ts = c.args.ts in let n : c.min-n.result - 0 ≡ min ts.count writers_max = omega arith in
    rw (← take-used ts.at ts.count writers_max (writers_32 ts _ c.well_formed.0), ← n)
    (position_from_yields_List (opens_at c.args.i) _ _ _ c.position.ensures.ran
    (YieldsList-from_slice (take (c.min-n.result - 0) ts.at) (cc)) (λ x b q k. search (rules, tests)))
