-- The search goes through the places in use.
-- Assumes nothing.
use Rattle.std.proofs.Common.{◌≡◌, ◌-◌, min, take, rules, tests, arith}
use Rattle.std.proofs.lemmas.Iterator.{YieldsList-from_slice}
use Rattle.std.proofs.lemmas.Iterator.Search.{position_from_yields_List}
use Rattle.lists.proofs.Laws.Places.{take-used}
use Rattle.rules.specs.Limits.{readers_max}
use Rattle.rules.specs.Manager.{has_ticket}
use Rattle.txn_find.specs.Find.{reader_at}
use Rattle.txn_find.proofs.Laws.Places.{readers_32}
use Rattle.txn_find.proofs.find_reader.Goals as goal

pub returns : goal.returns
unfolding reader_at
returns c = let ps = c.args.ps in let n : c.min-n.result - 0 ≡ min ps.count readers_max = omega arith in
    rw (← take-used ps.at ps.count readers_max (readers_32 ps _ c.well_formed.0), ← n)
    (position_from_yields_List (has_ticket c.args.t) _ _ _ c.position.ensures.ran
    (YieldsList-from_slice (take (c.min-n.result - 0) ps.at) (cc)) (λ x b q k. search (rules, tests)))
