-- Assumes nothing.
use Rattle.std.proofs.Common.{◌≡◌, ◌∙◌, ◌-◌, min, take, rules, tests, arith}
use Rattle.std.proofs.lemmas.Iterator.{YieldsList-from_slice}
use Rattle.std.proofs.lemmas.Iterator.Search.{any_from_yields_List}
use lib.Dec.{ltb}
use Rattle.lists.proofs.Laws.Places.{take-used}
use Rattle.rules.specs.Limits.{readers_max}
use Rattle.rules.specs.declared.RoTxn.{RoTxn}
use Rattle.txn_find.proofs.Laws.Places.{readers_32}
use Rattle.txn_safe.proofs.Laws.Rows.{any-is}
use Rattle.txn_safe.proofs.reader_blocks.Goals as goal

pub returns : goal.returns
returns c = let ps = c.args.ps in let n : c.min-n.result - 0 ≡ min ps.count readers_max = omega arith in
    let p = λ (x : RoTxn). ltb x.epoch c.args.t in
    rw (← take-used ps.at ps.count readers_max (readers_32 ps _ c.well_formed.0), ← n)
    (any_from_yields_List p _ _ _ c.any.ensures.ran (YieldsList-from_slice (take (c.min-n.result - 0) ps.at) (cc))
    (λ x b q k. search (rules, tests)) ∙ any-is p (take (c.min-n.result - 0) ps.at))
