-- Assumes nothing.
use Rattle.std.proofs.Common.{◌≡◌, ◌∙◌, ℕ, ◌-◌, min, take, rules, tests, arith}
use Rattle.std.proofs.lemmas.Iterator.{YieldsList-from_slice}
use Rattle.std.proofs.lemmas.Iterator.Consumers.{fold_from_yields_List}
use Rattle.lists.proofs.Laws.Places.{take-used}
use Rattle.rules.specs.Limits.{readers_max}
use Rattle.rules.specs.declared.RoTxn.{RoTxn}
use Rattle.txn_find.proofs.Laws.Places.{readers_32}
use Rattle.txn_safe.proofs.Laws.Rows.{lowest-fold}
use Rattle.txn_safe.proofs.under_readers.Goals as goal

pub returns : goal.returns
returns c = let ps = c.args.ps in let n : c.min-n.result - 0 ≡ min ps.count readers_max = omega arith in
    let used = take (c.min-n.result - 0) ps.at in
    rw (← take-used ps.at ps.count readers_max (readers_32 ps _ c.well_formed.0), ← n)
    (fold_from_yields_List _ (λ (low : ℕ) (p : RoTxn). min low p.epoch) c.args.top _ c.fold.ensures.ran
    (YieldsList-from_slice used (cc)) (λ a x b q k. search (rules, tests))
    ∙ lowest-fold (λ (p : RoTxn). p.epoch) c.args.top used)
