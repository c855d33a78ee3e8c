-- Assumes nothing.
use Rattle.std.proofs.Common.{◌∙◌, ℕ, ◌-◌, min, rules, tests}
use Rattle.std.proofs.lemmas.Iterator.{YieldsList-from_slice}
use Rattle.std.proofs.lemmas.Iterator.Consumers.{fold_from_yields_List}
use Rattle.txn_safe.proofs.Laws.Rows.{lowest-fold}
use Rattle.txn_safe.proofs.under_row.Goals as goal

pub returns : goal.returns
returns c = fold_from_yields_List _ (λ (low d : ℕ). min low (d - 1)) c.args.top _ c.fold.ensures.ran
    (YieldsList-from_slice c.args.row.now (cc)) (λ a x b q k. search (rules, tests))
    ∙ lowest-fold (λ (d : ℕ). d - 1) c.args.top c.args.row.now
