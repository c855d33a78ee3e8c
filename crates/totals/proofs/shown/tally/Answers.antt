-- `totals::shown::tally` meets its contract: it has the shape of shapes' Folds.antt.
-- Assumes nothing.
use Rattle.std.proofs.Common.{rules, ◌∙◌, get_or}
use Rattle.lent.specs.Entries.{none}
use Rattle.totals.specs.Weighed.{tally_turn}
use Rattle.shapes.proofs.Folds.{fold_indexes}
use Rattle.totals.proofs.shown.tally.Goals as goal

pub returns : goal.returns
returns c = let a = c.args in let es = a.entries.now in let f = tally_turn a.rows.now a.c in
    let w = c.fold.ensures.runs in
    w.3 (λ t j. f t (get_or es j none)) (λ t j r f' k. search rules)
    ∙ fold_indexes f a.start es a.from a.to w.0 w.1 w.2
