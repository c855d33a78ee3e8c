-- `totals::clearing::find` meets its contract: it has the shape of shapes' Folds.antt.
-- Assumes nothing.
use Rattle.std.proofs.Common.{rules, ◌∙◌, get_or}
use Rattle.lent.specs.Entries.{none}
use Rattle.totals.specs.Reach.{top_turn}
use Rattle.shapes.proofs.Folds.{fold_indexes}
use Rattle.totals.proofs.clearing.find.Goals as goal

pub returns : goal.returns
returns c = let a = c.args in let es = a.entries.now in let w = c.fold.ensures.runs in
    w.3 (λ t j. top_turn a.r t (get_or es j none)) (λ t j r f' k. search rules)
    ∙ fold_indexes (top_turn a.r) a.start es a.from a.to w.0 w.1 w.2
