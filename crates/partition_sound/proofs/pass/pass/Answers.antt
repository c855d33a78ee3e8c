-- `pass` meets its contract: it has the shape of shapes' Folds.antt.
-- Assumes nothing.
use Rattle.std.proofs.Common.{rules, ◌∙◌, get_or}
use Rattle.lent.specs.Entries.{none}
use Rattle.partition_sound.specs.Pass.{step_of}
use Rattle.shapes.proofs.Folds.{fold_indexes}
use Rattle.partition_sound.proofs.pass.pass.Goals as goal

pub returns : goal.returns
returns c = let a = c.args in let es = a.entries.now in let f = step_of a.epochs.now a.c in
    let w = c.fold.ensures.runs in
    w.3 (λ t j. f t (get_or es j none)) (λ t j r f' k. search rules)
    ∙ fold_indexes f a.start es a.from a.to w.0 w.1 w.2
