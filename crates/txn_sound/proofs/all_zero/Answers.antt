-- Assumes nothing.
use Rattle.std.proofs.Common.{◌∙◌, sym, ap, refl, ◌&&◌, eqb, get_or, arith}
use Rattle.lists.proofs.Laws.Bools.{and-true}
use Rattle.lists.proofs.Laws.Places.{all_end}
use Rattle.txn_sound.proofs.Laws.Joined.{joined-next, joined_word}
use Rattle.txn_sound.proofs.all_zero.Goals as goal

pub loop-x-preserved : goal.loop-x-preserved
loop-x-preserved c = let l = c.loop-x in let xs = c.args.xs.now in
    l.invariant ∙ joined-next (eqb 0) xs _ refl 0 l.x-index (eqb l.left 0) _ (omega arith)
    (joined_word l.left (get_or xs l.x-index 0))

pub returns : goal.returns
returns c = let l = c.loop-x in let xs = c.args.xs.now in
    sym (l.invariant ∙ ap (λ b. eqb l.left 0 && b) (all_end xs _ refl (eqb 0) l.x-index (omega arith)) ∙ and-true _)
