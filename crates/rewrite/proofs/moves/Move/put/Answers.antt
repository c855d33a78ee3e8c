-- `rewrite::moves::Move::put` meets its contract, entry by entry.
-- Assumes nothing.
use Rattle.std.proofs.Common.{◌+◌, refl, sym, ◌∙◌, arith}
use Rattle.std.proofs.Math.Nat.{add-zero}
use Rattle.std.proofs.lemmas.List.{at_drop_all}
use Rattle.rewrite.specs.Move.{puts_from}
use Rattle.rewrite.proofs.Laws.Move.{puts_next}
use Rattle.rewrite.proofs.moves.Move.put.Goals as goal

pub loop-i-init : goal.loop-i-init
loop-i-init c = rw (c.entries-e-items.ensures.value, add-zero c.args.self.now.entry) refl

pub loop-i-preserved : goal.loop-i-preserved
loop-i-preserved c = let l = c.loop-i in
    l.invariant ∙ rw (c.append_entry.ensures, c.saturating_add.ensures)
    (puts_next c.args.self.now.entry l.i _ c.entries-e-items.result.now l.entries c.loop-i-test.true
    (omega (arith, c.well_formed)))

pub returns : goal.returns
unfolding puts_from
returns c = let l = c.loop-i in
    sym (l.invariant ∙ at_drop_all (λ xs. puts_from (c.args.self.now.entry + l.i) xs l.entries)
    c.entries-e-items.result.now l.i c.loop-i-test.false)
