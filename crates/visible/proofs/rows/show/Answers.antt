-- `visible::rows::show` meets its contract: the entries are laid in their turns.
-- Assumes nothing.
use Rattle.std.proofs.Common.{◌≡◌, ◌-◌, ◌∙◌, sym, length, get_or, drop, replicate, length-take, length-drop, arith}
use Rattle.std.proofs.Common.{rules}
use lib.Seq.{take_all}
use Rattle.lent.specs.Entries.{none}
use Rattle.std.proofs.lemmas.Slice.{overwrites}
use Rattle.visible.proofs.Laws.Rows.{laid_none, laid-turn, laid-all}
use Rattle.visible.proofs.rows.show.Goals as goal
use Rattle.visible.proofs.rows.show.Goals.{then-b, else-b}

pub loop-i-init : goal.loop-i-init
loop-i-init c = laid_none _ _ _ _ c.requires

pub slice_bounds-s-items-count : goal.slice_bounds-s-items-count
slice_bounds-s-items-count c = (laid-turn c.loop-i.invariant c.loop-i-test.true).low

pub slice_bounds-s-items-start : goal.slice_bounds-s-items-start
slice_bounds-s-items-start c = let h = (laid-turn c.loop-i.invariant c.loop-i-test.true).low in search rules

pub slice_bounds-s-items-end : goal.slice_bounds-s-items-end
slice_bounds-s-items-end c = let h = (laid-turn c.loop-i.invariant c.loop-i-test.true).high in search rules

pub overflow_sub-count : goal.overflow_sub-count
overflow_sub-count c = (laid-turn c.loop-i.invariant c.loop-i-test.true).low

pub overflow_add-count : goal.overflow_add-count
overflow_add-count c = let t = laid-turn c.loop-i.invariant c.loop-i-test.true in
    omega (arith, t.low, t.high, c.loop-i.invariant.few, c.well_formed)

pub loop-i-preserved : goal.loop-i-preserved
loop-i-preserved c = let t = laid-turn c.loop-i.invariant c.loop-i-test.true in let low = t.low in let high = t.high in
    t.next c.shows-b.result c.if-b.count _ c.shows-b.ensures
    (elim c.if-b.branch [
      | then-b w ↦ rw (w.count-is, w.if-b.true)
      | else-b w ↦ rw (w.count-is, w.if-b.false) (omega arith)
    ])
    (let l = c.loop-s in let from = c.loop-i.from in let shown = c.loop-i.shown in
    let k = (get_or c.args.es.now c.loop-i.i none).end - from in
    let n : length l.s-items ≡ k = omega (arith, length-take k (drop from shown), length-drop from shown) in
    let all : l.s-index ≡ length l.s-items = omega arith in
    let r : l.s-items ≡ replicate (length l.s-items) c.shows-b.result =
    sym (take_all (length l.s-items) l.s-items (omega arith)) ∙ rw all at l.invariant in
    rw (r, n) (search (rules, overwrites)))

pub returns : goal.returns
returns c = laid-all c.loop-i.invariant c.loop-i-test.false
