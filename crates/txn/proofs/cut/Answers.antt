-- Assumes nothing.
use Rattle.std.proofs.Common.{◌≡◌, ◌∙◌, ◌-◌, ◌<◌, sym, ap, refl, ◌++◌, length}
use Rattle.std.proofs.Common.{drop, replicate, length-take, length-drop, arith, add-one}
use Rattle.std.proofs.lemmas.List.{replicate-append-replicate}
use lib.Seq.{take-suc-set, take_all}
use Rattle.txn.proofs.Laws.Cut.{cut-done}
use Rattle.txn.proofs.cut.Goals as goal

pub loop-x-init : goal.loop-x-init
loop-x-init g c = refl

pub loop-x-preserved : goal.loop-x-preserved
loop-x-preserved g c = let l = c.loop-x in let h : l.x-index < length l.x-items = omega arith in
    rw (add-one l.x-index) (take-suc-set l.x-items l.x-index c.args.none h)
    ∙ ap (λ xs. xs ++ replicate 1 c.args.none) l.invariant ∙ replicate-append-replicate l.x-index 1 c.args.none

pub returns : goal.returns
returns g c = let l = c.loop-x in let xs = c.args.used.now in let ys = c.copy_within.new.self in
    let m = length xs - (c.min-end.result - c.min-start.result) in
    let n : length l.x-items ≡ c.min-end.result - c.min-start.result =
    omega (arith, length-take (length ys - m) (drop m ys), length-drop m ys, c.copy_within.ensures.len) in
    let i : l.x-index ≡ length l.x-items = omega arith in
    let r : l.x-items ≡ replicate (length l.x-items) c.args.none =
    sym (take_all (length l.x-items) l.x-items (omega arith)) ∙ rw i at l.invariant in
    cut-done c.args.none xs c.args.a c.args.b _ _ c.min-end.ensures c.min-start.ensures ys l.x-items
    c.copy_within.ensures.after n r
