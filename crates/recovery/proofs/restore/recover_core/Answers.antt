-- The lengths, then what the file has. Assumes nothing.
use Rattle.std.proofs.Common.{arith, sym, ◌∙◌, ap, subst}
use Rattle.std.specs.Prelude.{IfOk}
use Rattle.std.proofs.lemmas.Result.{err_from_is_err_and}
use Rattle.lists.proofs.Laws.Branches.{said}
use Rattle.rules.specs.Limits.{last_epoch}
use Rattle.checkpoint.proofs.Laws.Header.{Whole, header-whole}
use Rattle.recovery.specs.Restore.{restored_in}
use Rattle.recovery.proofs.Laws.Restore.{restored-well, restored-short}
use Rattle.recovery.proofs.restore.recover_core.Goals as goal

pub returns-then-not-lengths_ok : goal.returns-then-not-lengths_ok
returns-then-not-lengths_ok c = let a = c.args in
    sym (restored-short a.file.now a.n a.m (said c.lengths_ok.ensures c.if-not-lengths_ok.true))

pub returns-in_err-h : goal.returns-in_err-h
unfolding last_epoch
returns-in_err-h c = let a = c.args in
    let p = err_from_is_err_and c.from_residual.result c.from_residual.ensures.1 in
    let well = restored-well a.file.now a.n a.m (said c.lengths_ok.ensures c.if-not-lengths_ok.false) in
    rw (p.1, p.2) (sym (well ∙ ap (restored_in a.file.now) (sym c.find.ensures ∙ c.in_err-h.was)))

pub restore_from-requires : goal.restore_from-requires
unfolding last_epoch
restore_from-requires c = let a = c.args in
    let w = subst (λ r. IfOk r (Whole last_epoch a.file.now)) (sym c.find.ensures ∙ c.in_ok-h.was)
    (header-whole last_epoch a.file.now) in
    record { epoch-fits = w.epoch; end_fits = omega (arith, w.body, c.well_formed) }

pub returns : goal.returns
unfolding last_epoch
returns c = let a = c.args in
    let well = restored-well a.file.now a.n a.m (said c.lengths_ok.ensures c.if-not-lengths_ok.false) in
    rw c.restore_from.ensures
    (sym (well ∙ ap (restored_in a.file.now) (sym c.find.ensures ∙ c.in_ok-h.was)))
