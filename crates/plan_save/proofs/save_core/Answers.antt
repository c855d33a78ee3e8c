-- Refused, or the runs of rows that are shown. Assumes nothing.
use Rattle.std.proofs.Common.{arith, Bool, ◌&&◌, ◌≡◌, ap}
use borrow.Author.Tests.{lt-ltb, le-ltb}
use Rattle.lists.proofs.Laws.Branches.{said}
use Rattle.rules.specs.Manager.{manager_in}
use Rattle.rules.specs.WellFormed.{manager_ok}
use Rattle.rules.specs.declared.State.{State}
use Rattle.txn_find.proofs.Laws.Places.{sized}
use Rattle.txn.proofs.Laws.Records.{parts-sound-is}
use Rattle.plan_save.specs.Save.{save_plan, size_of_runs}
use Rattle.plan_save.proofs.save_core.Goals as goal

pub returns-then-not-parts_sound : goal.returns-then-not-parts_sound
unfolding save_plan
returns-then-not-parts_sound c = let a = c.args in
    let sound = parts-sound-is (manager_in a.state) a.found.ok (sized a.state c.well_formed.0) c.parts_sound.ensures in
    rw (said sound c.if-not-parts_sound.true)

pub returns-then-not-in_range : goal.returns-then-not-in_range
unfolding save_plan
returns-then-not-in_range c = let a = c.args in
    let sound = parts-sound-is (manager_in a.state) a.found.ok (sized a.state c.well_formed.0) c.parts_sound.ensures in
    rw (said sound c.if-not-parts_sound.false, said c.in_range.ensures c.if-not-in_range.true)

pub returns-then-k-size : goal.returns-then-k-size
unfolding save_plan
returns-then-k-size c = let a = c.args in
    let sound = parts-sound-is (manager_in a.state) a.found.ok (sized a.state c.well_formed.0) c.parts_sound.ensures in
    let n = ap (λ x. x.rows) c.sizes_of-sizes.ensures.0 in
    rw (
      said sound c.if-not-parts_sound.false,
      said c.in_range.ensures c.if-not-in_range.false,
      lt-ltb a.k (size_of_runs a.t.at) (omega (arith, n, c.if-k-size.true)),
    )

pub returns : goal.returns
unfolding save_plan
returns c = let a = c.args in
    let sound = parts-sound-is (manager_in a.state) a.found.ok (sized a.state c.well_formed.0) c.parts_sound.ensures in
    let n = ap (λ x. x.rows) c.sizes_of-sizes.ensures.0 in
    rw (
      said sound c.if-not-parts_sound.false,
      said c.in_range.ensures c.if-not-in_range.false,
      le-ltb a.k (size_of_runs a.t.at) (omega (arith, n, c.if-k-size.false)),
      c.sizes_of-sizes.ensures.0,
      c.bases_of-bases.ensures,
    )
