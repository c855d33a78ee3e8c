-- `visible::write::write` meets its contract: the flags under the greatest delete are the flags, and those
-- beyond the rows are unused bits.
-- Assumes nothing.
use Rattle.std.proofs.Common.{◌≡◌, ◌-◌, arith, sym}
use Rattle.rules.specs.Limits.{rows_max}
use Rattle.rules.specs.Bitmap.{bytes_for}
use Rattle.visible.specs.View.{sees_view}
use Rattle.visible.specs.Passes.{flags_under}
use Rattle.visible.specs.Scan.{view_flags}
use Rattle.visible.proofs.Laws.Pack.{drop_false, bitmap-pad}
use Rattle.visible.proofs.Laws.Flags.{length-flags_of, flags_of-top}
use Rattle.visible.proofs.write.write.Goals as goal

pub pack-requires : goal.pack-requires
unfolding bytes_for
pack-requires c = let e = c.bytes_for.ensures in
    (omega (arith, e, c.requires.0, c.show_front-ones.auto.shown), rw e c.requires.2)

pub returns : goal.returns
returns c = let a = c.args in let es = a.es.now in let sees = sees_view a.v a.deps.now in
    let same : flags_under a.v a.deps.now c.find_top-top.result es ≡ view_flags a.v a.deps.now es =
    rw c.find_top-top.ensures (sym (flags_of-top sees sees es)) in
    let all = length-flags_of sees sees a.rows es c.requires.1 in (
      rw (c.show_front-ones.ensures.0, same),
      rw (c.pack.ensures, c.bytes_for.ensures, c.show_front-ones.ensures.1, same, drop_false a.rows rows_max)
          (bitmap-pad a.rows (rows_max - a.rows) (view_flags a.v a.deps.now es) a.bitmap.now all),
    )
