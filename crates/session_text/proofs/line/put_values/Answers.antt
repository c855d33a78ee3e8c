-- `session_text::line::put_values` meets its contract, value by value.
-- Assumes nothing.
use Rattle.std.proofs.Common.{◌≡◌, length, ◌∙◌, arith, add-one}
use Rattle.session_text.proofs.Laws.Print.{values_length, values-put}
use Rattle.session_text.proofs.line.put_values.Goals as goal

pub loop-value-preserved : goal.loop-value-preserved
loop-value-preserved c = let l = c.loop-value in let r = c.put_number-end in let vs = c.args.values.now in
    let here = values_length vs l.value-index c.loop-value-test.true in
    let same : length r.new.out ≡ length l.out = r.auto.out in (
      rw (add-one, same) (omega (arith, here, r.ensures.0)),
      rw add-one (omega (arith, here, r.ensures.0)),
      rw (add-one, r.ensures.0, r.ensures.1)
          (l.invariant.2 ∙ values-put vs l.value-index l.end l.out c.loop-value-test.true l.invariant.0),
    )
