-- `session_text::line::values_fit` meets its contract, value by value.
-- Assumes nothing.
use Rattle.std.proofs.Common.{get_or, arith}
use Rattle.session_text.proofs.Laws.Print.{decimal-few}
use Rattle.session_text.proofs.line.values_fit.Goals as goal

pub overflow_add-n : goal.overflow_add-n
overflow_add-n c =
    omega (arith, c.digits-n.ensures, decimal-few (get_or c.args.values.now c.loop-value.value-index 0))
