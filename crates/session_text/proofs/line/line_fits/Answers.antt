-- `session_text::line::line_fits` meets its contract.
-- Assumes nothing.
use Rattle.std.proofs.Common.{◌≡◌, ℕ, ◌+◌, length, sym, ◌∙◌, ap, arith}
use Rattle.std.specs.Prelude.{leb}
use borrow.Author.Tests.{lt-leb}
use Rattle.lists.specs.Lists.{gather}
use Rattle.session_text.specs.Print.{spaced, line_of}
use Rattle.session_text.proofs.Laws.Print.{decimal-few, leb-rest}
use Rattle.session_text.proofs.Laws.Lines.{length-line}
use Rattle.session_text.proofs.line.line_fits.Goals as goal

pub overflow_add-head : goal.overflow_add-head
overflow_add-head c = omega (arith, c.digits-head.ensures, decimal-few c.args.number)

pub returns-then-room-head : goal.returns-then-room-head
returns-then-room-head c = let a = c.args in
    sym (lt-leb (length (line_of 0 a.number a.values.now)) a.room
    (omega (arith, length-line 0 a.number a.values.now, c.digits-head.ensures)))

pub returns : goal.returns
returns c = let a = c.args in let vs = a.values.now in let head = c.digits-head.result + 3 in
    let e : length (line_of 0 a.number vs) ≡ head + length (gather spaced vs) =
    omega (arith, length-line 0 a.number vs, c.digits-head.ensures) in
    sym (ap (λ (n : ℕ). leb n a.room) e ∙ (leb-rest head (length (gather spaced vs)) a.room (omega arith)
    ∙ sym c.values_fit.ensures))
