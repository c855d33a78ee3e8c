-- `session_line::shown::shown_rows` meets its contract.
-- Assumes nothing.
use Rattle.std.proofs.Common.{◌≡◌, ◌+◌, ◌-◌, ◌*◌, min, length, arith}
use Rattle.rules.specs.Limits.{rows_max}
use Rattle.lists.proofs.Laws.Parts.{part-least}
use Rattle.session_line.proofs.Laws.Shown.{shown-past}
use Rattle.session_line.proofs.shown.shown_rows.Goals as goal

pub returns-then-rows-area : goal.returns-then-rows-area
returns-then-rows-area c = let a = c.args in
    let s = shown-past a.bitmap.now a.out.now a.rows.now a.area a.n c.if-rows-area.true in
    record { answer = s.0; words = s.1 }

pub returns : goal.returns
returns c = let a = c.args in let k = rows_max * a.area + c.min-2.result - rows_max * a.area in
    let n : k ≡ min (min a.n rows_max) (length a.rows.now - rows_max * a.area) =
    omega (arith, c.min-2.ensures, c.min.ensures) in
    rw (← part-least (rows_max * a.area) rows_max a.n k a.rows.now n)
    (record { answer = c.pick.ensures.answer; words = c.pick.ensures.words })
