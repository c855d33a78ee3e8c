-- `session_text::line::print_line` meets its contract, by whether the line has room.
-- Assumes nothing.
use Rattle.std.proofs.Common.{length, sym}
use borrow.Author.Tests.{leb-true, leb-false}
use Rattle.session_text.specs.Print.{line_of}
use Rattle.session_text.proofs.Laws.Lines.{no_room, room}
use Rattle.session_text.proofs.line.print_line.Goals as goal

pub returns-then-not-line_fits : goal.returns-then-not-line_fits
returns-then-not-line_fits c = let a = c.args in
    let s = no_room (line_of a.letter a.number a.values.now) a.out.now
    (leb-false (length (line_of 0 a.number a.values.now)) (length a.out.now) (sym c.if-not-line_fits.ensures)) in
    record { answer = s.0; words = s.1 }

pub put_parts-requires : goal.put_parts-requires
put_parts-requires c = let a = c.args in
    leb-true (length (line_of 0 a.number a.values.now)) (length a.out.now) (sym c.if-not-line_fits.ensures)

pub returns : goal.returns
returns c = let a = c.args in let r = c.put_parts in
    let s = room (line_of a.letter a.number a.values.now) a.out.now r.result r.new.out
    (leb-true (length (line_of 0 a.number a.values.now)) (length a.out.now) (sym c.if-not-line_fits.ensures))
    r.ensures.0 r.ensures.1 in
    record { answer = s.0; words = s.1 }
