-- `session_line::shown::print_answer` meets its contract, by whether the command is a scan.
-- Assumes nothing.
use Rattle.std.proofs.Common.{refl, ap}
use Rattle.rules.specs.declared.Partition.{Partition}
use Rattle.session_line.proofs.Laws.Shown.{scan-printed, other-printed}
use Rattle.session_line.proofs.shown.print_answer.Goals as goal

pub returns-in-Scan : goal.returns-in-Scan
returns-in-Scan c = let a = c.args in let z = c.in-Scan in let n = c.shown_rows-n in let p = c.print_line in
    let s = scan-printed a.command a.answer a.partitions a.bitmap.now a.rows.now a.numbers.now a.out.now _
    c.from-reply.result c.letter_of-letter.ensures c.from-reply.ensures _ _ _ p.ensures.answer p.ensures.words z.reader
    z.partition _ _ _ z.is (ap (λ (q : Partition). q.area) c.partition_at-q.ensures) refl n.ensures.answer
    n.ensures.words in
    record { size = s.0; bytes = s.1.0; words = s.1.1 }

pub returns-in_default : goal.returns-in_default
returns-in_default c = let a = c.args in let p = c.print_line-in_default in
    let s = other-printed a.command a.answer a.partitions a.bitmap.now a.rows.now a.numbers.now a.out.now _
    c.from-reply.result c.letter_of-letter.ensures c.from-reply.ensures _ _ _ p.ensures.answer p.ensures.words
    c.in_default.not-Scan refl in
    record { size = s.0; bytes = s.1.0; words = s.1.1 }
