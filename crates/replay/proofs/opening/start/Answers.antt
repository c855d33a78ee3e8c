-- `replay::opening::start` meets its contract.
-- Assumes nothing.
use Rattle.std.proofs.Common.{List, ◌∙◌, ap}
use Rattle.rules.specs.declared.Entry.{Entry}
use Rattle.replay.proofs.Laws.Start.{started-by}
use Rattle.replay.proofs.opening.start.Goals as goal

pub returns : goal.returns
returns c = let t = c.turn in
    let s = started-by c.new_books.result c.to_table.result c.args.rows.now t.new.rows t.new.bytes t.result
    c.new_books.ensures (c.to_table.ensures ∙ ap (λ (a : List Entry). record { at = a }) c.blank.ensures) t.ensures in
    record { answer = s.0; store = s.1 }
