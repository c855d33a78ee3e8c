-- `replay::lines::replay` meets its contract: a turn answers the line at the cursor (Laws/Turn.antt, inv-next), and
-- where the cursor finds none all is answered that there is room for.
-- Assumes nothing.
use Rattle.std.proofs.Common.{◌∙◌, ◌-◌, ◌<◌, length}
use Rattle.replay.proofs.Laws.Turn.{Loop, Inv, inv-start, inv-next, inv-end}
use Rattle.replay.proofs.lines.replay.Goals as goal
use Rattle.replay.proofs.lines.replay.Goals.{After-answer_line-at}

pub loop-at-init : goal.loop-at-init
loop-at-init c = let a = c.args in
    rw (c.seek-at.ensures, c.room_for-room.ensures)
    (inv-start a.input.now a.state a.table.at a.rows.now a.numbers.now a.out.now)

-- what a turn starts from, and what it leaves
module _ (c : After-answer_line-at) where
  abbrev now : Loop
  now = let l = c.loop-at in record {
    state = l.books;
    entries = l.entries;
    rows = l.rows;
    numbers = l.numbers;
    out = l.out;
    at = l.at;
  }

  abbrev after : Loop
  after = let k = c.dispatch-kept in let z = c.answer_line-at in record {
    state = k.result.state;
    entries = k.new.entries;
    rows = k.new.rows;
    numbers = z.new.numbers;
    out = z.new.out;
    at = z.result;
  }

  turn : let a = c.args in Inv a.input.now a.state a.table.at a.rows.now a.numbers.now a.out.now after
      × (length a.input.now - after.at.used < length a.input.now - now.at.used)
  turn = let a = c.args in let l = c.loop-at in let k = c.dispatch-kept in let r = c.read_line-parsed in
      let z = c.answer_line-at in
      inv-next a.input.now a.state a.table.at a.rows.now a.numbers.now a.out.now now l.invariant c.loop-at-test.true
      r.result r.new.numbers r.ensures.answer r.ensures.words c.batch_of-batch.result.now c.batch_of-batch.ensures
      k.result k.new.rows k.new.bytes k.new.entries (rw c.command_of-command.ensures at k.ensures) z.result z.new.out
      z.new.numbers z.ensures.cursor z.ensures.bytes z.ensures.words k.auto.rows (z.auto.numbers ∙ r.auto.numbers)
      z.auto.out

pub loop-at-smaller : goal.loop-at-smaller
loop-at-smaller c = (turn (goal.at.loop-at-smaller c).After-answer_line-at).1

pub loop-at-preserved : goal.loop-at-preserved
loop-at-preserved c = (turn (goal.at.loop-at-preserved c).After-answer_line-at).0

pub returns : goal.returns
returns c = let a = c.args in let l = c.loop-at in
    let last : Loop = record {
      state = l.books;
      entries = l.entries;
      rows = l.rows;
      numbers = l.numbers;
      out = l.out;
      at = l.at;
    } in
    let e = inv-end a.input.now a.state a.table.at a.rows.now a.numbers.now a.out.now last l.invariant
    c.loop-at-test.false in
    record { store = e.0; used = e.1.0; size = e.1.1.0; bytes = e.1.1.1.0; words = e.1.1.1.1 }
