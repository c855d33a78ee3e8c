-- `serve::turn::answer` meets its contract: some lines are answered and the rest stays where it is, or none is left and
-- the rest is moved to the front.
-- Assumes nothing.
use Rattle.std.proofs.Common.{refl, ◌+◌, ◌≤◌, arith}
use Rattle.store.specs.Kept.{store_of}
use Rattle.serve.proofs.Laws.Turn.{used-end, answered-some, answered-none}
use Rattle.serve.proofs.turn.answer.Goals as goal

pub returns-then-r-eq0-clause-answered : goal.returns-then-r-eq0-clause-answered
returns-then-r-eq0-clause-answered c =
    let a = c.args in let r = c.replay-r in let e = r.ensures in let p = c.requires.from_le_end in
    answered-none a.numbers.now a.out.now a.input.now (store_of a.s.state a.rows.now a.s.table.at)
    a.s.from a.end p.0 p.1 r.result.used r.result.written r.new.out _ e.used e.size e.bytes e.store
    c.requires.roomy c.if-r-eq0.true c.keep_rest-held.new.buffer c.keep_rest-held.result
    c.keep_rest-held.ensures.size c.keep_rest-held.ensures.bytes _ refl refl refl

pub overflow_add-result : goal.overflow_add-result
overflow_add-result c =
    let a = c.args in let r = c.replay-r in let e = r.ensures in let p = c.requires.from_le_end in
    let within : a.s.from + r.result.used ≤ a.end =
    used-end a.numbers.now a.out.now a.input.now (store_of a.s.state a.rows.now a.s.table.at)
    a.s.from a.end p.0 p.1 r.result.used r.result.written r.new.out _ e.used e.size e.bytes e.store in
    record { fits = omega (arith, within, c.ranges.end) }

pub returns-clause-answered : goal.returns-clause-answered
returns-clause-answered c =
    let a = c.args in let r = c.replay-r in let e = r.ensures in let p = c.requires.from_le_end in
    answered-some a.numbers.now a.out.now a.input.now (store_of a.s.state a.rows.now a.s.table.at)
    a.s.from a.end p.0 p.1 r.result.used r.result.written r.new.out _ e.used e.size e.bytes e.store
    _ refl refl refl refl
