-- `session_line::shown::pick` meets its contract, row by row.
-- Assumes nothing.
use Rattle.std.proofs.Common.{get_or, length-set, sym, arith}
use Rattle.session_line.proofs.Laws.Shown.{rest-hidden, rest-shown, rest-none, rest-full}
use Rattle.session_line.proofs.shown.pick.Goals as goal

pub loop-i-preserved-then-not-is_one : goal.loop-i-preserved-then-not-is_one
loop-i-preserved-then-not-is_one c = let l = c.loop-i in (
  l.invariant.0,
  rest-hidden c.args.bitmap.now c.args.words.now c.args.out.now l.out l.k l.i c.loop-i-test.true
      (sym c.if-not-is_one.ensures) l.invariant.1,
)

pub returns-then-out-k : goal.returns-then-out-k
returns-then-out-k c = let l = c.loop-i in
    let s = rest-full c.args.bitmap.now c.args.words.now c.args.out.now l.out l.k l.i c.if-out-k.true l.invariant.1 in
    record { answer = s.0; words = s.1 }

pub loop-i-preserved : goal.loop-i-preserved
loop-i-preserved c = let l = c.loop-i in (
  omega (arith, c.if-out-k.false, length-set l.out l.k (get_or c.args.words.now l.i 0)),
  rest-shown c.args.bitmap.now c.args.words.now c.args.out.now l.out l.k l.i c.loop-i-test.true
      (sym c.if-not-is_one.ensures) c.if-out-k.false l.invariant.1,
)

pub returns : goal.returns
returns c = let l = c.loop-i in
    let s = rest-none c.args.bitmap.now c.args.words.now c.args.out.now l.out l.k l.i c.loop-i-test.false l.invariant.1
    in record { answer = s.0; words = s.1 }
