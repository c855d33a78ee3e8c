-- `session_text::numbers::put_numbers` meets its contract: at a blank a number is written; another byte is a digit.
-- Assumes nothing.
use Rattle.std.proofs.Common.{◌≡◌, ℕ, List, [], drop, sym, ◌∙◌, ap, arith}
use Rattle.std.proofs.Math.ListN.{drop_of_length-le}
use Rattle.lists.specs.Lists.{over}
use Rattle.session_text.proofs.Laws.Grammar.{values_from, ok-start, ok-true, values-start}
use Rattle.session_text.proofs.Laws.Numbers.{length-numbers, blank-put, digit-fits, digit-put, put-end}
use Rattle.session_text.proofs.numbers.put_numbers.Goals as goal
use Rattle.session_text.proofs.numbers.put_numbers.Goals.{then-byte-eq32, else-byte-eq32}

pub loop-byte-init : goal.loop-byte-init
loop-byte-init c = let bs = c.args.bytes.now in (
  omega (arith, length-numbers bs, c.requires.1),
  ok-true 0 bs (sym (ok-start bs) ∙ c.requires.0),
  ap (λ (ns : List ℕ). over 0 ns c.args.numbers.now) (values-start bs),
)

pub overflow_mul-value : goal.overflow_mul-value
overflow_mul-value c = let l = c.loop-byte in
    let d = digit-fits c.args.bytes.now l.byte-index l.k l.value l.numbers c.loop-byte-test.true l.invariant.1
    c.if-byte-eq32.false in omega (arith, d.2)

pub overflow_sub-value : goal.overflow_sub-value
overflow_sub-value c = let l = c.loop-byte in
    let d = digit-fits c.args.bytes.now l.byte-index l.k l.value l.numbers c.loop-byte-test.true l.invariant.1
    c.if-byte-eq32.false in d.0

pub overflow_add-value : goal.overflow_add-value
overflow_add-value c = let l = c.loop-byte in
    let d = digit-fits c.args.bytes.now l.byte-index l.k l.value l.numbers c.loop-byte-test.true l.invariant.1
    c.if-byte-eq32.false in omega (arith, d.2)

pub loop-byte-preserved : goal.loop-byte-preserved
loop-byte-preserved c = let l = c.loop-byte in let bs = c.args.bytes.now in
    elim c.if-byte-eq32.branch [
      | then-byte-eq32 w ↦ let s = blank-put bs l.byte-index l.k l.value l.numbers c.loop-byte-test.true l.invariant.1
          w.if-byte-eq32.true l.invariant.0 in
          rw (w.numbers-is, w.value-is, w.k-is) (s.0, s.1, l.invariant.2 ∙ s.2)
      | else-byte-eq32 w ↦ let s = digit-put bs l.byte-index l.k l.value l.numbers c.loop-byte-test.true l.invariant.1
          w.if-byte-eq32.false l.invariant.0 in
          rw (w.numbers-is, w.value-is, w.k-is) (s.0, s.1, l.invariant.2 ∙ s.2)
    ]

pub returns : goal.returns
returns c = let l = c.loop-byte in let bs = c.args.bytes.now in
    let none : drop l.byte-index bs ≡ [] = drop_of_length-le bs {i = l.byte-index} c.loop-byte-test.false in
    sym (l.invariant.2 ∙ (ap (λ (cs : List ℕ). over l.k (values_from l.value cs) l.numbers) none
    ∙ put-end l.k l.value l.numbers (omega arith)))
