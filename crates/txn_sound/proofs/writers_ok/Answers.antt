-- Assumes nothing.
use Rattle.std.proofs.Common.{◌≡◌, ◌∙◌, List, ℕ, ◌-◌, ◌*◌, refl, sym, eqb, length, take, drop, get_or, arith}
use borrow.Author.Tests.{ne_eqb}
use lib.ListN.{length-drop, drop_of_length-le}
use lib.Seq.{take_all}
use Rattle.lists.proofs.Laws.Branches.{tests}
use Rattle.lists.proofs.Laws.Places.{all_end}
use Rattle.rules.specs.Limits.{deps_max}
use Rattle.rules.specs.Manager.{no_rw}
use Rattle.rules.specs.WellFormed.{unused_rw}
use Rattle.txn_sound.specs.Sound.{writers_tested}
use Rattle.txn_sound.proofs.Laws.Joined.{joined-next, joined_rw}
use Rattle.txn_sound.proofs.Laws.Sound.{turn}
use Rattle.txn_sound.proofs.writers_ok.Goals as goal
use Rattle.txn_sound.proofs.writers_ok.Goals.{then-deps-ne-DEPS_ALL-via-then-deps-ne-DEPS_ALL}
use Rattle.txn_sound.proofs.writers_ok.Goals.{then-deps-ne-DEPS_ALL-via-else-deps-ne-DEPS_ALL+then-n-gt-WRITERS_MAX}
use Rattle.txn_sound.proofs.writers_ok.Goals.{then-seen, else-seen}

pub returns-then-deps-ne-DEPS_ALL : goal.returns-then-deps-ne-DEPS_ALL
unfolding writers_tested
returns-then-deps-ne-DEPS_ALL c = elim c.then-deps-ne-DEPS_ALL.branch [
  | then-deps-ne-DEPS_ALL-via-then-deps-ne-DEPS_ALL w ↦ search tests
  | then-deps-ne-DEPS_ALL-via-else-deps-ne-DEPS_ALL+then-n-gt-WRITERS_MAX w ↦ search tests
]

pub loop-i-init : goal.loop-i-init
unfolding writers_tested
loop-i-init c = search tests

pub returns-then-not-writer_ok : goal.returns-then-not-writer_ok
returns-then-not-writer_ok c = let ts = c.args.ts in let l = c.loop-i in
    sym (l.invariant ∙ rw (
      turn c.args.c c.args.deps.now (take ts.count ts.at) l.lo l.seen l.i c.loop-i-test.true c.writer_ok.ensures,
      c.if-not-writer_ok.true,
    ))

pub loop-i-preserved : goal.loop-i-preserved
loop-i-preserved c = let ts = c.args.ts in let l = c.loop-i in
    let next = turn c.args.c c.args.deps.now (take ts.count ts.at) l.lo l.seen l.i c.loop-i-test.true
    c.writer_ok.ensures in elim c.if-seen.branch [
      | then-seen w ↦ l.invariant ∙ rw (next, c.if-not-writer_ok.false, w.seen-is, w.if-seen.true)
      | else-seen w ↦ l.invariant ∙ rw (next, c.if-not-writer_ok.false, w.seen-is, w.if-seen.false)
    ]

pub loop-t-init : goal.loop-t-init
loop-t-init c = refl

pub loop-t-preserved : goal.loop-t-preserved
loop-t-preserved c = let ts = c.args.ts in let k = c.loop-t in
    let ys = take (length ts.at - ts.count) (drop ts.count ts.at) in
    k.invariant ∙ joined-next unused_rw ys _ refl no_rw k.t-index (eqb k.left 0) _ c.loop-t-test.true
    (joined_rw k.left (get_or ys k.t-index no_rw))

-- what a lent part to the end of a list shows is all that is left of it
lent-rest : {A : Type 0} (xs : List A) (n : ℕ) → take (length xs - n) (drop n xs) ≡ drop n xs
lent-rest xs n = take_all (length xs - n) (drop n xs) (rw length-drop (omega arith))

pub returns-then-left-eq0 : goal.returns-then-left-eq0
returns-then-left-eq0 c = let ts = c.args.ts in let ds = c.args.deps.now in let k = c.loop-t in
    c.all_zero.ensures ∙ sym (c.loop-i.invariant ∙ rw (
      drop_of_length-le (take ts.count ts.at) c.loop-i-test.false,
      ← lent-rest ts.at ts.count,
      k.invariant,
      all_end (take (length ts.at - ts.count) (drop ts.count ts.at)) _ refl unused_rw k.t-index c.loop-t-test.false,
      c.if-left-eq0.true,
      lent-rest ds (deps_max * ts.count),
    ))

pub returns-else-left-eq0 : goal.returns-else-left-eq0
returns-else-left-eq0 c = let ts = c.args.ts in let k = c.loop-t in
    sym (c.loop-i.invariant ∙ rw (
      drop_of_length-le (take ts.count ts.at) c.loop-i-test.false,
      ← lent-rest ts.at ts.count,
      k.invariant,
      ne_eqb k.left 0 c.if-left-eq0.false,
    ))
