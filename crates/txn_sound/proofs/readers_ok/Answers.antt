-- LAST_TICKET is rules' last_ticket.
-- Assumes nothing.
use Rattle.std.proofs.Common.{◌≡◌, ◌∙◌, ◌-◌, refl, sym, eqb, length, take, drop, get_or, arith}
use lib.ListN.{length-drop, drop_of_length-le}
use lib.Seq.{take_all}
use Rattle.lists.proofs.Laws.Bools.{and-true}
use Rattle.lists.proofs.Laws.Branches.{tests, said}
use Rattle.lists.proofs.Laws.Places.{from_next, all_end}
use Rattle.rules.specs.Limits.{last_ticket}
use Rattle.rules.specs.Manager.{no_ro}
use Rattle.rules.specs.WellFormed.{unused_ro}
use Rattle.txn_sound.specs.Sound.{reader_ok, readers_tested}
use Rattle.txn_sound.proofs.Laws.Joined.{joined-next, joined_ro}
use Rattle.txn_sound.proofs.readers_ok.Goals as goal
use Rattle.txn_sound.proofs.readers_ok.Goals.{then-n-gt-READERS_MAX-via-then-n-gt-READERS_MAX}
use Rattle.txn_sound.proofs.readers_ok.Goals.{then-n-gt-READERS_MAX-via-else-n-gt-READERS_MAX+then-ps-lt1}
use Rattle.txn_sound.proofs.readers_ok.Goals.{then-n-gt-READERS_MAX-via-else-n-gt-READERS_MAX+else-ps-lt1+then-ps}

pub returns-then-n-gt-READERS_MAX : goal.returns-then-n-gt-READERS_MAX
unfolding readers_tested last_ticket
returns-then-n-gt-READERS_MAX c = elim c.then-n-gt-READERS_MAX.branch [
  | then-n-gt-READERS_MAX-via-then-n-gt-READERS_MAX w ↦ search tests
  | then-n-gt-READERS_MAX-via-else-n-gt-READERS_MAX+then-ps-lt1 w ↦ search tests
  | then-n-gt-READERS_MAX-via-else-n-gt-READERS_MAX+else-ps-lt1+then-ps w ↦ search tests
]

pub loop-p-init : goal.loop-p-init
unfolding readers_tested last_ticket
loop-p-init c = search tests

pub returns-then-not-reader_ok : goal.returns-then-not-reader_ok
unfolding reader_ok
returns-then-not-reader_ok c = let ps = c.args.ps in
    sym (c.loop-p.invariant ∙ rw (
      from_next (take ps.count ps.at) no_ro c.loop-p.p-index c.loop-p-test.true,
      said c.reader_ok.ensures c.if-not-reader_ok.true,
    ))

pub loop-p-preserved : goal.loop-p-preserved
unfolding reader_ok
loop-p-preserved c = let ps = c.args.ps in
    c.loop-p.invariant ∙ rw (
      from_next (take ps.count ps.at) no_ro c.loop-p.p-index c.loop-p-test.true,
      said c.reader_ok.ensures c.if-not-reader_ok.false,
    )

pub loop-p-2-init : goal.loop-p-2-init
loop-p-2-init c = refl

pub loop-p-2-preserved : goal.loop-p-2-preserved
loop-p-2-preserved c = let ps = c.args.ps in let k = c.loop-p-2 in
    let ys = take (length ps.at - ps.count) (drop ps.count ps.at) in
    k.invariant ∙ joined-next unused_ro ys _ refl no_ro k.p-index (eqb k.left 0) _ c.loop-p-2-test.true
    (joined_ro k.left (get_or ys k.p-index no_ro))

pub returns : goal.returns
returns c = let ps = c.args.ps in let k = c.loop-p-2 in
    let rest : take (length ps.at - ps.count) (drop ps.count ps.at) ≡ drop ps.count ps.at =
    take_all (length ps.at - ps.count) (drop ps.count ps.at) (rw length-drop (omega arith)) in
    sym (c.loop-p.invariant ∙ rw (
      drop_of_length-le (take ps.count ps.at) c.loop-p-test.false,
      ← rest,
      k.invariant,
      all_end (take (length ps.at - ps.count) (drop ps.count ps.at)) _ refl unused_ro k.p-index c.loop-p-2-test.false,
    ) (and-true (eqb k.left 0)))
