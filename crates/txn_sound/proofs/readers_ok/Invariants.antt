-- All records pass just where those that are left pass after the last ticket; the places behind are unused just where
-- what was joined is 0 and those that are left are unused.
-- Assumes nothing.
use Rattle.std.proofs.Common.{◌≡◌, ◌&&◌, eqb, drop}
use Rattle.lists.specs.Lists.{all_of}
use Rattle.rules.specs.WellFormed.{unused_ro}
use Rattle.txn_sound.specs.Sound.{readers_ranked, readers_tested}
use Rattle.txn_sound.proofs.readers_ok.Given as goal

abbrev pub invariant-loop-p : goal.invariant-loop-p
invariant-loop-p l = readers_tested l.fn.c l.fn.ps ≡ readers_ranked l.lo l.fn.ps.next l.fn.c (drop l.p-index l.p-items)
    && all_of unused_ro (drop l.fn.ps.count l.fn.ps.at)

abbrev pub invariant-loop-p-2 : goal.invariant-loop-p-2
invariant-loop-p-2 l = all_of unused_ro l.p-items ≡ eqb l.left 0 && all_of unused_ro (drop l.p-index l.p-items)
