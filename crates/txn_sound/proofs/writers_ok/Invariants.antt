-- All records pass just where those that are left pass after the last epoch, seen telling of the open ones passed; the
-- places behind are unused just where what was joined is 0 and those that are left are unused.
-- Assumes nothing.
use Rattle.std.proofs.Common.{◌≡◌, ◌&&◌, ◌*◌, eqb, drop}
use Rattle.lists.specs.Lists.{all_of}
use Rattle.rules.specs.Limits.{deps_max}
use Rattle.rules.specs.WellFormed.{zeros, unused_rw}
use Rattle.txn_sound.specs.Sound.{writers_ranked, writers_tested}
use Rattle.txn_sound.proofs.writers_ok.Given as goal

abbrev pub invariant-loop-i : goal.invariant-loop-i
invariant-loop-i l = writers_tested l.fn.c l.fn.ts l.deps
    ≡ writers_ranked l.lo l.fn.c l.seen (drop (deps_max * l.i) l.deps) (drop l.i l.t-items)
    && (all_of unused_rw (drop l.fn.ts.count l.fn.ts.at) && zeros (drop (deps_max * l.fn.ts.count) l.deps))

abbrev pub invariant-loop-t : goal.invariant-loop-t
invariant-loop-t l = all_of unused_rw l.t-items ≡ eqb l.left 0 && all_of unused_rw (drop l.t-index l.t-items)
