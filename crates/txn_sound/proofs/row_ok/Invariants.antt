-- The deps rise below the epoch just where none was counted, none or the last one so far is below it, and those that
-- are left rise above that one; no more were counted than passed.
-- Assumes nothing.
use Rattle.std.proofs.Common.{◌≡◌, ◌≤◌, ◌&&◌, eqb, drop}
use Rattle.lists.specs.Lists.{rises}
use Rattle.txn_sound.proofs.Laws.Row.{below}
use Rattle.txn_sound.proofs.row_ok.Given as goal

abbrev pub invariant-loop-d : goal.invariant-loop-d
invariant-loop-d l = record {
  told : rises l.lse l.epoch l.d-items
      ≡ eqb l.bad 0 && (below l.d-index l.lo l.epoch && rises l.lo l.epoch (drop l.d-index l.d-items));
  few : l.bad ≤ l.d-index;
}
