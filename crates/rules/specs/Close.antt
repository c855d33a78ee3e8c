-- Commit and roll back, in the manager: the transaction is closed, then LCE is settled.
-- 01 "The books", Commit, roll back; 02 (i); 004 III-B "LCE" and Table I, where only a commit moves LCE.
-- In order: committed_txns, dropped_txns, settled_lce, oldest_open, settled, committed_manager, rolled_back_manager.
-- Laws:
-- laws/proofs/Laws/Close.antt.
-- Assumes nothing.
use Rattle.std.specs.Prelude.{Bool, not, ◌&&◌, ◌||◌, cond, ℕ, max, ltb, leb}
use mathlib.Core.List.{List, [], map, foldr}
use Rattle.lists.specs.Lists.{keep_if, all_of, least_of}
use Rattle.rules.specs.Manager.{Writer, writer, is_open, opens, open_epochs, writers_of, with_clock, with_lce}
use Rattle.rules.specs.Manager.{Manager, with_writers}

-- committed, it waits: it drops its deps and keeps its place
abbrev pub waiting_txn : ℕ → Writer
waiting_txn e = writer e 1 []

unfoldable pub committed_txns : ℕ → List Writer → List Writer
committed_txns i ts = map (λ t. cond (opens i t) (waiting_txn i) t) ts

-- rolled back, it has no place
unfoldable pub dropped_txns : ℕ → List Writer → List Writer
dropped_txns i ts = keep_if (λ t. not (opens i t)) ts

-- no open transaction has a smaller epoch than e
abbrev pub unblocked : List Writer → ℕ → Bool
unblocked ts e = all_of (λ t. not (is_open t) || leb e t.epoch) ts

-- the greatest committed epoch that has no open one below it: lce, unless one that waits is newer
unfoldable pub settled_lce : ℕ → List Writer → ℕ
settled_lce lce ts =
    foldr max lce (map (λ t. t.epoch) (keep_if (λ t. not (is_open t) && unblocked ts t.epoch) ts))

-- the oldest open epoch, or 0 where none is open: what is committed above it waits
unfoldable pub oldest_open : List Writer → ℕ
oldest_open ts = least_of (open_epochs ts)

-- LCE is settled, and what it has reached waits no longer
unfoldable pub settled : List Writer → Manager → Manager
settled ts m =
    let lce = settled_lce m.clock.lce ts in
    with_clock (with_lce lce m.clock) (with_writers (keep_if (λ t. is_open t || ltb lce t.epoch) ts) m)

unfoldable pub committed_manager : ℕ → Manager → Manager
committed_manager i m = settled (committed_txns i (writers_of m)) m

unfoldable pub rolled_back_manager : ℕ → Manager → Manager
rolled_back_manager i m = settled (dropped_txns i (writers_of m)) m
