-- Read-only transactions (01: pages) begun and ended. 01 "The books", Open a page.
-- In order: snapshot_epoch, begun_ro_manager, ended_ro_manager. Laws: laws/proofs/Laws/ReadOnly.antt.
-- Assumes nothing.
use Rattle.std.specs.Prelude.{not, cond, [], ◌∷◌, ◌++◌, ℕ, suc, eqb}
use Rattle.lists.specs.Lists.{keep_if}
use Rattle.rules.specs.Manager.{ro_txn, readers_of, with_readers, has_ticket}
use Rattle.rules.specs.Manager.{Manager}

-- the value 0 always means LCE
unfoldable pub snapshot_epoch : ℕ → Manager → ℕ
snapshot_epoch e m = cond (eqb e 0) m.clock.lce e

unfoldable pub begun_ro_manager : ℕ → Manager → Manager
begun_ro_manager e m =
    let next = m.readers.next in
    with_readers (readers_of m ++ (ro_txn next (snapshot_epoch e m) ∷ [])) (suc next) m

unfoldable pub ended_ro_manager : ℕ → Manager → Manager
ended_ro_manager t m = with_readers (keep_if (λ p. not (has_ticket t p)) (readers_of m)) m.readers.next m
