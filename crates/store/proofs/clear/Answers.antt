-- `store::clear` meets its contract: what is planned, and then written, is what step leaves.
-- Assumes nothing.
use Rattle.std.proofs.Common.{sym, ◌∙◌, subst}
use Rattle.rules.specs.Step.{step, clear}
use Rattle.store.specs.Kept.{store_of}
use Rattle.store.proofs.Laws.Write.{state_8, Leaves, says_entries, clear-left}
use Rattle.store.proofs.clear.Goals as goal
use Rattle.store.proofs.clear.Goals.{in-Ok, in-Err}

pub returns : goal.returns
returns c = let a = c.args in let es = a.entries.now in let rs = a.rows.now in
    let plan = rw (c.rest_ok-rest.ensures, c.ask-a.ensures) at c.clear_core.ensures in
    let leaves = Leaves a.state es rs says_entries (λ w. rs) (step (clear a.txn a.p) (store_of a.state rs es)) in
    let left = clear-left a.state (state_8 a.state _ c.well_formed.0) es rs a.txn a.p in
    elim c.match-clear_core.branch [
      | in-Ok w ↦ rw (
        c.rewrite_done.ensures,
        w.entries-is,
        w.answer-is,
        w.with_partition-next.ensures,
        w.put_write.ensures,
      ) (subst leaves (sym plan ∙ w.in-Ok.is) left)
      | in-Err w ↦ rw (c.rewrite_done.ensures, w.entries-is, w.answer-is)
          (subst leaves (sym plan ∙ w.in-Err.is) left)
    ]
