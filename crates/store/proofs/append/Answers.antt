-- `store::append` meets its contract: what is planned, and then written, is what step leaves.
-- Assumes nothing.
use Rattle.std.proofs.Common.{sym, ◌∙◌, subst}
use Rattle.rules.specs.Step.{step, append}
use Rattle.partition.specs.Rows.{put_rows}
use Rattle.store.specs.Kept.{store_of}
use Rattle.store.proofs.Laws.Write.{state_8, Leaves, says_rows, append_left}
use Rattle.store.proofs.append.Goals as goal
use Rattle.store.proofs.append.Goals.{in-Ok, in-Err}

pub returns : goal.returns
returns c = let a = c.args in let es = a.entries.now in let rs = a.rows.now in let bs = a.batch.now in
    let plan = rw (c.last_entry-last.ensures, c.rest_ok-rest.ensures, c.ask-a.ensures) at c.append_core.ensures in
    let leaves = Leaves a.state es rs says_rows (λ w. put_rows w.row bs rs)
    (step (append a.txn a.p bs) (store_of a.state rs es)) in
    let left = append_left a.state (state_8 a.state _ c.well_formed.0) es rs bs a.txn a.p in
    elim c.match-append_core.branch [
      | in-Ok w ↦ rw (
        c.rewrite_done.ensures,
        w.entries-is,
        w.rows-is,
        w.answer-is,
        w.with_partition-next.ensures,
        w.write_rows.ensures,
        w.put_write.ensures,
      ) (subst leaves (sym plan ∙ w.in-Ok.is) left)
      | in-Err w ↦ rw (c.rewrite_done.ensures, w.entries-is, w.rows-is, w.answer-is)
          (subst leaves (sym plan ∙ w.in-Err.is) left)
    ]
