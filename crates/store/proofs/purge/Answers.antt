-- `store::purge` meets its contract: what is planned, and then written, is what step leaves.
-- Assumes nothing.
use Rattle.store.proofs.Laws.Write.{state_8}
use Rattle.store.proofs.Laws.Purge.{purge-left}
use Rattle.store.proofs.purge.Goals as goal
use Rattle.store.proofs.purge.Goals.{in-Err, in-Ok-Skip, in-Ok-Rewrite}

pub returns : goal.returns
returns c = let a = c.args in
    elim c.match-purge_core.branch [
      | in-Err w ↦ rw (c.rewrite_done.ensures, w.entries-is, w.rows-is, w.answer-is)
          (purge-left a.state (state_8 a.state _ c.well_formed.0) a.entries.now a.rows.now a.p
          (rw (c.load-lot.ensures, c.rest_ok-rest.ensures, c.ask-a.ensures) at w.in-Err.ensures))
      | in-Ok-Skip w ↦ rw (c.rewrite_done.ensures, w.entries-is, w.rows-is, w.answer-is)
          (purge-left a.state (state_8 a.state _ c.well_formed.0) a.entries.now a.rows.now a.p
          (rw (
            w.in-Ok-Skip.field-0-is,
            c.load-lot.ensures,
            c.rest_ok-rest.ensures,
            c.ask-a.ensures,
          ) at w.in-Ok-Skip.ensures))
      | in-Ok-Rewrite w ↦ rw (
        c.rewrite_done.ensures,
        w.entries-is,
        w.rows-is,
        w.answer-is,
        w.moved-next.ensures,
        w.copy.ensures,
        w.put.ensures,
      )
          (purge-left a.state (state_8 a.state _ c.well_formed.0) a.entries.now a.rows.now a.p
          (rw (
            w.in-Ok-Rewrite.field-0-is,
            c.load-lot.ensures,
            c.rest_ok-rest.ensures,
            c.ask-a.ensures,
          ) at w.in-Ok-Rewrite.ensures))
    ]
