-- The clock, then the read-write records with the table, then the read-only ones.
-- Assumes nothing.
use Rattle.std.proofs.Common.{◌≡◌, ◌∙◌, sym, ◌&&◌}
use Rattle.rules.specs.WellFormed.{clock_ok}
use Rattle.txn_find.proofs.Laws.Places.{writers_32}
use Rattle.txn_sound.specs.Sound.{writers_tested}
use Rattle.txn_sound.proofs.Laws.Sound.{parts_are}
use Rattle.txn_sound.proofs.parts_ok.Goals as goal
use Rattle.txn_sound.proofs.parts_ok.Goals.{then-clock_ok, else-clock_ok}

pub returns-then-writers_ok : goal.returns-then-writers_ok
returns-then-writers_ok c = let a = c.args in
    let e : c.if-clock_ok.value ≡ clock_ok a.c && writers_tested a.c a.ts a.deps.now = elim c.if-clock_ok.branch [
      | then-clock_ok w ↦ rw (← c.clock_ok.ensures, w.if-clock_ok.true, w.value-is) w.writers_ok.ensures
      | else-clock_ok w ↦ rw (w.value-is, ← c.clock_ok.ensures, w.if-clock_ok.false)
    ] in
    c.readers_ok.ensures ∙ sym (parts_are a.c a.ts a.deps.now a.ps (writers_32 a.ts _ c.well_formed.1.0)
    ∙ rw (← e, c.if-writers_ok.true))

pub returns-else-writers_ok : goal.returns-else-writers_ok
returns-else-writers_ok c = let a = c.args in
    let e : c.if-clock_ok.value ≡ clock_ok a.c && writers_tested a.c a.ts a.deps.now = elim c.if-clock_ok.branch [
      | then-clock_ok w ↦ rw (← c.clock_ok.ensures, w.if-clock_ok.true, w.value-is) w.writers_ok.ensures
      | else-clock_ok w ↦ rw (w.value-is, ← c.clock_ok.ensures, w.if-clock_ok.false)
    ] in
    sym (parts_are a.c a.ts a.deps.now a.ps (writers_32 a.ts _ c.well_formed.1.0)
    ∙ rw (← e, c.if-writers_ok.false))
