-- Turns lead to the session, and its bytes lie in the buffer.
-- Assumes nothing.
use Rattle.std.proofs.Common.{◌≡◌, false, ◌&&◌}
use Rattle.store.specs.Kept.{store_of}
use Rattle.serve.specs.Turn.{Standing}
use Rattle.serve.specs.Run.{Reached}
use Rattle.serve.proofs.serve.Given as goal

abbrev pub invariant-turns : goal.invariant-turns
invariant-turns l = let a = l.fn in
    Standing l.s l.input × (l.s.reads && l.s.ended ≡ false)
    × Reached (store_of a.s.state a.rows a.s.table.at) l.s l.input (store_of l.s.state l.rows l.s.table.at)
