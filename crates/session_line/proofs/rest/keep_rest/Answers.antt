-- `session_line::rest::keep_rest` meets its contract.
-- Assumes nothing.
use Rattle.std.proofs.Common.{◌≡◌, ◌-◌, min, length}
use Rattle.session_line.specs.Rest.{kept_max}
use Rattle.session_line.proofs.Laws.Rest.{kept-copied}
use Rattle.session_line.proofs.rest.keep_rest.Goals as goal

pub returns : goal.returns
unfolding kept_max
returns c = let a = c.args in
    let n : c.min-n.result ≡ min (min kept_max (a.to - a.from)) (length a.buffer.now - a.from) =
    rw c.min.ensures at c.min-n.ensures in
    let s = kept-copied a.buffer.now a.from a.to c.min-n.result c.copy_within.new.self n c.copy_within.ensures.after in
    record { size = s.0; bytes = s.1 }
