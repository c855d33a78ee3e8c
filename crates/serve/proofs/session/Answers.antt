-- `serve::session` meets its contract: its buffers are as long as a session needs.
-- Assumes nothing.
use Rattle.std.proofs.Common.{arith}
use Rattle.session_line.specs.Rest.{kept_max}
use Rattle.serve.proofs.session.Goals as goal

pub serve-requires-clause-roomy : goal.serve-requires-clause-roomy
unfolding kept_max
serve-requires-clause-roomy c =
    record { for-numbers = omega arith; for-line = omega arith; for-answer = omega arith }
