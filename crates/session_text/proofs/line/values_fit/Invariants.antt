-- The values that are left fit what is left of the room where all fit the room.
-- Assumes nothing.
use Rattle.std.proofs.Common.{◌≡◌, length, drop}
use Rattle.std.specs.Prelude.{leb}
use Rattle.lists.specs.Lists.{gather}
use Rattle.session_text.specs.Print.{spaced}
use Rattle.session_text.proofs.line.values_fit.Given as goal

abbrev pub invariant-loop-value : goal.invariant-loop-value
invariant-loop-value l =
    leb (length (gather spaced l.values)) l.room ≡ leb (length (gather spaced (drop l.value-index l.values))) l.left
