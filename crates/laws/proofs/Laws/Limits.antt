-- What proofs may use of the limits, without their values. Definitions: rules/specs/Limits.antt.
-- Assumes nothing.
use Prim.Native.Nat.{suc, ◌<◌, ◌^◌}
use native.Mathlib.Omega.{arith}
use Rattle.rules.specs.Limits.{last_epoch, last_ticket}

-- EC, one above the last epoch, is a 64-bit word, and so is the next ticket
pub last_epoch-fits : suc last_epoch < 2 ^ 64
unfolding last_epoch
last_epoch-fits = omega arith

pub last_ticket-fits : suc last_ticket < 2 ^ 64
unfolding last_ticket
last_ticket-fits = omega arith
