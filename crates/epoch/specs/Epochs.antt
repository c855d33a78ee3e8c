-- Which words name an epoch. 01 "The books": making new takes a starting epoch from the first to the last.
-- Assumes nothing.
use Rattle.std.specs.Prelude.{cond, ℕ, Option, Some, None}
use Rattle.rules.specs.Limits.{last_epoch}
use Rattle.rules.specs.Calls.{within}
use Rattle.epoch.specs.declared.Epoch.{Epoch}

unfoldable pub start_of : ℕ → Option Epoch
start_of s = cond (within 1 last_epoch s) (Some (record { number = s })) None
