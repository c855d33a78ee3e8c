-- The clock hands out EC and steps it by one. 01 "The books", Begin; 004 III-B "EC".
-- Assumes nothing.
use Rattle.std.specs.Prelude.{cond, ℕ, suc, ◌-◌, ◌^◌, ltb}
use Rattle.rules.specs.Manager.{with_ec}
use Rattle.rules.specs.declared.Clock.{Clock}
use Rattle.epoch.specs.declared.Ticked.{Ticked}

-- the next word; the last one has none, and stays (a sound clock never comes near it)
unfoldable pub stepped : ℕ → ℕ
stepped e = cond (ltb e (2 ^ 64 - 1)) (suc e) e

-- the epoch handed out, and the clock after
unfoldable pub ticked : Clock → Ticked
ticked c = record { epoch = c.ec; clock = with_ec (stepped c.ec) c }
