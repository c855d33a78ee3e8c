-- Up to the last epoch the clock steps by one. Definitions: specs/Ticks.antt.
-- Assumes nothing.
use mathlib.Core.Path.{◌≡◌}
use Prim.Native.Nat.{suc, ◌-◌, ◌≤◌, ◌<◌, ◌^◌}
use native.Mathlib.Omega.{arith}
use borrow.Author.Tests.{lt-ltb}
use Rattle.rules.specs.Limits.{last_epoch}
use Rattle.rules.specs.Manager.{with_ec}
use Rattle.rules.specs.declared.Clock.{Clock}
use Rattle.laws.proofs.Laws.Limits.{last_epoch-fits}
use Rattle.epoch.specs.Ticks.{stepped, ticked}

pub ticked-next : (c : Clock) → c.ec ≤ last_epoch
    → ticked c ≡ record { epoch = c.ec; clock = with_ec (suc c.ec) c }
unfolding ticked stepped
ticked-next c h = let l : c.ec < 2 ^ 64 - 1 = omega (arith, last_epoch-fits) in
    rw (lt-ltb c.ec (2 ^ 64 - 1) l)
