-- `epoch::tick::advance` meets its contract: EC is handed out, and stepped where it has a next word.
-- Assumes nothing.
use Rattle.std.proofs.Common.{refl, lt-ltb, le-ltb, add-one}
use Rattle.epoch.specs.Ticks.{stepped, ticked}
use Rattle.epoch.proofs.tick.advance.Goals as goal

pub returns-then-e-lt-WORD_MAX : goal.returns-then-e-lt-WORD_MAX
unfolding ticked stepped
returns-then-e-lt-WORD_MAX c = let ec = c.args.clock.now.ec in
    (refl, rw (add-one ec, lt-ltb ec 18446744073709551615 c.if-e-lt-WORD_MAX.true) refl)

pub returns-else-e-lt-WORD_MAX : goal.returns-else-e-lt-WORD_MAX
unfolding ticked stepped
returns-else-e-lt-WORD_MAX c = let ec = c.args.clock.now.ec in
    (refl, rw (le-ltb ec 18446744073709551615 c.if-e-lt-WORD_MAX.false) refl)
