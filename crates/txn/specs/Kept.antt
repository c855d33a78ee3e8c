-- What a call on the manager hands back: the books after it, and the answer. 01 "Refusals": a refusal changes nothing.
-- Assumes nothing.
use Rattle.std.specs.Prelude.{cond}
use Rattle.rules.specs.Answers.{accepted}
use Rattle.rules.specs.Manager.{Manager, manager_in}
use Rattle.rules.specs.Store.{with_manager_in}
use Rattle.rules.specs.declared.Answer.{Answer}
use Rattle.rules.specs.declared.Kept.{Kept}
use Rattle.rules.specs.declared.State.{State}

-- next is the manager that an accepted call leaves
abbrev pub kept_of : Answer → Manager → State → Kept
kept_of a next s = record { state = with_manager_in (cond (accepted a) next (manager_in s)) s; answer = a }
