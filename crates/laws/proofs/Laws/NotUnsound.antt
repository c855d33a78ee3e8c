-- Answers that are not 5. 01 "Refusals that come from the state".
-- Assumes nothing.
use mathlib.Core.Path.{◌≡◌}
use mathlib.Core.Bool.{Bool, true, false, cond}
use lib.Dec.{eqb}
use Rattle.rules.specs.Answers.{refusal_number, reply_of}
use Rattle.rules.specs.Calls.{refuse}
use Rattle.rules.specs.declared.Refusal.{Refusal}
use Rattle.rules.specs.declared.Answer.{Answer}

pub record Not5 (a : Answer) : Type 0 where
  pub number : eqb (reply_of a).number 5 ≡ false

-- the last of the answer's cases
pub ends : (a : Answer) → eqb (reply_of a).number 5 ≡ false → Not5 a
ends a h = record { number = h }

-- one refusal more in front
pub past : (r : Refusal) (test : Bool) (a : Answer) → eqb (refusal_number r) 5 ≡ false → Not5 a → Not5 (refuse r test a)
past r true a h k = record { number = h }
past r false a h k = k

pub either_way : (test : Bool) (a b : Answer) → Not5 a → Not5 b → Not5 (cond test a b)
either_way true a b h k = h
either_way false a b h k = k
