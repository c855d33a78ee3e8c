-- 01's numbers and values for what a call answers. 01 "Refusals that come from the input", ".. from the
-- state", and each call; 02 (v).
-- In order: refusal_number (the one table of refusals), Reply, reply_of (the one table of values), accepted, live_part.
-- Laws: laws/proofs/Laws/Answers.antt.
-- Assumes nothing.
use Rattle.std.specs.Prelude.{Bool, List, [], ◌∷◌, ℕ, take, get_or, eqb}
use Rattle.rules.specs.declared.Refusal.{Refusal}
use Rattle.rules.specs.declared.Refusal.TheVariants.{UnknownPartition, NotOpen, ShortOutput}
use Rattle.rules.specs.declared.Refusal.TheVariants.{OutOfRange, Unsound, Exhausted, TxnsFull}
use Rattle.rules.specs.declared.Refusal.TheVariants.{RowsFull, EntriesFull, Blocked, Corrupt}
use Rattle.rules.specs.declared.Answer.{Answer}
use Rattle.rules.specs.declared.Answer.TheVariants.{Created, Begun, Appended, Cleared, Closed, BegunRo}
use Rattle.rules.specs.declared.Answer.TheVariants.{EndedRo, Scanned, AdvancedLse, Rewritten, Skipped}
use Rattle.rules.specs.declared.Answer.TheVariants.{Saved, Recovered, Refused}

abbrev pub refusal_number : Refusal → ℕ
refusal_number UnknownPartition = 1
refusal_number NotOpen = 2
refusal_number ShortOutput = 3
refusal_number OutOfRange = 4
refusal_number Unsound = 5
refusal_number Exhausted = 6
refusal_number TxnsFull = 7
refusal_number RowsFull = 8
refusal_number EntriesFull = 9
refusal_number Blocked = 10
refusal_number Corrupt = 11

-- the number, and the values in 01's order
pub record Reply : Type 0 where
  pub number : ℕ
  pub values : List ℕ

abbrev pub yields : List ℕ → Reply
yields vs = record { number = 0; values = vs }

-- a refusal has no values
abbrev pub reply_of : Answer → Reply
reply_of Created = yields []
reply_of (Begun epoch) = yields (epoch ∷ [])
reply_of (Appended rows) = yields (rows ∷ [])
reply_of (Cleared entries) = yields (entries ∷ [])
reply_of (Closed lce oldest) = yields (lce ∷ oldest ∷ [])
reply_of (BegunRo ticket) = yields (ticket ∷ [])
reply_of (EndedRo left) = yields (left ∷ [])
reply_of (Scanned rows ones) = yields (rows ∷ ones ∷ [])
reply_of (AdvancedLse lse) = yields (lse ∷ [])
reply_of (Rewritten rows) = yields (1 ∷ [])
reply_of (Skipped rows) = yields (0 ∷ [])
reply_of (Saved bytes) = yields (bytes ∷ [])
reply_of Recovered = yields []
reply_of (Refused r) = record { number = refusal_number r; values = [] }

-- the most values that an answer has
abbrev pub values_max : ℕ
values_max = 2

-- where there is no such value it is 0, and so are a refusal's
abbrev pub first_value : Reply → ℕ
first_value r = get_or r.values 0 0

abbrev pub second_value : Reply → ℕ
second_value r = get_or r.values 1 0

abbrev pub accepted : Answer → Bool
accepted a = eqb (reply_of a).number 0

-- the rows in force that purge answers: a part of the old area or of the new one, empty where it was refused
abbrev pub live_part : List ℕ → List ℕ → Answer → List ℕ
live_part old new Created = []
live_part old new (Begun epoch) = []
live_part old new (Appended rows) = []
live_part old new (Cleared entries) = []
live_part old new (Closed lce oldest) = []
live_part old new (BegunRo ticket) = []
live_part old new (EndedRo left) = []
live_part old new (Scanned rows ones) = []
live_part old new (AdvancedLse lse) = []
live_part old new (Rewritten rows) = take rows new
live_part old new (Skipped rows) = take rows old
live_part old new (Saved bytes) = []
live_part old new Recovered = []
live_part old new (Refused r) = []
