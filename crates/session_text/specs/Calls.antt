-- A call from its letter and its numbers, as the code makes it. 01 "A session".
-- In order: call_by, call_on, numbers_call, from_of, in_room, if_call. Laws: proofs/Laws/Calls.antt.
-- Assumes nothing.
use Rattle.std.specs.Prelude.{cond, List, [], ◌∷◌, ℕ, ◌-◌, length, leb, eqb, Option, None}
use Rattle.lists.specs.Lists.{over}
use Rattle.session_text.specs.declared.Call.{Call}
use Rattle.session_text.specs.Grammar.{with_one, with_two, with_more, with_numbers, scan_by, are_numbers, numbers_of}
use Rattle.session_text.specs.Grammar.{is_call}

-- of n numbers, at least one, the first two being a and b
abbrev pub call_by : ℕ → ℕ → ℕ → ℕ → ℕ → Option Call
call_by letter who n a b =
    cond (eqb letter 83)
    (cond (eqb n 2) (scan_by who (a ∷ b ∷ [])) None)
    (cond (eqb n 1) (with_one letter a) (cond (eqb n 2) (with_two letter a b) (with_more letter a b (n - 2))))

-- of its numbers
abbrev pub call_on : ℕ → ℕ → List ℕ → Option Call
call_on letter who ns = cond (eqb letter 83) (scan_by who ns) (with_numbers letter ns)

-- of the bytes in which the numbers stand
abbrev pub numbers_call : ℕ → ℕ → List ℕ → Option Call
numbers_call letter who bs = cond (are_numbers bs) (call_on letter who (numbers_of bs)) None

-- where they begin: S names who scans in the byte before
abbrev pub from_of : ℕ → ℕ
from_of letter = cond (eqb letter 83) 3 2

-- ---- with a buffer for the numbers

-- what a line is, where its numbers have room
abbrev pub in_room : List ℕ → List ℕ → Option Call → Option Call
in_room ns buffer p = cond (leb (length ns) (length buffer)) p None

-- of a call they stand at the front; else nothing is written
abbrev pub if_call : Option Call → List ℕ → List ℕ → List ℕ
if_call p ns buffer = cond (is_call p) (over 0 ns buffer) buffer
