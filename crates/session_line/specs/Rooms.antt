-- A session's lines in lent buffers. 01 "A session"; docs/DECISIONS.md D5.
-- In order: how much room a line takes at most, what it leaves in the buffer of numbers.
-- Laws: proofs/Laws/Rooms.antt (so much room is always enough), replay/proofs/Laws/Line.antt.
-- Assumes nothing.
use Rattle.std.specs.Prelude.{List, ℕ, Option, None, Some}
use Rattle.lists.specs.Lists.{over}
use Rattle.rules.specs.Store.{Store}
use Rattle.session_text.specs.Grammar.{numbers_in, parsed}
use Rattle.session_text.specs.declared.Call.{Call}
use Rattle.session_line.specs.Session.{rows_shown}

-- the numbers of a line, and the rows that it shows
abbrev pub numbers_max : ℕ
numbers_max = 8192

-- the bytes of an answer
abbrev pub answer_max : ℕ
answer_max = 16384

-- ---- the buffer of numbers: those of a call at the front, then over them the rows shown

abbrev pub held_is : List ℕ → Option Call → Store → List ℕ → List ℕ
held_is line (Some c) st numbers = over 0 (rows_shown c.command st) (over 0 (numbers_in line) numbers)
held_is line None st numbers = numbers

unfoldable pub held_after : List ℕ → Store → List ℕ → List ℕ
held_after line st numbers = held_is line (parsed line) st numbers
