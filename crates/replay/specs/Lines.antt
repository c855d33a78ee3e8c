-- The lines of a buffer of input, and those that are answered while there is room. 01 "A session";
-- docs/DECISIONS.md D5.
-- In order: lines_in, bytes_of, answered, replayed; what is left in the buffer of numbers.
-- Laws: proofs/Laws/Lines.antt.
-- Assumes nothing.
use Rattle.std.specs.Prelude.{cond, List, [], ◌∷◌, ℕ, ◌+◌, ◌-◌, length, leb, eqb}
use Rattle.rules.specs.Store.{Store}
use Rattle.session_line.specs.Session.{after_line, answer_to}
use Rattle.session_line.specs.Rooms.{numbers_max, answer_max, held_after}

-- ---- whole lines, each without its end: what stands after the last line end is none

abbrev pub on_line : ℕ → List (List ℕ) → List (List ℕ)
on_line b [] = []
on_line b (l ∷ ls) = (b ∷ l) ∷ ls

unfoldable pub lines_in : List ℕ → List (List ℕ)
lines_in [] = []
lines_in (b ∷ bs) = cond (eqb b 10) ([] ∷ lines_in bs) (on_line b (lines_in bs))

-- the bytes that lines take, with their ends
unfoldable pub bytes_of : List (List ℕ) → ℕ
bytes_of [] = 0
bytes_of (l ∷ ls) = length l + 1 + bytes_of ls

-- ---- the lines that are answered: each while there is room for the longest answer

unfoldable pub answered : ℕ → List (List ℕ) → Store → List (List ℕ)
answered room [] st = []
answered room (l ∷ ls) st =
    cond (leb answer_max room) (l ∷ answered (room - length (answer_to l st)) ls (after_line l st)) []

-- of a buffer of input, with buffers for numbers and for answers
abbrev pub replayed : List ℕ → List ℕ → List ℕ → Store → List (List ℕ)
replayed numbers out input st = answered (cond (leb numbers_max (length numbers)) (length out) 0) (lines_in input) st

-- ---- the buffer of numbers after lines

unfoldable pub held_lines : List (List ℕ) → Store → List ℕ → List ℕ
held_lines [] st numbers = numbers
held_lines (l ∷ ls) st numbers = held_lines ls (after_line l st) (held_after l st numbers)
