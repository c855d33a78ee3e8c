-- A session's whole input, and the same input as it comes, in chunks. 01 "A session"; docs/DECISIONS.md D5.
-- In order: rest_in, last_line, session_lines, fed. Laws: proofs/Laws/Chunks.antt (the chunks do not matter).
-- Assumes nothing.
use Rattle.std.specs.Prelude.{List, [], ◌∷◌, ◌++◌, ℕ, take, drop}
use Rattle.rules.specs.Store.{Store}
use Rattle.session_line.specs.Session.{after_lines, answers_to}
use Rattle.session_line.specs.Rest.{kept_max}
use Rattle.replay.specs.Lines.{lines_in, bytes_of}

-- what stands after the last line end
abbrev pub rest_in : List ℕ → List ℕ
rest_in bs = drop (bytes_of (lines_in bs)) bs

-- at the end of input it is a line, unless there is nothing
abbrev pub last_line : List ℕ → List (List ℕ)
last_line [] = []
last_line (b ∷ bs) = (b ∷ bs) ∷ []

-- the lines of a whole input
abbrev pub session_lines : List ℕ → List (List ℕ)
session_lines input = lines_in input ++ last_line (rest_in input)

-- the answers to chunks, after the held front of a line: of each, its whole lines, and its rest is held,
-- cut where the line is too long
unfoldable pub fed : List ℕ → List (List ℕ) → Store → List ℕ
fed held [] st = answers_to (last_line held) st
fed held (c ∷ cs) st =
    let bs = held ++ c in
    answers_to (lines_in bs) st ++ fed (take kept_max (rest_in bs)) cs (after_lines (lines_in bs) st)
