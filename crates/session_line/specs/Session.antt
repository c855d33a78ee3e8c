-- A session: what each line does to the store and what it is answered. 01 "A session"; docs/DECISIONS.md D5.
-- In order: one line, lines one after the other, the calls that they are. Laws: proofs/Laws/Session.antt.
-- Assumes nothing.
use Rattle.std.specs.Prelude.{List, [], ◌∷◌, ◌++◌, ℕ, drop, replicate, Option, None, Some}
use Rattle.rules.specs.Claim.{words_scanned}
use Rattle.rules.specs.Step.{Call, call_of, step, on_scan_command}
use Rattle.rules.specs.Store.{Store}
use Rattle.rules.specs.declared.Command.{Command}
use Rattle.rules.specs.declared.Reader.{Reader}
use Rattle.session_text.specs.Grammar.{numbers_in, parsed}
use Rattle.session_text.specs.Print.{printed, question}
use Rattle.session_text.specs.declared.Call.{Call as Read}

-- the bitmap that a session lends to a scan: a bit for each of 512 rows
abbrev pub bits : List ℕ
bits = replicate 64 0

-- ---- one line, without its end

-- its call: the rows of an append are the numbers after the first two
abbrev pub call_in : List ℕ → Command → Call
call_in line c = call_of c (drop 2 (numbers_in line)) bits

-- the rows that a scan shows: those at the ones of its bitmap
abbrev pub rows_shown : Command → Store → List ℕ
rows_shown c st = on_scan_command c (λ (r : Reader) (p : ℕ). words_scanned r p bits st) []

abbrev pub after_is : List ℕ → Option Read → Store → Store
after_is line (Some c) st = (step (call_in line c.command) st).store
after_is line None st = st

abbrev pub answer_is : List ℕ → Option Read → Store → List ℕ
answer_is line (Some c) st =
    printed c.command (step (call_in line c.command) st).answer (rows_shown c.command st)
answer_is line None st = question

-- the store after it
unfoldable pub after_line : List ℕ → Store → Store
after_line line st = after_is line (parsed line) st

-- the line that answers it, with its end
unfoldable pub answer_to : List ℕ → Store → List ℕ
answer_to line st = answer_is line (parsed line) st

-- ---- lines one after the other

unfoldable pub after_lines : List (List ℕ) → Store → Store
after_lines [] st = st
after_lines (l ∷ ls) st = after_lines ls (after_line l st)

unfoldable pub answers_to : List (List ℕ) → Store → List ℕ
answers_to [] st = []
answers_to (l ∷ ls) st = answer_to l st ++ answers_to ls (after_line l st)

-- ---- the calls that lines are

abbrev pub calls_is : List ℕ → Option Read → List Call
calls_is line (Some c) = call_in line c.command ∷ []
calls_is line None = []

unfoldable pub calls_of : List ℕ → List Call
calls_of line = calls_is line (parsed line)
