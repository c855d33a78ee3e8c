-- 01's worked session, line by line: what each line of its input is, and what each line of its output says; and lines
-- at the edges of the grammar (docs/DECISIONS.md D5).
-- Assumes nothing.
use mathlib.Core.Path.{◌≡◌, refl}
use mathlib.Core.List.{List, [], ◌∷◌, map}
use Prim.Native.Nat.{ℕ}
use Prim.Native.Char.{code}
use lib.ListN.{replicate}
use Prim.Native.String.{String, [] as none, ◌∷◌ as ◌then◌}
use Rattle.rules.specs.declared.Answer.{Answer}
use Rattle.rules.specs.declared.Answer.TheVariants.{Begun, Appended, Cleared, Closed, BegunRo, EndedRo, Scanned}
use Rattle.rules.specs.declared.Answer.TheVariants.{AdvancedLse, Rewritten, Refused}
use Rattle.rules.specs.declared.Command.{Command}
use Rattle.rules.specs.declared.Command.TheVariants.{Manage, Append, Clear, RollBack, Scan, Purge}
use Rattle.rules.specs.declared.ManagerCall.TheVariants.{Begin, Commit, BeginRo, EndRo, AdvanceLse}
use Rattle.rules.specs.declared.Reader.TheVariants.{Rw, Ro}
use Rattle.rules.specs.declared.Refusal.TheVariants.{NotOpen, Blocked}
use Rattle.std.specs.Prelude.{Option, None, Some}
use Rattle.session_text.specs.declared.Call.{Call}
use Rattle.session_text.specs.Grammar.{words, value_of, is_number, are_numbers, numbers_of, with_one, with_two}
use Rattle.session_text.specs.Grammar.{bare, with_more, with_numbers, scan_by, numbers_in, parsed_short, parsed}
use Rattle.session_text.specs.Print.{decimal_by, printed, question}
use Rattle.session_text.specs.Lines.{before_end, line_end}

abbrev bytes : String → List ℕ
bytes none = []
bytes (c then s) = code c ∷ bytes s

-- ---- input

-- a line, what it is, and its numbers
record Read : Type 0 where
  line : String
  is : Option Call
  numbers : List ℕ

abbrev call : String → Command → List ℕ → Read
call l c ns = record { line = l; is = bare c; numbers = ns }

abbrev append : String → Command → ℕ → List ℕ → Read
append l c rows ns = record { line = l; is = Some (record { command = c; rows = rows }); numbers = ns }

-- the input of 01's session
abbrev input : List Read
input =
    call "B" (Manage Begin) []
    ∷ append "A 1 0 10 11" (Append 1 0) 2 (1 ∷ 0 ∷ 10 ∷ 11 ∷ [])
    ∷ call "B" (Manage Begin) []
    ∷ append "A 2 0 20" (Append 2 0) 1 (2 ∷ 0 ∷ 20 ∷ [])
    ∷ call "C 1" (Manage (Commit 1)) (1 ∷ [])
    ∷ call "R 0" (Manage (BeginRo 0)) (0 ∷ [])
    ∷ call "D 2 0" (Clear 2 0) (2 ∷ 0 ∷ [])
    ∷ call "S l2 0" (Scan (Rw 2) 0) (2 ∷ 0 ∷ [])
    ∷ call "C 2" (Manage (Commit 2)) (2 ∷ [])
    ∷ call "S p1 0" (Scan (Ro 1) 0) (1 ∷ 0 ∷ [])
    ∷ call "R 0" (Manage (BeginRo 0)) (0 ∷ [])
    ∷ call "S p2 0" (Scan (Ro 2) 0) (2 ∷ 0 ∷ [])
    ∷ call "L 2" (Manage (AdvanceLse 2)) (2 ∷ [])
    ∷ call "E 1" (Manage (EndRo 1)) (1 ∷ [])
    ∷ call "L 0" (Manage (AdvanceLse 0)) (0 ∷ [])
    ∷ call "P 0" (Purge 0) (0 ∷ [])
    ∷ append "A 2 0 5" (Append 2 0) 1 (2 ∷ 0 ∷ 5 ∷ [])
    ∷ []

-- other calls: a rollback, no rows, zeros in front, the widest number
abbrev edges : List Read
edges =
    call "X 3" (RollBack 3) (3 ∷ [])
    ∷ call "A 1 0" (Append 1 0) (1 ∷ 0 ∷ [])
    ∷ call "C 007" (Manage (Commit 7)) (7 ∷ [])
    ∷ call "C 18446744073709551615" (Manage (Commit 18446744073709551615)) (18446744073709551615 ∷ [])
    ∷ []

input-read : map (λ (r : Read). parsed (bytes r.line)) input ≡ map (λ (r : Read). r.is) input
unfolding parsed parsed_short words value_of is_number are_numbers numbers_of with_one with_two with_more with_numbers
    scan_by
input-read = refl

input-numbers : map (λ (r : Read). numbers_in (bytes r.line)) input ≡ map (λ (r : Read). r.numbers) input
unfolding words value_of numbers_of numbers_in
input-numbers = refl

edges-read : map (λ (r : Read). parsed (bytes r.line)) edges ≡ map (λ (r : Read). r.is) edges
unfolding parsed parsed_short words value_of is_number are_numbers numbers_of with_one with_two with_more with_numbers
    scan_by
edges-read = refl

edges-numbers : map (λ (r : Read). numbers_in (bytes r.line)) edges ≡ map (λ (r : Read). r.numbers) edges
unfolding words value_of numbers_of numbers_in
edges-numbers = refl

-- lines that are no call
abbrev others : List String
others =
    "" ∷ "B " ∷ "b" ∷ "A 1" ∷ "A 1  0" ∷ "A 1 0 " ∷ "D 1" ∷ "D 1 2 3" ∷ "S 2 0" ∷ "S l2" ∷ "S l2 0 1" ∷ "C" ∷ "C 1\r"
    ∷ "C -1" ∷ "C 18446744073709551616" ∷ []

others-bad : map (λ (l : String). parsed (bytes l)) others ≡ replicate 15 None
unfolding parsed parsed_short words value_of is_number are_numbers numbers_of with_one with_two with_more with_numbers
    scan_by
others-bad = refl

-- ---- output

-- a call with its answer and the rows shown, and the line that says so
record Said : Type 0 where
  line : String
  command : Command
  answer : Answer
  shown : List ℕ

abbrev says : String → Command → Answer → Said
says l c a = record { line = l; command = c; answer = a; shown = [] }

abbrev shows : String → Command → Answer → List ℕ → Said
shows l c a rows = record { line = l; command = c; answer = a; shown = rows }

-- the output of 01's session
abbrev output : List Said
output =
    says "B 0 1\n" (Manage Begin) (Begun 1)
    ∷ says "A 0 2\n" (Append 1 0) (Appended 2)
    ∷ says "B 0 2\n" (Manage Begin) (Begun 2)
    ∷ says "A 0 3\n" (Append 2 0) (Appended 3)
    ∷ says "C 0 1 2\n" (Manage (Commit 1)) (Closed 1 2)
    ∷ says "R 0 1\n" (Manage (BeginRo 0)) (BegunRo 1)
    ∷ says "D 0 3\n" (Clear 2 0) (Cleared 3)
    ∷ shows "S 0\n" (Scan (Rw 2) 0) (Scanned 3 0) []
    ∷ says "C 0 2 0\n" (Manage (Commit 2)) (Closed 2 0)
    ∷ shows "S 0 10 11\n" (Scan (Ro 1) 0) (Scanned 3 2) (10 ∷ 11 ∷ [])
    ∷ says "R 0 2\n" (Manage (BeginRo 0)) (BegunRo 2)
    ∷ shows "S 0\n" (Scan (Ro 2) 0) (Scanned 3 0) []
    ∷ says "L 10\n" (Manage (AdvanceLse 2)) (Refused Blocked)
    ∷ says "E 0 1\n" (Manage (EndRo 1)) (EndedRo 1)
    ∷ says "L 0 2\n" (Manage (AdvanceLse 0)) (AdvancedLse 2)
    ∷ says "P 0 1\n" (Purge 0) (Rewritten 0)
    ∷ says "A 2\n" (Append 2 0) (Refused NotOpen)
    ∷ shows "S 0 18446744073709551615 0\n" (Scan (Ro 1) 0) (Scanned 2 2) (18446744073709551615 ∷ 0 ∷ [])
    ∷ []

output-said : map (λ (s : Said). printed s.command s.answer s.shown) output
    ≡ map (λ (s : Said). bytes s.line) output
unfolding decimal_by printed
output-said = refl

question-said : question ≡ bytes "?\n"
question-said = refl

-- ---- line ends

ends : map (line_end (bytes "B\n\nC 1")) (0 ∷ 1 ∷ 2 ∷ 3 ∷ 6 ∷ 9 ∷ []) ≡ 1 ∷ 1 ∷ 2 ∷ 6 ∷ 6 ∷ 6 ∷ []
unfolding before_end line_end
ends = refl
