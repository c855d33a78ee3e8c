-- What a session's turn makes of the bytes held and of those that came. 01 "A session"; docs/DECISIONS.md D5, D45.
-- In order: Roomy; the bytes held, what a read makes of them; owed, Standing, Opened; Answered, Turned.
-- Laws: proofs/Laws/Turn.antt.
-- Assumes nothing.
use Rattle.std.specs.Prelude.{◌≡◌, Bool, true, false, cond, List, [], ◌∷◌, ◌++◌, ℕ, ◌+◌, ◌≤◌, ◌<◌, eqb, length}
use Rattle.std.specs.Prelude.{take, drop}
use Rattle.rules.specs.Store.{Store}
use Rattle.session_line.specs.Session.{answers_to}
use Rattle.session_line.specs.Rooms.{numbers_max, answer_max}
use Rattle.session_line.specs.Rest.{kept_max}
use Rattle.replay.specs.Lines.{lines_in}
use Rattle.replay.specs.Chunks.{rest_in, session_lines}
use Rattle.serve.specs.declared.turn.Session.{Session}

-- the buffers have room: for the numbers of every line, for the longest front of a line and its end, for every answer
pub record Roomy (numbers input out : List ℕ) : Type 0 where
  pub for-numbers : numbers_max ≤ length numbers
  pub for-line : kept_max < length input
  pub for-answer : answer_max ≤ length out

-- ---- the bytes held

abbrev pub held_in : Session → List ℕ → List ℕ
held_in s input = drop s.from (take s.end input)

-- the so many bytes that a read brought behind them: none where none were wanted
abbrev pub came_in : Session → ℕ → List ℕ → List ℕ
came_in s count input = cond s.reads (take count (drop s.end input)) []

-- a read that brought nothing: the input has ended
abbrev pub is_over : ℕ → Bool
is_over count = eqb count 0

abbrev pub ended_by : Session → ℕ → Bool
ended_by s count = cond s.reads (is_over count) s.ended

-- the last line with its end, unless there is nothing
abbrev pub closed : List ℕ → List ℕ
closed [] = []
closed (b ∷ bs) = (b ∷ bs) ++ 10 ∷ []

-- the front of the buffer once a read is taken in: so many bytes more behind its `end`, or the input is over
abbrev pub taken_in : Bool → Bool → ℕ → ℕ → List ℕ → List ℕ
taken_in reads over count end input =
    cond reads (cond over (closed (take end input)) (take (end + count) input)) (take end input)

-- ---- what is owed: the answers to all lines of the bytes held and of those yet to come

abbrev pub owed : List ℕ → List ℕ → Store → List ℕ
owed held more st = answers_to (session_lines (held ++ more)) st

-- where the bytes held lie: where more is wanted no line is whole, and there is room; at the end of the input every
-- line is whole
pub record Standing (s : Session) (input : List ℕ) : Type 0 where
  pub order : s.from ≤ s.end
  pub within : s.end ≤ length input
  pub front : s.reads ≡ true → (s.from ≡ 0) × (s.end ≤ kept_max)
  pub lines : s.reads ≡ true → lines_in (held_in s input) ≡ []
  pub last : s.ended ≡ true → rest_in (held_in s input) ≡ []

-- nothing is held yet
pub record Opened (s : Session) : Type 0 where
  pub from : s.from ≡ 0
  pub end : s.end ≡ 0
  pub ended : s.ended ≡ false

-- ---- a turn: whatever comes after, what was owed is what is written out, and then what is owed after it

-- of the bytes held; where every line of them is whole, so is every line left
pub record Answered (held : List ℕ) (before : Store) (r : Session) (input out : List ℕ) (after : Store) : Type 0 where
  pub owing : (more : List ℕ) → owed held more before ≡ take r.written out ++ owed (held_in r input) more after
  pub size : r.written ≤ length out
  pub order : r.from ≤ r.end
  pub within : r.end ≤ length input
  pub front : r.reads ≡ true → (r.from ≡ 0) × (r.end ≤ kept_max)
  pub lines : r.reads ≡ true → lines_in (held_in r input) ≡ []
  pub last : rest_in held ≡ [] → rest_in (held_in r input) ≡ []

-- of the bytes held and those that came; at the end of the input nothing comes after
pub record Turned (s : Session) (count : ℕ) (start : List ℕ) (before : Store) (r : Session) (input out : List ℕ)
    (after : Store) : Type 0 where
  pub ended : r.ended ≡ ended_by s count
  pub owing : (more : List ℕ) → (r.ended ≡ true → more ≡ [])
      → owed (held_in s start ++ came_in s count start) more before
      ≡ take r.written out ++ owed (held_in r input) more after
  pub size : r.written ≤ length out
  pub stands : Standing r input
