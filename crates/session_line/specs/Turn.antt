-- One turn of the loop over lines: a line found, read, handed on, answered. 01 "A session".
-- In order: where the next line stands; a line read; what it is handed on as; its answer.
-- Laws: proofs/Laws/Turn.antt, replay/proofs/Laws/Turn.antt.
-- Assumes nothing.
use Rattle.std.specs.Prelude.{false, cond, List, [], ℕ, ◌+◌, ◌-◌, min, leb, eqb, length, take, drop, Option, None, Some}
use Rattle.lists.specs.Lists.{over}
use Rattle.rules.specs.Limits.{partitions_max}
use Rattle.rules.specs.declared.Command.{Command}
use Rattle.rules.specs.declared.Command.TheVariants.{Purge}
use Rattle.session_text.specs.Grammar.{numbers_in, parsed, is_call}
use Rattle.session_text.specs.Lines.{size_in, line_end}
use Rattle.session_text.specs.Print.{printed, question}
use Rattle.session_text.specs.declared.Call.{Call}
use Rattle.rules.specs.declared.Kept.{Kept}
use Rattle.session_line.specs.Rooms.{numbers_max, answer_max}
use Rattle.session_line.specs.Shown.{shown_in, fitting}
use Rattle.session_line.specs.declared.turn.Cursor.{Cursor}

-- ---- where the next line stands

-- bytes for answers, of buffers of so many words and bytes
abbrev pub room_for : ℕ → ℕ → ℕ
room_for numbers out = cond (leb numbers_max numbers) out 0

abbrev pub cursor_at : List ℕ → ℕ → ℕ → ℕ → Cursor
cursor_at input room used written =
    let e = line_end input used in
    record {
      used = used;
      end = e;
      written = written;
      more = cond (eqb e (length input)) false (leb answer_max (room - written));
    }

-- once the line is answered by `said`
abbrev pub cursor_after : List ℕ → List ℕ → List ℕ → Cursor → Cursor
cursor_after said input out at =
    let w = min at.written (length out) in
    cursor_at input (length out) (min (at.end + 1) (length input)) (w + size_in said (drop w out))

-- ---- a line read

abbrev pub line_at : Cursor → List ℕ → List ℕ
line_at at input =
    let e = min at.end (length input) in let i = min at.used e in
    take (e - i) (drop i input)

-- as session_text reads it
abbrev pub parsed_in : List ℕ → List ℕ → Option Call
parsed_in line numbers = cond (leb (length (numbers_in line)) (length numbers)) (parsed line) None

abbrev pub words_in : List ℕ → List ℕ → List ℕ
words_in line numbers = cond (is_call (parsed_in line numbers)) (over 0 (numbers_in line) numbers) numbers

-- ---- what it is handed on as: one that is no call does nothing

abbrev pub command_in : Option Call → Command
command_in (Some c) = c.command
command_in None = Purge partitions_max

abbrev pub rows_in : Option Call → ℕ
rows_in (Some c) = c.rows
rows_in None = 0

-- ---- its answer, by what the call left: the rows shown, and the bytes

abbrev pub shown_of : Option Call → Kept → List ℕ → List ℕ → List ℕ → List ℕ
shown_of (Some c) k bitmap rows numbers =
    fitting (shown_in c.command k.answer k.state.partitions bitmap rows) numbers
shown_of None k bitmap rows numbers = []

abbrev pub said_in : Option Call → Kept → List ℕ → List ℕ → List ℕ → List ℕ
said_in (Some c) k bitmap rows numbers = printed c.command k.answer (shown_of (Some c) k bitmap rows numbers)
said_in None k bitmap rows numbers = question
