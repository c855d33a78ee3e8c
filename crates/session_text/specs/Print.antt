-- The line that answers a call. 01 "A session".
-- In order: decimal, spaced, line_of, printed, question. Laws: proofs/Laws/Print.antt.
-- Assumes nothing.
use Rattle.std.specs.Prelude.{cond, List, [], ◌∷◌, ◌++◌, ℕ, zero, suc, ◌+◌, ◌/◌, ◌%◌, ltb}
use Rattle.lists.specs.Lists.{gather}
use Rattle.rules.specs.Answers.{reply_of}
use Rattle.rules.specs.Step.{on_scan_command}
use Rattle.rules.specs.declared.Answer.{Answer}
use Rattle.rules.specs.declared.Command.{Command}
use Rattle.rules.specs.declared.Reader.{Reader}
use Rattle.session_text.specs.Grammar.{letter_of}

-- the decimal digits of a number of at most k + 1 digits, no zeros in front
unfoldable pub decimal_by : ℕ → ℕ → List ℕ
decimal_by zero n = (48 + n % 10) ∷ []
decimal_by (suc k) n = cond (ltb n 10) ((48 + n) ∷ []) (decimal_by k (n / 10) ++ ((48 + n % 10) ∷ []))

-- a 64-bit number has at most 20
abbrev pub decimal : ℕ → List ℕ
decimal n = decimal_by 19 n

-- a blank and a number
abbrev pub spaced : ℕ → List ℕ
spaced n = 32 ∷ decimal n

-- a letter, a number, values, and the line's end
abbrev pub line_of : ℕ → ℕ → List ℕ → List ℕ
line_of letter n values = letter ∷ spaced n ++ (gather spaced values ++ (10 ∷ []))

-- the letter, the number, the values, and the line's end; of a scan the rows that it shows
unfoldable pub printed : Command → Answer → List ℕ → List ℕ
printed c a shown =
    line_of (letter_of c) (reply_of a).number (on_scan_command c (λ (r : Reader) (p : ℕ). shown) (reply_of a).values)

-- a line that is no call
abbrev pub question : List ℕ
question = 63 ∷ 10 ∷ []
