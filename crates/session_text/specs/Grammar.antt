-- The lines that are calls. 01 "A session"; docs/DECISIONS.md D5.
-- In order: the letter of a call, words, numbers, a letter with its numbers, a scan, a line.
-- Laws: proofs/Laws/Grammar.antt.
-- Assumes nothing.
use Rattle.std.specs.Prelude.{Bool, ◌&&◌, cond, List, [], ◌∷◌, map, ℕ, ◌+◌, ◌-◌, ◌*◌, ◌^◌, length, ltb}
use Rattle.std.specs.Prelude.{leb, eqb, Option, None, Some}
use Rattle.std.specs.Option.{is_some}
use Rattle.lists.specs.Lists.{all_of}
use Rattle.rules.specs.declared.Command.{Command}
use Rattle.rules.specs.declared.Command.TheVariants.{Create, Manage, Append, Clear, RollBack, Scan, Purge}
use Rattle.rules.specs.declared.Command.TheVariants.{Save, Recover}
use Rattle.rules.specs.declared.ManagerCall.{ManagerCall}
use Rattle.rules.specs.declared.ManagerCall.TheVariants.{Begin, Commit, BeginRo, EndRo, AdvanceLse}
use Rattle.rules.specs.declared.Reader.TheVariants.{Rw, Ro}
use Rattle.session_text.specs.declared.Call.{Call}

-- a line may have so many bytes without its end
abbrev pub line_max : ℕ
line_max = 16384

-- ---- the letter of a call: no line names making new, saving or recovery, which have theirs for their answers

abbrev pub manager_letter : ManagerCall → ℕ
manager_letter Begin = 66
manager_letter (Commit i) = 67
manager_letter (BeginRo e) = 82
manager_letter (EndRo t) = 69
manager_letter (AdvanceLse t) = 76

abbrev pub letter_of : Command → ℕ
letter_of (Create s) = 78
letter_of (Manage c) = manager_letter c
letter_of (Append i p) = 65
letter_of (Clear i p) = 68
letter_of (RollBack i) = 88
letter_of (Scan r p) = 83
letter_of (Purge p) = 80
letter_of (Save e) = 75
letter_of Recover = 86

-- ---- words, parted by one blank: two blanks have an empty word between them

abbrev pub on_first : ℕ → List (List ℕ) → List (List ℕ)
on_first b [] = (b ∷ []) ∷ []
on_first b (w ∷ ws) = (b ∷ w) ∷ ws

unfoldable pub words : List ℕ → List (List ℕ)
words [] = [] ∷ []
words (b ∷ bs) = cond (eqb b 32) ([] ∷ words bs) (on_first b (words bs))

-- ---- numbers: decimal digits, of at most 64 bits by value

abbrev pub is_digit : ℕ → Bool
is_digit b = leb 48 b && leb b 57

-- the value of digits that follow a value v
unfoldable pub value_of : ℕ → List ℕ → ℕ
value_of v [] = v
value_of v (b ∷ bs) = value_of (10 * v + (b - 48)) bs

unfoldable pub is_number : List ℕ → Bool
is_number w = ltb 0 (length w) && all_of is_digit w && ltb (value_of 0 w) (2 ^ 64)

unfoldable pub are_numbers : List ℕ → Bool
are_numbers bs = all_of is_number (words bs)

unfoldable pub numbers_of : List ℕ → List ℕ
numbers_of bs = map (value_of 0) (words bs)

-- ---- a letter and its numbers: C, X, R, E, L, P with one, D with two, A with two and its rows

-- a call without rows
abbrev pub bare : Command → Option Call
bare c = Some (record { command = c; rows = 0 })

unfoldable pub with_one : ℕ → ℕ → Option Call
with_one letter a =
    cond (eqb letter 67) (bare (Manage (Commit a)))
    (cond (eqb letter 88) (bare (RollBack a))
    (cond (eqb letter 82) (bare (Manage (BeginRo a)))
    (cond (eqb letter 69) (bare (Manage (EndRo a)))
    (cond (eqb letter 76) (bare (Manage (AdvanceLse a)))
    (cond (eqb letter 80) (bare (Purge a)) None)))))

unfoldable pub with_two : ℕ → ℕ → ℕ → Option Call
with_two letter a b = cond (eqb letter 65) (bare (Append a b)) (cond (eqb letter 68) (bare (Clear a b)) None)

unfoldable pub with_more : ℕ → ℕ → ℕ → ℕ → Option Call
with_more letter a b rows = cond (eqb letter 65) (Some (record { command = Append a b; rows = rows })) None

unfoldable pub with_numbers : ℕ → List ℕ → Option Call
with_numbers letter [] = None
with_numbers letter (a ∷ []) = with_one letter a
with_numbers letter (a ∷ b ∷ []) = with_two letter a b
with_numbers letter (a ∷ b ∷ r ∷ rs) = with_more letter a b (length (r ∷ rs))

-- ---- S: who, l and an epoch or p and a ticket, then the partition

unfoldable pub scan_by : ℕ → List ℕ → Option Call
scan_by who [] = None
scan_by who (a ∷ []) = None
scan_by who (a ∷ b ∷ []) =
    cond (eqb who 108) (bare (Scan (Rw a) b)) (cond (eqb who 112) (bare (Scan (Ro a) b)) None)
scan_by who (a ∷ b ∷ c ∷ rs) = None

-- ---- a line, without its end

-- where its numbers begin: after the letter and a blank, and of a scan after the letter of who
unfoldable pub numbers_in : List ℕ → List ℕ
numbers_in [] = []
numbers_in (letter ∷ []) = []
numbers_in (letter ∷ b ∷ []) = []
numbers_in (letter ∷ b ∷ c ∷ bs) = cond (eqb letter 83) (numbers_of bs) (numbers_of (c ∷ bs))

unfoldable pub parsed_short : List ℕ → Option Call
parsed_short [] = None
parsed_short (letter ∷ []) = cond (eqb letter 66) (bare (Manage Begin)) None
parsed_short (letter ∷ b ∷ []) = None
parsed_short (letter ∷ b ∷ c ∷ bs) =
    cond (eqb b 32)
    (cond (eqb letter 83)
    (cond (are_numbers bs) (scan_by c (numbers_of bs)) None)
    (cond (are_numbers (c ∷ bs)) (with_numbers letter (numbers_of (c ∷ bs))) None))
    None

unfoldable pub parsed : List ℕ → Option Call
parsed line = cond (ltb line_max (length line)) None (parsed_short line)

abbrev pub is_call : Option Call → Bool
is_call = is_some
