-- One byte more of a line's numbers. 01 "A session"; docs/DECISIONS.md D5.
-- In order: grown_by, ended, stepped. Laws: proofs/Laws/Numbers.antt.
-- Assumes nothing.
use Rattle.std.specs.Prelude.{◌&&◌, cond, ℕ, ◌+◌, ◌-◌, ◌*◌, ◌^◌, ltb, eqb, Option, None, Some}
use Rattle.std.specs.Option.{unwrap_or}
use Rattle.session_text.specs.declared.numbers.Passed.{Passed}
use Rattle.session_text.specs.Grammar.{is_digit}

-- a value with one digit more
abbrev pub grown_by : ℕ → ℕ → ℕ
grown_by v b = 10 * v + (b - 48)

-- a number ends that has a digit
abbrev pub ended : ℕ → Option ℕ → Option Passed
ended n (Some v) = Some (record { count = n + 1; value = None })
ended n None = None

-- a blank ends a number that has a digit; another byte must be a digit that keeps the number within 64 bits
unfoldable pub stepped : Passed → ℕ → Option Passed
stepped p b =
    let v = grown_by (unwrap_or p.value 0) b in
    cond (eqb b 32) (ended p.count p.value)
    (cond (is_digit b && ltb v (2 ^ 64)) (Some (record { count = p.count; value = Some v })) None)
