-- How a session ends, as an exit status.
-- In order: status_of, IsStatus.
-- Assumes nothing.
use Rattle.std.specs.Prelude.{◌≤◌, ℤ, pos, negsuc, Result, Ok, Err}
use Rattle.serve.specs.declared.Failure.{Failure}

-- 0 only where all input was read and all answers were written
abbrev pub status_of : Result (Unit {0}) Failure → ℤ
status_of (Ok done) = pos 0
status_of (Err f) = pos 1

abbrev pub IsStatus : ℤ → Type 0
IsStatus (pos k) = k ≤ 1
IsStatus (negsuc k) = ⊥
