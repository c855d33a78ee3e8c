-- Lines in a buffer. 01 "A session"; docs/DECISIONS.md D5.
-- In order: size_in, written_in, line_end. Laws: proofs/Laws/Lines.antt.
-- Assumes nothing.
use Rattle.std.specs.Prelude.{cond, List, [], ◌∷◌, ℕ, zero, suc, ◌+◌, length, drop, ltb, leb, eqb}
use Rattle.lists.specs.Lists.{over}

-- a line stands at the front of a buffer that has room for all of it; else nothing is written
abbrev pub size_in : List ℕ → List ℕ → ℕ
size_in line out = cond (leb (length line) (length out)) (length line) 0

abbrev pub written_in : List ℕ → List ℕ → List ℕ
written_in line out = cond (leb (length line) (length out)) (over 0 line out) out

-- how many bytes stand before the first line end
unfoldable pub before_end : List ℕ → ℕ
before_end [] = zero
before_end (b ∷ bs) = cond (eqb b 10) zero (suc (before_end bs))

-- the index of the first line end at or after `from`, or the length where there is none
unfoldable pub line_end : List ℕ → ℕ → ℕ
line_end input from = cond (ltb from (length input)) (from + before_end (drop from input)) (length input)
