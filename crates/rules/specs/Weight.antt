-- What rows weigh. 02 (iii): a row's low 32 bits are milligrams.
-- In order: milligrams, weight, weight_by, total. Laws: laws/proofs/Laws/Weight.antt.
-- Assumes nothing.
use Rattle.std.specs.Prelude.{Bool, List, [], ◌∷◌, ℕ, ◌+◌, ◌%◌}
use Rattle.rules.specs.Span.{Span}
use Rattle.rules.specs.Sees.{up_to}
use Rattle.rules.specs.Hides.{shown}

-- of a row: row 4,294,967,301 weighs 5
abbrev pub milligrams : ℕ → ℕ
milligrams w = w % 4294967296

-- of rows
unfoldable pub weight : List ℕ → ℕ
weight [] = 0
weight (w ∷ ws) = milligrams w + weight ws

-- of what a reader is shown that sees the epochs of a test, and applies the deletes of these
unfoldable pub weight_by : (ℕ → Bool) → List Span → ℕ
weight_by sees ss = weight (shown sees sees ss)

-- a partition's total at e: the milligrams of what a read-only transaction (01: page) at e is shown
unfoldable pub total : ℕ → List Span → ℕ
total e ss = weight_by (up_to e) ss
