-- The entries of an area as spans, whatever the words: what is shown and what a rewrite keeps needs only their
-- number. 01 "Lots".
-- In order: bare_span, bare.
-- Assumes nothing.
use Rattle.std.specs.Prelude.{List, [], ◌∷◌, ℕ, ◌-◌, replicate}
use Rattle.rules.specs.declared.Entry.{Entry}
use Rattle.rules.specs.Span.{Span}

-- an entry with k rows, all 0
abbrev pub bare_span : ℕ → Entry → Span
bare_span k e = record { epoch = e.epoch; mark = e.mark; words = replicate k 0 }

-- the spans of entries whose first begins at row n
unfoldable pub bare : ℕ → List Entry → List Span
bare n [] = []
bare n (e ∷ es) = bare_span (e.end - n) e ∷ bare e.end es
