-- Append and clear, on spans. 01 "Lots", Append, Clear; 004 III-C 1, 2.
-- In order: appended, cleared. Laws: laws/proofs/Laws/Append.antt.
-- Assumes nothing.
use Rattle.std.specs.Prelude.{Bool, not, ◌&&◌, cond, List, [], ◌∷◌, ◌++◌, ℕ, eqb}
use Rattle.rules.specs.Span.{Span, is_delete}

abbrev pub is_rows_of : ℕ → Span → Bool
is_rows_of i s = not (is_delete s) && eqb s.epoch i

abbrev pub rows_span : ℕ → List ℕ → Span
rows_span i ws = record { epoch = i; mark = 0; words = ws }

abbrev pub delete_span : ℕ → Span
delete_span i = record { epoch = i; mark = 1; words = [] }

-- rows of transaction i at the end: a last rows span of the same epoch grows, else one is added
unfoldable pub extended : ℕ → List ℕ → List Span → List Span
extended i ws [] = rows_span i ws ∷ []
extended i ws (s ∷ []) = cond (is_rows_of i s) (rows_span i (s.words ++ ws) ∷ []) (s ∷ rows_span i ws ∷ [])
extended i ws (s ∷ t ∷ ss) = s ∷ extended i ws (t ∷ ss)

-- a batch of no rows adds nothing
unfoldable pub appended : ℕ → List ℕ → List Span → List Span
appended i [] ss = ss
appended i (w ∷ ws) ss = extended i (w ∷ ws) ss

-- a clearing always adds one entry
unfoldable pub cleared : ℕ → List Span → List Span
cleared i ss = ss ++ (delete_span i ∷ [])
