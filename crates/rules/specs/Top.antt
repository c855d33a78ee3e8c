-- What a reader hides by one delete, the greatest that it applies: the same rows as by all of them (specs/Hides.antt;
-- `hidden-top`). 01 "Who sees a row".
-- In order: Top, top_delete, covers, flags_by. Laws: laws/proofs/Laws/TopDelete.antt.
-- Assumes nothing.
use Rattle.std.specs.Prelude.{Bool, not, ◌&&◌, ◌||◌, cond, List, [], ◌∷◌, ◌++◌, ℕ, suc, ltb, leb, eqb, length}
use Rattle.std.specs.Prelude.{replicate}
use Rattle.rules.specs.Span.{Span, is_delete}

-- the greatest epoch of an applied delete, and one more than the index of the last such delete; 0 and 0 with
-- none
pub record Top : Type 0 where
  pub epoch : ℕ
  pub at : ℕ

abbrev pub no_top : Top
no_top = record { epoch = 0; at = 0 }

-- the span at index n after those before it
abbrev pub top_step : (ℕ → Bool) → ℕ → Top → Span → Top
top_step a n top s =
    cond (is_delete s && a s.epoch && leb top.epoch s.epoch) (record { epoch = s.epoch; at = suc n }) top

unfoldable pub top_from : (ℕ → Bool) → ℕ → Top → List Span → Top
top_from a n top [] = top
top_from a n top (s ∷ ss) = top_from a (suc n) (top_step a n top s) ss

abbrev pub top_delete : (ℕ → Bool) → List Span → Top
top_delete a ss = top_from a 0 no_top ss

-- what it hides: rows of a smaller epoch, and rows of its own that stand before its last delete
abbrev pub covers : Top → ℕ → ℕ → Bool
covers top i j = ltb j top.epoch || (eqb j top.epoch && ltb i top.at)

-- the flags by it, of the spans from index i on
unfoldable pub flags_by : (ℕ → Bool) → Top → ℕ → List Span → List Bool
flags_by s top i [] = []
flags_by s top i (t ∷ ss) =
    replicate (length t.words) (s t.epoch && not (covers top i t.epoch)) ++ flags_by s top (suc i) ss
