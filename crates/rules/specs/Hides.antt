-- Which rows a delete hides, and which a reader is shown. 01 "Who sees a row".
-- In order: hidden, flags, shown. Laws: laws/proofs/Laws/Hides.antt.
-- Assumes nothing.
use Rattle.std.specs.Prelude.{Bool, not, ◌&&◌, ◌||◌, cond, List, [], ◌∷◌, ◌++◌, ℕ, length, replicate, ltb, eqb}
use Rattle.lists.specs.Lists.{any_of}
use Rattle.rules.specs.Span.{Span, is_delete}

-- Rows of epoch j whose span is the first of rest, in the partition all: an applied delete of a later epoch
-- hides them wherever it stands; one of their own epoch hides them where it stands behind them, which their
-- own span does if it is a delete.
unfoldable pub hidden : (ℕ → Bool) → List Span → List Span → ℕ → Bool
hidden applies all rest j =
    any_of (λ s. is_delete s && (applies s.epoch && ltb j s.epoch)) all
    || any_of (λ s. is_delete s && (applies s.epoch && eqb j s.epoch)) rest

-- of each row in order, whether it is shown
unfoldable pub flags_in : (ℕ → Bool) → (ℕ → Bool) → List Span → List Span → List Bool
flags_in sees applies all [] = []
flags_in sees applies all (s ∷ ss) =
    replicate (length s.words) (sees s.epoch && not (hidden applies all (s ∷ ss) s.epoch))
    ++ flags_in sees applies all ss

unfoldable pub flags : (ℕ → Bool) → (ℕ → Bool) → List Span → List Bool
flags sees applies ss = flags_in sees applies ss ss

-- the words of the rows that are shown, in order
unfoldable pub shown_in : (ℕ → Bool) → (ℕ → Bool) → List Span → List Span → List ℕ
shown_in sees applies all [] = []
shown_in sees applies all (s ∷ ss) =
    cond (sees s.epoch && not (hidden applies all (s ∷ ss) s.epoch)) s.words [] ++ shown_in sees applies all ss

unfoldable pub shown : (ℕ → Bool) → (ℕ → Bool) → List Span → List ℕ
shown sees applies ss = shown_in sees applies ss ss
