-- A partition's rows and entries as spans: an entry with the rows that it adds. 01 "Words", Entry, and
-- "Lots".
-- In order: Span, spans, entries_of, words_of. Laws: laws/proofs/Laws/Span.antt (spans and entries_of are inverse).
-- Assumes nothing.
use Rattle.std.specs.Prelude.{Bool, List, [], ◌∷◌, ℕ, ◌+◌, ◌-◌, length, take, drop, eqb}
use Rattle.lists.specs.Lists.{gather}
use Rattle.rules.specs.declared.Entry.{Entry}

-- The words are the rows of this epoch that end where the entry ends. A delete adds none in any store that
-- calls made; where its end lies above the end before it, 01's soundness allows that, and the rows between
-- are of its epoch and before it.
pub record Span : Type 0 where
  pub epoch : ℕ
  pub mark : ℕ
  pub words : List ℕ

-- 01: a clearing
abbrev pub is_delete : Span → Bool
is_delete s = eqb s.mark 1

-- the spans of entries whose first begins at row n, and the words from there on
unfoldable pub spans : ℕ → List Entry → List ℕ → List Span
spans n [] ws = []
spans n (e ∷ es) ws =
    record { epoch = e.epoch; mark = e.mark; words = take (e.end - n) ws }
    ∷ spans e.end es (drop (e.end - n) ws)

-- the entries of spans whose first begins at row n
unfoldable pub entries_of : ℕ → List Span → List Entry
entries_of n [] = []
entries_of n (s ∷ ss) =
    let end = n + length s.words in record { epoch = s.epoch; end = end; mark = s.mark } ∷ entries_of end ss

unfoldable pub words_of : List Span → List ℕ
words_of ss = gather (λ s. s.words) ss
