-- Roll back and purge, on spans: what stays, joined. 01 "Lots", Roll back, Purge; 004 III-C 4, 5.
-- In order: joined, rolled_back, purged, skips. Laws: laws/proofs/Laws/Rewrite.antt.
-- Assumes nothing.
use Rattle.std.specs.Prelude.{Bool, not, ◌&&◌, cond, ℕ, max, leb, eqb}
use mathlib.Core.List.{List, [], ◌∷◌, ◌++◌, foldr}
use Rattle.lists.specs.Lists.{keep_if, any_of, all_of}
use Rattle.rules.specs.Span.{Span, is_delete}
use Rattle.rules.specs.Append.{is_rows_of, rows_span}
use Rattle.rules.specs.Sees.{up_to}
use Rattle.rules.specs.Hides.{hidden}

-- s in front of spans that are joined already: it is joined with the first if both are rows of one epoch
unfoldable pub joined_onto : Span → List Span → List Span
joined_onto s [] = s ∷ []
joined_onto s (t ∷ ts) =
    cond (not (is_delete s) && is_rows_of s.epoch t) (rows_span s.epoch (s.words ++ t.words) ∷ ts) (s ∷ t ∷ ts)

unfoldable pub joined : List Span → List Span
joined ss = foldr joined_onto [] ss

-- roll back: the transaction's rows and entries go
unfoldable pub has_epoch : ℕ → List Span → Bool
has_epoch i ss = any_of (λ s. eqb s.epoch i) ss

unfoldable pub rolled_back : ℕ → List Span → List Span
rolled_back i ss = joined (keep_if (λ s. not (eqb s.epoch i)) ss)

-- purge at l: a delete of k ≤ l goes, with the rows that it hides; other rows of at most l get epoch l.
-- A delete above l stays, and so do rows that end at it: they are of its epoch.
unfoldable pub purged_in : ℕ → List Span → List Span → List Span
purged_in l all [] = []
purged_in l all (s ∷ ss) =
    cond (is_delete s)
    (cond (leb s.epoch l) (purged_in l all ss) (s ∷ purged_in l all ss))
    (cond (hidden (up_to l) all (s ∷ ss) s.epoch) (purged_in l all ss)
    (rows_span (max s.epoch l) s.words ∷ purged_in l all ss))

unfoldable pub purged : ℕ → List Span → List Span
purged l ss = joined (purged_in l ss ss)

-- purge is skipped exactly if no entry is below l and no delete at or below it
unfoldable pub skips : ℕ → List Span → Bool
skips l ss = all_of (λ s. leb l s.epoch && not (is_delete s && leb s.epoch l)) ss
