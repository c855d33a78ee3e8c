-- What a plan keeps of an area: its spans with their new epochs, joined. 01 "Lots", Roll back, Purge; 004
-- III-C 4, 5.
-- In order: kept, ends_fit, area_of, kept_of, rewritten_of. Laws: proofs/Laws/Kept.antt.
-- Assumes nothing.
use Rattle.std.specs.Prelude.{Bool, ◌&&◌, cond, List, [], ◌∷◌, ℕ, leb, eqb, length}
use Rattle.lists.specs.Lists.{pad}
use Rattle.rules.specs.Limits.{rows_max, entries_max}
use Rattle.rules.specs.Span.{Span, is_delete, entries_of, words_of}
use Rattle.rules.specs.Rewrite.{joined}
use Rattle.rules.specs.declared.Entry.{Entry}
use Rattle.rules.specs.Bare.{bare}
use Rattle.lent.specs.Entries.{none}
use Rattle.area.specs.Area.{entries_in}
use Rattle.area.specs.declared.Area.{Area}
use Rattle.rewrite_plan.specs.declared.Plan.{Plan}
use Rattle.rewrite.specs.declared.Rewritten.{Rewritten}

-- a span with a new epoch; a mark that is no delete's is that of rows
abbrev pub renewed : ℕ → Span → Span
renewed p s = record { epoch = p; mark = cond (is_delete s) 1 0; words = s.words }

-- a span whose new epoch is 0 goes, and so does one beyond the plan
unfoldable pub kept : List ℕ → List Span → List Span
kept [] ss = []
kept (p ∷ ps) [] = []
kept (p ∷ ps) (s ∷ ss) = cond (eqb p 0) (kept ps ss) (renewed p s ∷ kept ps ss)

-- ends from n on never fall, and the last is at most 512
unfoldable pub ends_fit : ℕ → List Entry → Bool
ends_fit n [] = leb n rows_max
ends_fit n (e ∷ es) = leb n e.end && ends_fit e.end es

-- spans as an area with no more entries than they are
abbrev pub area_of : List Span → Area
area_of ss = record { at = pad entries_max none (entries_of 0 ss); count = length ss }

abbrev pub as_rewritten : List Span → Rewritten
as_rewritten ss = record { area = area_of ss; rows = length (words_of ss) }

unfoldable pub kept_of : List ℕ → List Entry → Rewritten
kept_of ps es = as_rewritten (joined (kept ps (bare 0 es)))

-- nothing is kept where the ends are not those of an area
unfoldable pub rewritten_of : Area → Plan → Rewritten
rewritten_of a p = kept_of p.at (cond (ends_fit 0 (entries_in a)) (entries_in a) [])
