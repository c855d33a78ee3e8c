-- The rows that are shown, weighed by one pass over a partition's entries. 02 (iii).
-- In order: weighed, plus, the pass. Laws: proofs/Laws/Weighs.antt (of a sound partition the pass finds rules'
-- weight_by).
-- Assumes nothing.
use Rattle.std.specs.Prelude.{◌&&◌, cond, List, ℕ, ◌+◌, ◌-◌, length, leb}
use Rattle.lists.specs.Lists.{part}
use Rattle.rules.specs.Limits.{rows_max}
use Rattle.rules.specs.Weight.{weight}
use Rattle.rules.specs.declared.Entry.{Entry}
use Rattle.totals.specs.Reach.{shows}
use Rattle.totals.specs.declared.Cut.{Cut}
use Rattle.totals.specs.declared.Cuts.{Cuts}
use Rattle.totals.specs.declared.Tally.{Tally}

-- rows from up to to of those that stand from row base on, none where there are no such rows of a partition
unfoldable pub weighed : List ℕ → ℕ → ℕ → ℕ → ℕ
weighed rows base from to =
    cond (leb from to && leb to rows_max && leb (base + to) (length rows))
    (weight (part (base + from) (to - from) rows)) 0

-- what may be added to without overflow
abbrev pub room : ℕ
room = 9223372036854775807

unfoldable pub plus : ℕ → ℕ → ℕ
plus s w = cond (leb s room && leb w room) (s + w) 0

-- ---- the pass

abbrev pub no_tally : Tally
no_tally = record { from = 0; end = 0; sum = 0; more = 0 }

-- what was weighed before, and the rows that are not yet
unfoldable pub closed_of : List ℕ → ℕ → Tally → ℕ
closed_of rows base t = cond (leb t.end t.from) t.sum (plus t.sum (weighed rows base t.from t.end))

-- what lands, up to row end, where the rows of epoch j begin at t.end
unfoldable pub landed_of : List ℕ → Cut → Tally → ℕ → ℕ → ℕ
landed_of rows c t end j =
    cond (shows c t.end j) (plus t.more (weighed rows c.base t.end end)) t.more

-- one entry more: its rows are shown, and wait to be weighed, or not, and then they may land
abbrev pub tally_turn : List ℕ → Cuts → Tally → Entry → Tally
tally_turn rows c t e =
    cond (shows c.shown t.end e.epoch)
    (record { from = t.from; end = e.end; sum = t.sum; more = t.more })
    (record {
      from = e.end;
      end = e.end;
      sum = closed_of rows c.shown.base t;
      more = landed_of rows c.lands t e.end e.epoch;
    })
