-- What a read-only transaction (01: page) at an epoch is shown of all partitions (01: lots), as runs of rows. 02 (v).
-- In order: runs as words; the run that may still grow, and an entry more; from where on a partition is gone over, by
-- what the test of the lots found; the words of one partition, of all; what a plan reads of them.
-- Laws: proofs/Laws/Joined.antt, proofs/Laws/Laid.antt, proofs/Laws/Shown.antt.
-- Assumes nothing.
use Rattle.std.specs.Prelude.{Bool, false, ◌&&◌, cond, List, [], ◌∷◌, map, ℕ, zero, suc, ◌+◌, ◌-◌, ◌*◌, ◌/◌, ◌%◌, set}
use Rattle.std.specs.Prelude.{get_or, replicate, ltb, leb}
use Rattle.lists.specs.Lists.{part}
use Rattle.rules.specs.Limits.{partitions_max}
use Rattle.rules.specs.Checkpoint.{sum_of}
use Rattle.rules.specs.Store.{partition_numbers}
use Rattle.rules.specs.declared.Entry.{Entry}
use Rattle.rules.specs.declared.Partition.{Partition}
use Rattle.rules.specs.declared.Partitions.{Partitions}
use Rattle.area.specs.Load.{partition_in}
use Rattle.lent.specs.Shapes.{turned}
use Rattle.totals.specs.Places.{from_of, to_of}
use Rattle.totals.specs.Reach.{page_reach, no_top, top_turn, cut_of, shows}
use Rattle.totals.specs.declared.Cut.{Cut}
use Rattle.partition_sound.specs.declared.Verdict.{Verdict}
use Rattle.plan_save.specs.declared.runs.Pending.{Pending}
use Rattle.plan_save.specs.declared.runs.Runs.{Runs}

-- ---- runs as words: rows from up to end, of a partition's

pub record Run : Type 0 where
  pub from : ℕ
  pub end : ℕ

abbrev pub from_in : ℕ → ℕ
from_in w = w / 65536

abbrev pub end_in : ℕ → ℕ
end_in w = w % 65536

abbrev pub width_in : ℕ → ℕ
width_in w = end_in w - from_in w

-- up to the first without rows
unfoldable pub runs_in : List ℕ → List Run
runs_in [] = []
runs_in (w ∷ ws) = cond (ltb (from_in w) (end_in w)) (record { from = from_in w; end = end_in w } ∷ runs_in ws) []

-- how many rows they are
unfoldable pub size_of : List Run → ℕ
size_of rs = sum_of (map (λ r. r.end - r.from) rs)

-- ---- the run that may still grow

-- 64 entries have 32 runs at most, since between two stands an entry that is not shown; behind them one without rows
abbrev pub runs_max : ℕ
runs_max = 33

abbrev pub words_max : ℕ
words_max = partitions_max * runs_max

unfoldable pub no_words : List ℕ
no_words = replicate words_max 0

-- before the first entry of partition p, whose runs stand from place 33 * p on
unfoldable pub first_of : ℕ → Pending
first_of p = record { at = cond (ltb p partitions_max) (runs_max * p) 0; from = 0; end = 0 }

-- the next run goes behind it, if it has rows
unfoldable pub next_of : Pending → ℕ
next_of s = cond (ltb s.from s.end && ltb s.at words_max) (s.at + 1) s.at

-- it grows by the rows of an entry that are shown, and ends before those that are not
unfoldable pub pending_turn : Cut → Pending → Entry → Pending
pending_turn c s e =
    cond (shows c s.end e.epoch) (record { at = s.at; from = s.from; end = e.end })
    (record { at = next_of s; from = e.end; end = e.end })

unfoldable pub place_in : Pending → ℕ
place_in s = cond (ltb s.at words_max) s.at 0

unfoldable pub word_of : Pending → ℕ
word_of s = s.from % 65536 * 65536 + s.end % 65536

-- ---- the words of all partitions

pub record Laid : Type 0 where
  pub pending : Pending
  pub words : List ℕ

-- an entry more: the pending run goes to its place, as far as it has grown
abbrev pub laid_turn : Cut → Laid → Entry → Laid
laid_turn c x e =
    let s = pending_turn c x.pending e in record { pending = s; words = set x.words (place_in s) (word_of s) }

-- all rows of partition p are shown to a page at e, by what was found
abbrev pub whole_at : Verdict → ℕ → ℕ → Bool
whole_at v p e = leb v.low e && ltb p partitions_max && get_or v.whole p false

-- from where on its entries are gone over, where it lies at q: the last alone tells where all rows are shown
unfoldable pub sought_from : Partition → Verdict → ℕ → ℕ → ℕ
sought_from q v p e = cond (whole_at v p e && ltb (from_of q) (to_of q)) (to_of q - 1) (from_of q)

-- what its greatest clearing leaves to the page; where its rows lie does not matter here
abbrev pub page_cut : List Entry → Partition → Verdict → ℕ → ℕ → Cut
page_cut es q v p e =
    let from = sought_from q v p e in
    cut_of (page_reach e) (turned (top_turn (page_reach e)) no_top es from (to_of q - from)) 0

-- after n of these entries
abbrev pub laid_in : List Entry → Partition → Verdict → ℕ → ℕ → List ℕ → ℕ → Laid
laid_in es q v p e ws n =
    turned (laid_turn (page_cut es q v p e)) (record { pending = first_of p; words = ws }) es (sought_from q v p e) n

-- after the partitions below p
unfoldable pub laid_below : List Entry → Partitions → Verdict → ℕ → ℕ → List ℕ
laid_below es ps v e zero = no_words
laid_below es ps v e (suc p) =
    let q = partition_in ps p in (laid_in es q v p e (laid_below es ps v e p) (to_of q - sought_from q v p e)).words

abbrev pub runs_with : List ℕ → Runs
runs_with ws = record { at = ws }

abbrev pub runs_of : List Entry → Partitions → Verdict → ℕ → Runs
runs_of es ps v e = runs_with (laid_below es ps v e partitions_max)

-- ---- what a plan reads of them

-- the words of partition p
abbrev pub words_at : List ℕ → ℕ → List ℕ
words_at ws p = part (runs_max * p) runs_max ws

-- how many rows each partition has
unfoldable pub counts_of : List ℕ → List ℕ
counts_of ws = map (λ p. size_of (runs_in (words_at ws p))) partition_numbers
