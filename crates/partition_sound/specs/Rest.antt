-- The parts of the pass over all partitions, as the code makes them: what is asked first, how far a partition is
-- weighed, and what the passes over its entries tell; then all that is found.
-- Laws: proofs/Laws/Rest.antt (they find rest_asked), proofs/Laws/Lands.antt (of a sound store the totals are those
-- worked out afresh).
-- Assumes nothing.
use Rattle.std.specs.Prelude.{Bool, true, false, not, ◌&&◌, cond, List, ℕ, zero, suc, ◌-◌, get_or, set, replicate}
use Rattle.std.specs.Prelude.{ltb, leb, eqb}
use Rattle.rules.specs.Limits.{partitions_max, rows_max, entries_max}
use Rattle.rules.specs.WellFormed.{areas_ok}
use Rattle.lent.specs.Shapes.{turned}
use Rattle.area.specs.Load.{partition_in}
use Rattle.totals.specs.Places.{from_of, to_of}
use Rattle.totals.specs.Reach.{no_top, top_turn, cuts_of}
use Rattle.totals.specs.Weighed.{plus, no_tally, closed_of, tally_turn}
use Rattle.totals.specs.declared.Reach.{Reach}
use Rattle.totals.specs.declared.Top.{Top}
use Rattle.totals.specs.declared.Cuts.{Cuts}
use Rattle.totals.specs.declared.Tally.{Tally}
use Rattle.rules.specs.declared.Entry.{Entry}
use Rattle.rules.specs.declared.Partition.{Partition}
use Rattle.rules.specs.declared.Partitions.{Partitions}
use Rattle.partition_sound.specs.Asked.{lengths_are, rest_asked}
use Rattle.partition_sound.specs.Pass.{step_of}
use Rattle.partition_sound.specs.declared.Asked.{Asked}
use Rattle.partition_sound.specs.declared.Held.{Held}
use Rattle.partition_sound.specs.declared.Landed.{Landed}
use Rattle.partition_sound.specs.declared.Last.{Last}
use Rattle.partition_sound.specs.declared.Verdict.{Verdict}

-- up to LCE an epoch is well, where that lies below EC and up to it no epoch needs a record
unfoldable pub low_of : Asked → ℕ
low_of a = cond (ltb a.lce a.clock.ec && leb a.lce a.clock.lce) a.lce 0

abbrev pub held_of : Asked → Held
held_of a = record { ec = a.clock.ec; lce = a.clock.lce; count = a.count; low = low_of a }

abbrev pub start_of : Last
start_of = record { epoch = 0; end = 0; ok = true; cleared = false; above = false }

-- no partition yet
abbrev pub before_of : Asked → Landed
before_of a = record { totals = a.totals; whole = replicate partitions_max false; low = low_of a }

abbrev pub begins : ℕ → ℕ → Partitions → Bool
begins n m ps = lengths_are n m && areas_ok ps

-- the epochs that a page at LCE sees
abbrev pub reach_of : Asked → Reach
reach_of a = record { over = 0; high = a.lce; gone = 0 }

-- partition q is well: what the pass over its entries tells
abbrev pub well_by : Partition → Last → Bool
well_by q s = (leb q.rows rows_max && leb q.entries entries_max) && eqb s.end q.rows && s.ok

-- it is weighed to its end, and nowhere where it is not well
unfoldable pub weighed_to : Partition → Last → ℕ → ℕ → ℕ
weighed_to q s from to = cond (well_by q s) to from

-- all its rows are shown to a page at low or later
abbrev pub is_whole : Last → Bool
is_whole s = not s.above && not s.cleared

-- of a whole partition the last entry alone tells which rows are shown
unfoldable pub weighed_from : Last → ℕ → ℕ → ℕ
weighed_from s from end = cond (is_whole s && ltb from end) (end - 1) from

-- its greatest clearing is sought nowhere where it has none
unfoldable pub cleared_to : Last → ℕ → ℕ → ℕ
cleared_to s from end = cond s.cleared end from

-- the newest clearing is sought nowhere where nothing lands
unfoldable pub landing_to : Reach → ℕ → ℕ → ℕ
landing_to r from stop = cond (eqb r.high r.over) from stop

-- it is well after those before it, and weighs its total
unfoldable pub judged_of : List ℕ → Bool → List ℕ → ℕ → Partition → Last → Cuts → Tally → Bool
judged_of rows ok totals p q s c t =
    ok && well_by q s && ltb p partitions_max && eqb (get_or totals p 0) (closed_of rows c.shown.base t)

-- a clearing that lands takes out what was there, and what lands comes on top
abbrev pub landed_total : List ℕ → ℕ → Top → Tally → List ℕ
landed_total totals p newest t = set totals p (plus (cond (eqb newest.epoch 0) (get_or totals p 0) 0) t.more)

unfoldable pub landed_at : Landed → ℕ → Last → Top → Tally → Landed
landed_at l p s newest t = record {
  totals = landed_total l.totals p newest t;
  whole = set l.whole p (is_whole s);
  low = l.low;
}

abbrev pub found_of : Bool → Landed → Verdict
found_of ok l = record { totals = l.totals; whole = l.whole; low = l.low; ok = ok }

-- ---- the passes over the lent entries, of what is asked

module _ (es : List Entry) (rows : List ℕ) (a : Asked) where
  -- what the pass over partition q tells
  abbrev pub last_at : Partition → Last
  last_at q = turned (step_of a.epochs (held_of a)) start_of es (from_of q) (to_of q - from_of q)

  -- up to where it is weighed, and its greatest clearing sought
  abbrev pub end_at : Partition → ℕ
  end_at q = weighed_to q (last_at q) (from_of q) (to_of q)

  abbrev pub stop_at : Partition → ℕ
  stop_at q = cleared_to (last_at q) (from_of q) (end_at q)

  -- its greatest clearing up to LCE, and the newest that lands
  abbrev pub top_at : Partition → Top
  top_at q = turned (top_turn (reach_of a)) no_top es (from_of q) (stop_at q - from_of q)

  abbrev pub newest_at : Partition → Top
  newest_at q = turned (top_turn a.lands) no_top es (from_of q) (landing_to a.lands (from_of q) (stop_at q) - from_of q)

  -- what these leave, and where its weighing stands
  abbrev pub cuts_at : Partition → Cuts
  cuts_at q = cuts_of q (reach_of a) (top_at q) a.lands (newest_at q)

  abbrev pub first_at : Partition → ℕ
  first_at q = weighed_from (last_at q) (from_of q) (end_at q)

  abbrev pub tally_at : Partition → Tally
  tally_at q = turned (tally_turn rows (cuts_at q)) no_tally es (first_at q) (end_at q - first_at q)

  -- what is found of the partitions below k
  unfoldable pub landed_below : ℕ → Landed
  landed_below zero = before_of a
  landed_below (suc k) =
      let q = partition_in a.partitions k in landed_at (landed_below k) k (last_at q) (newest_at q) (tally_at q)

  -- all that is found
  abbrev pub rest_found : Verdict
  rest_found = found_of (rest_asked es rows a) (landed_below partitions_max)
