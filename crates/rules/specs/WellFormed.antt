-- 01's *sound*, over the whole store, as a test. 01 "Refusals that come from the state", last paragraph; 02 (iii).
-- In order: clock, read-write transactions, read-only ones, manager_ok, areas, partitions, lengths of the lent
-- areas, well_formed, the totals, sound.
-- Laws: laws/proofs/Laws/WellFormed.antt.
-- Assumes nothing.
use Rattle.std.specs.Prelude.{Bool, true, not, ◌&&◌, ◌||◌, List, [], ◌∷◌, map, ℕ, suc, ◌*◌, length, take, drop}
use Rattle.std.specs.Prelude.{get_or, ltb, leb, eqb}
use Rattle.lists.specs.Lists.{any_of, all_of, elem, distinct, rises, part}
use Rattle.rules.specs.Limits.{last_epoch, last_ticket, writers_max, readers_max, deps_max, areas_max}
use Rattle.rules.specs.Limits.{rows_max, entries_max}
use Rattle.rules.specs.Manager.{Writer, records_of, writers_of, readers_of, is_open}
use Rattle.rules.specs.Store.{Store, manager_of, total_at, partition_numbers}
use Rattle.rules.specs.declared.Clock.{Clock}
use Rattle.rules.specs.declared.RwTxn.{RwTxn}
use Rattle.rules.specs.declared.RoTxn.{RoTxn}
use Rattle.rules.specs.Manager.{Manager}
use Rattle.rules.specs.declared.Partition.{Partition}
use Rattle.rules.specs.declared.Partitions.{Partitions}
use Rattle.rules.specs.declared.Entry.{Entry}

-- 1 ≤ EC ≤ 2,147,483,648 and EC > LCE ≥ LSE
unfoldable pub clock_ok : Clock → Bool
clock_ok c = leb 1 c.ec && leb c.ec (suc last_epoch) && ltb c.lce c.ec && leb c.lse c.lce

-- ---- read-write transactions (01: load records)

abbrev pub zeros : List ℕ → Bool
zeros xs = all_of (eqb 0) xs

-- at most 31 deps
abbrev pub room_ok : RwTxn → Bool
room_ok t = leb t.deps deps_max

-- deps rising, above LSE and below their transaction's epoch
unfoldable pub deps_ok : ℕ → Writer → Bool
deps_ok lse w = rises lse w.epoch w.deps

-- open, or waiting with an open one below it and no deps; ws are all of them
unfoldable pub status_ok : List Writer → Writer → Bool
status_ok ws w =
    eqb w.waiting 0
    || (eqb w.waiting 1 && any_of (λ u. is_open u && ltb u.epoch w.epoch) ws && eqb (length w.deps) 0)

abbrev pub unused_rw : RwTxn → Bool
unused_rw t = eqb t.epoch 0 && eqb t.waiting 0 && eqb t.deps 0

-- the words of the table that hold no dep are 0: the end of each record's row, and the rows without a record
abbrev pub spares_zero : List ℕ → List RwTxn → Bool
spares_zero ds [] = zeros ds
spares_zero ds (t ∷ ts) = zeros (drop t.deps (take deps_max ds)) && spares_zero (drop deps_max ds) ts

-- at most 32, epochs rising, above LCE and below EC; unused places 0
unfoldable pub writers_ok : Manager → Bool
writers_ok m =
    leb m.writers.count writers_max
    && rises m.clock.lce m.clock.ec (map (λ w. w.epoch) (writers_of m))
    && all_of (status_ok (writers_of m)) (writers_of m)
    && all_of room_ok (records_of m)
    && all_of (deps_ok m.clock.lse) (writers_of m)
    && all_of unused_rw (drop m.writers.count m.writers.at)
    && spares_zero m.deps (records_of m)

-- ---- read-only transactions (01: pages)

abbrev pub unused_ro : RoTxn → Bool
unused_ro p = eqb p.ticket 0 && eqb p.epoch 0

-- at most 32, tickets from 1 rising and below the next, which is 1 to 4,294,967,296; epochs in LSE to LCE;
-- unused places 0
unfoldable pub readers_ok : Manager → Bool
readers_ok m =
    leb m.readers.count readers_max
    && leb 1 m.readers.next && leb m.readers.next (suc last_ticket)
    && rises 0 m.readers.next (map (λ p. p.ticket) (readers_of m))
    && all_of (λ p. leb m.clock.lse p.epoch && leb p.epoch m.clock.lce) (readers_of m)
    && all_of unused_ro (drop m.readers.count m.readers.at)

unfoldable pub manager_ok : Manager → Bool
manager_ok m = clock_ok m.clock && writers_ok m && readers_ok m

-- ---- areas and partitions (01: lots)

-- the nine areas are shared out once
unfoldable pub areas_ok : Partitions → Bool
areas_ok ps =
    let areas = ps.spare ∷ map (λ q. q.area) ps.at in all_of (λ a. ltb a areas_max) areas && distinct areas

-- an epoch that rows may have: 1 to EC − 1, and above LCE only with a record
unfoldable pub epoch_ok : Manager → ℕ → Bool
epoch_ok m j =
    leb 1 j && ltb j m.clock.ec && (leb j m.clock.lce || elem j (map (λ w. w.epoch) (writers_of m)))

-- a mark is rows or delete
abbrev pub entry_ok : Manager → Entry → Bool
entry_ok m e = leb e.mark 1 && epoch_ok m e.epoch

-- ends from n on never fall, and rise at a rows entry; the last is the row count
unfoldable pub ends_ok : ℕ → ℕ → List Entry → Bool
ends_ok rows n [] = eqb n rows
ends_ok rows n (e ∷ es) = leb n e.end && (eqb e.mark 1 || ltb n e.end) && ends_ok rows e.end es

-- no neighbouring rows entries of one epoch
abbrev pub alike : Entry → Entry → Bool
alike d e = eqb d.mark 0 && eqb e.mark 0 && eqb d.epoch e.epoch

unfoldable pub apart : List Entry → Bool
apart [] = true
apart (d ∷ []) = true
apart (d ∷ e ∷ es) = not (alike d e) && apart (e ∷ es)

unfoldable pub partition_ok : Manager → List Entry → Partition → Bool
partition_ok m entries q =
    let es = part (entries_max * q.area) q.entries entries in
    leb q.rows rows_max && leb q.entries entries_max
    && ends_ok q.rows 0 es && all_of (entry_ok m) es && apart es

-- ---- the whole store

-- the lent areas are 4,608 rows and 576 entries
unfoldable pub lengths_ok : Store → Bool
lengths_ok st = eqb (length st.rows) (rows_max * areas_max) && eqb (length st.entries) (entries_max * areas_max)

-- all but the totals
unfoldable pub well_formed : Store → Bool
well_formed st =
    lengths_ok st && manager_ok (manager_of st) && areas_ok st.state.partitions
    && all_of (partition_ok (manager_of st) st.entries) st.state.partitions.at

-- the totals are those worked out afresh
unfoldable pub totals_ok : Store → Bool
totals_ok st = all_of (λ p. eqb (get_or st.state.totals p 0) (total_at p st)) partition_numbers

unfoldable pub sound : Store → Bool
sound st = well_formed st && totals_ok st
