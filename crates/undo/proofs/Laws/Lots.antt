-- Roll back over the lent areas, partition by partition, is rules' rolled_back_below on a sound store, and where it is
-- not to be nothing changes. Definitions: specs/Lots.antt.
-- In order: nothing written, one partition of a sound store, those below k, all.
-- Assumes nothing.
use mathlib.Core.Path.{◌≡◌, refl, ap, ◌∙◌}
use mathlib.Core.Bool.{true, false}
use mathlib.Core.List.{List}
use Prim.Native.Nat.{ℕ, zero, suc, ◌≤◌, ◌<◌}
use native.Mathlib.Omega.{arith}
use Rattle.lists.proofs.Laws.Bools.{split}
use Rattle.rules.specs.Limits.{partitions_max, entries_max}
use Rattle.rules.specs.Store.{Store, partition_at, spans_at, rolled_back_at, rolled_back_below}
use Rattle.rules.specs.declared.Entry.{Entry}
use Rattle.rules.specs.declared.Partitions.{Partitions}
use Rattle.laws.proofs.Laws.Sound.{length-rolled_back}
use Rattle.laws.proofs.Laws.Store.{rolled_back-below}
use Rattle.laws.proofs.Laws.WellFormed.{StoreOk}
use Rattle.area.specs.Load.{loaded_area}
use Rattle.area.specs.declared.Area.{Area}
use Rattle.area.proofs.Laws.Area.{base-fits}
use Rattle.area.proofs.Laws.Load.{loaded-area}
use Rattle.rewrite.specs.Move.{rows_moved}
use Rattle.rewrite.proofs.Laws.Move.{put-kept}
use Rattle.rewrite.specs.declared.Rewritten.{Rewritten}
use Rattle.undo.specs.Rolled.{area_in, kept_in, concerns, rewritten_at, rolled_at, rows_rolled_at}
use Rattle.undo.specs.Lots.{moved_lot, lot_of, Rolling, rolling_of, rolling_at, rolling_below}
use Rattle.undo.specs.Lots.{rolled_lots}
use Rattle.undo.proofs.Laws.Rolled.{as_rolled, kept-is, rolled-step, rows_step}

-- ---- nothing written

pub lots-none : (i k : ℕ) (s : Rolling) → rolling_below false i k s ≡ s
unfolding rolling_below rolling_at lot_of
lots-none i zero s = refl
lots-none i (suc k) s = lots-none i k s

-- ---- partition p of a sound store

abbrev pub as_rolling : Store → Rolling
as_rolling st = rolling_of st.entries st.rows st.state.partitions

module _ (st : Store) (ok : StoreOk st) (p : ℕ) (h : p < partitions_max) (i : ℕ) where
  abbrev es : List Entry
  es = st.entries

  abbrev ps : Partitions
  ps = st.state.partitions

  abbrev a : Area
  a = area_in p (as_rolled st)

  area-is : loaded_area es ps p ≡ a
  area-is = loaded-area es ok.entries-length ps p

  kept-few : (kept_in i p (as_rolled st)).area.count ≤ entries_max
  kept-few = let f = (ok.partition p h).spans-ok.entries_fit in
      let n = length-rolled_back i (spans_at p st) in
      let c = ap (λ (r : Rewritten). r.area.count) (kept-is st ok p h i) in omega arith

  moved-step : concerns i p (as_rolled st) ≡ true → rolling_at true i p (as_rolling st)
      ≡ rolling_of (rewritten_at i p (as_rolled st)).entries
      (rows_rolled_at i a (partition_at p st).area ps.spare st.rows) (rewritten_at i p (as_rolled st)).partitions
  unfolding rolling_at lot_of rewritten_at rows_rolled_at
  moved-step t = let w = moved_lot a ps p i in rw (area-is, t)
      (λ j. rolling_of (put-kept w.moved es kept-few (base-fits ps.spare) ok.entries-length j)
      (rows_moved w.moved st.rows) w.partitions)

  left_step : concerns i p (as_rolled st) ≡ false → rolling_at true i p (as_rolling st) ≡ as_rolling st
  unfolding rolling_at lot_of
  left_step f = rw (area-is, f)

  moved-met : concerns i p (as_rolled st) ≡ true
      → rolling_of (rewritten_at i p (as_rolled st)).entries
      (rows_rolled_at i a (partition_at p st).area ps.spare st.rows) (rewritten_at i p (as_rolled st)).partitions
      ≡ as_rolling (rolled_back_at i p st)
  unfolding rolled_at
  moved-met t = let e : rewritten_at i p (as_rolled st) ≡ as_rolled (rolled_back_at i p st)
      = rw t at (rolled-step st ok p h i) in
      (λ j. rolling_of (e j).entries (rows_step st ok p h i j) (e j).partitions)

  left-met : concerns i p (as_rolled st) ≡ false → as_rolling st ≡ as_rolling (rolled_back_at i p st)
  unfolding rolled_at rows_rolled_at
  left-met f = let e : as_rolled st ≡ as_rolled (rolled_back_at i p st) = rw f at (rolled-step st ok p h i) in
      let r : st.rows ≡ (rolled_back_at i p st).rows = rw f at (rows_step st ok p h i) in
      (λ j. rolling_of (e j).entries (r j) (e j).partitions)

  pub lots-step : rolling_at true i p (as_rolling st) ≡ as_rolling (rolled_back_at i p st)
  lots-step = split (concerns i p (as_rolled st)) (λ t. moved-step t ∙ moved-met t) (λ f. left_step f ∙ left-met f)

-- ---- the partitions below k, and all

pub lots-below : (i k : ℕ) (st : Store) → StoreOk st → k ≤ partitions_max
    → rolling_below true i k (as_rolling st) ≡ as_rolling (rolled_back_below i k st)
unfolding rolling_below rolled_back_below
lots-below i zero st ok h = refl
lots-below i (suc k) st ok h =
    rw (lots-below i k st ok (omega arith))
    (lots-step (rolled_back_below i k st) (rolled_back-below i k st ok (omega arith)).sound k h i)

pub lots_rolled : (i : ℕ) (st : Store) → StoreOk st
    → rolled_lots true i (as_rolling st) ≡ as_rolling (rolled_back_below i partitions_max st)
lots_rolled i st ok = lots-below i partitions_max st ok (omega arith)

pub lots-left : (i : ℕ) (s : Rolling) → rolled_lots false i s ≡ s
lots-left i s = lots-none i partitions_max s
