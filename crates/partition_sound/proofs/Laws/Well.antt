-- What is known of a partition that is well, and of an epoch up to `low`.
-- Definitions: specs/Sound.antt, specs/Rest.antt.
-- In order: a partition by its parts; what a page at LCE weighs; an epoch up to low.
-- Assumes nothing.
use mathlib.Core.Path.{◌≡◌, ap}
use mathlib.Core.Bool.{true, ◌&&◌}
use mathlib.Core.List.{List, [], ◌∷◌}
use Prim.Native.Nat.{ℕ, ◌*◌, ◌-◌, ◌≤◌, ◌<◌}
use native.Mathlib.Omega.{arith}
use lib.ListN.{drop}
use lib.Dec.{ltb, leb}
use borrow.Author.Tests.{leb-true, ltb-true}
use Rattle.lists.specs.Lists.{all_of, part}
use Rattle.lists.proofs.Laws.All.{All, All_imp, All-all_of}
use Rattle.lists.proofs.Laws.Bools.{split, and_left, and_right}
use Rattle.rules.specs.Limits.{rows_max, entries_max}
use Rattle.rules.specs.Span.{Span, spans}
use Rattle.rules.specs.Weight.{weight, weight_by, total}
use Rattle.rules.specs.WellFormed.{ends_ok, apart}
use Rattle.rules.specs.declared.Clock.{Clock}
use Rattle.rules.specs.declared.Entry.{Entry}
use Rattle.rules.specs.declared.Partition.{Partition}
use Rattle.totals.specs.Reach.{in_reach}
use Rattle.totals.proofs.Laws.Page.{page-shows}
use Rattle.partition_sound.specs.Sound.{entry_ok_by, epoch_ok_by, partition_ok_by}
use Rattle.partition_sound.specs.Rest.{low_of}
use Rattle.partition_sound.specs.declared.Asked.{Asked}

-- a partition that is well, by its parts
pub record Parts (c : Clock) (js : List ℕ) (es : List Entry) (q : Partition) : Type 0 where
  pub fits : q.rows ≤ rows_max
  pub few : q.entries ≤ entries_max
  pub ends : ends_ok q.rows 0 (part (entries_max * q.area) q.entries es) ≡ true
  pub low : All (λ e. 1 ≤ e.epoch) (part (entries_max * q.area) q.entries es)

pub parts-of : (c : Clock) (js : List ℕ) (es : List Entry) (q : Partition) → partition_ok_by c js es q ≡ true
    → Parts c js
    es q
unfolding partition_ok_by epoch_ok_by
parts-of c js es q h =
    let own = part (entries_max * q.area) q.entries es in let x = leb q.rows rows_max in
    let y = leb q.entries entries_max in let e = ends_ok q.rows 0 own in let o = all_of (entry_ok_by c js) own in
    let xyeo = and_left (x && y && e && o) (apart own) h in let xye = and_left (x && y && e) o xyeo in
    let xy = and_left (x && y) e xye in record {
      fits = leb-true q.rows rows_max (and_left x y xy);
      few = leb-true q.entries entries_max (and_right x y xy);
      ends = and_right (x && y) e xye;
      low = All_imp _ _ (λ d g. leb-true 1 d.epoch (and_left _ _ (and_left _ _ (and_right (leb d.mark 1) _
          g)))) own
          (All-all_of (entry_ok_by c js) own (and_right (x && y && e) o xyeo));
    }

-- the spans' epochs are the entries'
pub epochs-spans : (n : ℕ) (es : List Entry) (ws : List ℕ) → All (λ e. 1 ≤ e.epoch) es
    → All (λ s. 1 ≤ s.epoch) (spans n es ws)
unfolding spans
epochs-spans n [] ws h = tt
epochs-spans n (e ∷ es) ws h = (h.0, epochs-spans e.end es (drop (e.end - n) ws) h.1)

pub page-weighs : (lce : ℕ) (ss : List Span) → All (λ s. 1 ≤ s.epoch) ss
    → weight_by (in_reach (record { over = 0; high = lce; gone = 0 })) ss ≡ total lce ss
unfolding weight_by total
page-weighs lce ss h = ap weight (page-shows lce ss h)

-- ---- up to low an epoch is well, and a page at LCE sees it

pub low_near : (a : Asked) (j : ℕ) → 1 ≤ j → j ≤ low_of a → (j < a.clock.ec) × (j ≤ a.clock.lce) × (j ≤ a.lce)
unfolding low_of
low_near a j h = let x = ltb a.lce a.clock.ec in let y = leb a.lce a.clock.lce in split (x && y)
    (λ t. rw t (λ k. let l = ltb-true a.lce a.clock.ec (and_left x y t) in
    let m = leb-true a.lce a.clock.lce (and_right x y t) in (omega arith, omega arith, k)))
    (λ t. rw t (λ k. absurd (omega arith)))
