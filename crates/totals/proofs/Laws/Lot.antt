-- One partition (01: lot) of a sound store among the lent entries and rows: the passes over its entries weigh what is
-- shown of it, and what lands. Definitions: specs/Places.antt, specs/Reach.antt.
-- In order: where it lies, a pass over its entries, or over the last alone where that tells as much; a clearing-free
-- cut; the rows that are shown and what they weigh.
-- Assumes nothing.
use mathlib.Core.Path.{◌≡◌, refl, sym, ap, subst, ◌∙◌}
use mathlib.Core.Bool.{true, false}
use mathlib.Core.List.{List, foldl}
use Prim.Native.Nat.{ℕ, zero, suc, ◌+◌, ◌-◌, ◌*◌, ◌≤◌, ◌<◌}
use native.Mathlib.Omega.{arith}
use lib.ListN.{length, drop, get_or, length-take, length-drop}
use lib.Seq.{get_or-take, get_or-drop}
use lib.Dec.{ltb, eqb}
use borrow.Author.Tests.{lt-ltb, le-leb, ne_eqb}
use Rattle.lists.specs.Lists.{part}
use Rattle.lists.proofs.Laws.All.{All, All_get_d}
use Rattle.lists.proofs.Laws.Bools.{split}
use Rattle.rules.specs.Limits.{rows_max, entries_max, areas_max}
use Rattle.rules.specs.Span.{Span, spans}
use Rattle.rules.specs.Hides.{shown}
use Rattle.rules.specs.Weight.{weight_by}
use Rattle.rules.specs.WellFormed.{ends_ok}
use Rattle.rules.specs.declared.Entry.{Entry}
use Rattle.rules.specs.declared.Partition.{Partition}
use Rattle.lent.specs.Entries.{none}
use Rattle.lent.specs.Shapes.{turned}
use Rattle.lent.proofs.Turned.{turned-part}
use Rattle.totals.specs.Places.{in_place, from_of, to_of}
use Rattle.totals.specs.Reach.{in_reach, page_reach, no_top, top_turn, farthest, cut_of, cuts_of, shows}
use Rattle.totals.specs.Weighed.{no_tally, closed_of, tally_turn}
use Rattle.totals.specs.declared.Reach.{Reach}
use Rattle.totals.specs.declared.Top.{Top}
use Rattle.totals.proofs.Laws.Tallied.{shown_rows}
use Rattle.totals.proofs.Laws.Weighs.{rows-shown, weighs, weighs-more}

-- a partition whose entries lie among those lent
pub record Placed (es : List Entry) (q : Partition) : Type 0 where
  pub entries-length : length es ≡ entries_max * areas_max
  pub inside : q.area < areas_max
  pub few : q.entries ≤ entries_max

-- and that lies well in what is lent
pub record Lies (es : List Entry) (rows : List ℕ) (q : Partition) : Type 0 where
  pub placed : Placed es q
  pub rows-length : length rows ≡ rows_max * areas_max
  pub fits : q.rows ≤ rows_max
  pub ends : ends_ok q.rows 0 (part (entries_max * q.area) q.entries es) ≡ true

-- ---- a pass over its entries

module _ (es : List Entry) (q : Partition) (P : Placed es q) where
  in_place_lem : in_place q ≡ true
  in_place_lem = rw (lt-ltb q.area areas_max P.inside) (le-leb q.entries entries_max P.few)

  from_is : from_of q ≡ entries_max * q.area
  unfolding from_of
  from_is = rw in_place_lem

  to_is : to_of q ≡ entries_max * q.area + q.entries
  unfolding to_of
  to_is = rw in_place_lem

  pub lot-turned : {X : Type 0} (f : X → Entry → X) (a : X)
      → turned f a es (from_of q) (to_of q - from_of q) ≡ foldl f a (part (entries_max * q.area) q.entries es)
  lot-turned f a = let u = from_is in let v = to_is in let n : to_of q - from_of q ≡ q.entries = omega arith in
      let m = P.few in let i = P.inside in let l = P.entries-length in
      rw n (turned-part f a es (from_of q) q.entries (omega arith) ∙ ap (λ k. foldl f a (part k q.entries es)) u)

  -- where an entry leaves the same whatever stood before it, the last alone tells
  module _ {X : Type 0} (f : X → Entry → X) (a : X) (G : Entry → Type 0)
      (forgets : (d e : Entry) → G d → G e → f (f a d) e ≡ f a e) where
    last_alone : (i n : ℕ) → ((j : ℕ) → j < suc n → G (get_or es (i + j) none))
        → turned f a es i (suc n) ≡ f a (get_or es (i + n) none)
    unfolding turned
    last_alone i zero h = refl
    last_alone i (suc n) h = ap (λ z. f z (get_or es (i + suc n) none)) (last_alone i n (λ j k. h j (omega arith)))
        ∙ forgets (get_or es (i + n) none) (get_or es (i + suc n) none) (h n (omega arith)) (h (suc n) (omega arith))

    pub lot-last : All G (part (entries_max * q.area) q.entries es) → from_of q < to_of q
        → turned f a es (to_of q - 1) (to_of q - (to_of q - 1)) ≡ foldl f a (part (entries_max * q.area) q.entries es)
    unfolding turned
    lot-last h more = let u = from_is in let v = to_is in let m = P.few in let i = P.inside in
        let l = P.entries-length in let base = entries_max * q.area in let k = to_of q - from_of q - 1 in
        let one : to_of q - (to_of q - 1) ≡ 1 = omega arith in let n : to_of q - from_of q ≡ suc k = omega arith in
        let at : from_of q + k ≡ to_of q - 1 + 0 = omega arith in
        let long : length (part base q.entries es) ≡ q.entries
        = omega (arith, length-take q.entries (drop base es), length-drop base es) in
        let own : (j : ℕ) → j < suc k → G (get_or es (from_of q + j) none) = λ j less.
        subst (λ i. G (get_or es (i + j) none)) (sym u) (subst G (get_or-take q.entries (drop base es) j none
        (omega arith) ∙ get_or-drop base es j none) (All_get_d G none (part base q.entries es) h j
        (omega (arith, long, less)))) in
        rw one (ap (λ j. f a (get_or es j none)) (sym at) ∙ (sym (last_alone (from_of q) k own)
        ∙ (ap (turned f a es (from_of q)) (sym n) ∙ lot-turned f a)))

-- ---- a cut without a clearing shows all epochs of a page

-- an entry of rows of an epoch that a page at e sees
pub record SeenRows (e : ℕ) (d : Entry) : Type 0 where
  pub some : 1 ≤ d.epoch
  pub seen : d.epoch ≤ e
  pub rows : eqb d.mark 1 ≡ false

pub shows-all : (e base n j : ℕ) → 1 ≤ j → j ≤ e → shows (cut_of (page_reach e) no_top base) n j ≡ true
unfolding shows
shows-all e base n j h k = let z : (j ≡ 0 → ⊥) = λ y. omega arith in
    split (ltb n farthest)
    (λ t. rw (le-leb j e k, ne_eqb j 0 z, t, lt-ltb 0 j h))
    (λ t. rw (le-leb j e k, ne_eqb j 0 z, t, le-leb 0 j (omega arith)))

-- ---- what it weighs

module _ (es : List Entry) (rows : List ℕ) (q : Partition) (L : Lies es rows q) where
  abbrev own : List Entry
  own = part (entries_max * q.area) q.entries es

  abbrev ss : List Span
  ss = spans 0 own (part (rows_max * q.area) q.rows rows)

  -- its greatest clearing among some epochs
  abbrev pub top_of : Reach → Top
  top_of r = foldl (top_turn r) no_top own

  -- the rows that are shown of the epochs in reach
  pub lot-shown : (r : Reach) → shown_rows rows (cut_of r (top_of r) (rows_max * q.area)) 0 own
      ≡ shown (in_reach r) (in_reach r) ss
  lot-shown r = let i = L.placed.inside in let f = L.fits in let l = L.rows-length in
      rows-shown r own rows (rows_max * q.area) q.rows f (omega arith) L.ends

  -- what they weigh, whatever lands
  pub lot-weighs : (r lands : Reach) (t : Top) → let c = cuts_of q r (top_of r) lands t in
      closed_of rows c.shown.base (foldl (tally_turn rows c) no_tally own) ≡ weight_by (in_reach r) ss
  lot-weighs r lands t = let i = L.placed.inside in let f = L.fits in let l = L.rows-length in
      rw (lt-ltb q.area areas_max i)
      (weighs r own rows (rows_max * q.area) q.rows f (omega arith) L.ends (cut_of lands t (rows_max * q.area)))

  -- what is shown of those that land, above the others
  pub lot-more : (r lands : Reach) (t : Top) → r.high ≤ lands.over → let c = cuts_of q r t lands (top_of lands) in
      (foldl (tally_turn rows c) no_tally own).more ≡ weight_by (in_reach lands) ss
  lot-more r lands t h = let i = L.placed.inside in let f = L.fits in let l = L.rows-length in
      rw (lt-ltb q.area areas_max i)
      (weighs-more lands own rows (rows_max * q.area) q.rows f (omega arith) L.ends
      (cut_of r t (rows_max * q.area)) h)
