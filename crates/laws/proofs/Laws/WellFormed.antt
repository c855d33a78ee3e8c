-- 01's *sound* as facts: StoreOk, and that it is what the test well_formed says. Definitions:
-- rules/specs/WellFormed.antt.
-- In order: areas, a partition, the store; each first from the test, then to the test.
-- Assumes nothing.
use mathlib.Core.Path.{◌≡◌, refl, sym, ◌∙◌, ap}
use mathlib.Core.Bool.{Bool, true, ◌&&◌}
use mathlib.Core.List.{List, ◌∷◌, map}
use Prim.Native.Nat.{ℕ, zero, suc, ◌*◌, ◌≤◌, ◌<◌}
use native.Mathlib.Omega.{arith}
use lib.ListN.{length, get_or, length-map, get_or-map}
use lib.Dec.{ltb, leb, eqb}
use borrow.Author.Tests.{ltb-true, leb-true, eqb-true, lt-ltb, le-leb, eq-eqb}
use Rattle.lists.specs.Lists.{all_of, distinct, part}
use Rattle.lists.proofs.Laws.All.{All-all_of, all_of-All, All_get_d, get_d-All}
use Rattle.lists.proofs.Laws.Bools.{and_left, and_right, and_both}
use Rattle.lists.proofs.Laws.Parts.{length_part, distinct_get_d, get_d-distinct}
use Rattle.rules.specs.Limits.{partitions_max, areas_max, rows_max, entries_max}
use Rattle.rules.specs.Span.{entries_of, words_of}
use Rattle.rules.specs.Store.{Store, manager_of, no_partition, partition_at, entries_at, rows_at, spans_at}
use Rattle.rules.specs.WellFormed.{manager_ok, areas_ok, entry_ok, ends_ok, apart, partition_ok, lengths_ok}
use Rattle.rules.specs.WellFormed.{well_formed}
use Rattle.rules.specs.declared.Entry.{Entry}
use Rattle.rules.specs.Manager.{Manager}
use Rattle.rules.specs.declared.Partition.{Partition}
use Rattle.rules.specs.declared.Partitions.{Partitions}
use Rattle.laws.proofs.Laws.Span.{length-spans, entries-spans, words-spans}
use Rattle.laws.proofs.Laws.SpansOk.{SpansOk}
use Rattle.laws.proofs.Laws.SpansTest.{EntriesOk, spans-ok, entries-ok}

-- ---- the nine areas are shared out once

abbrev pub area_at : ℕ → Partitions → ℕ
area_at p ps = (get_or ps.at p no_partition).area

pub record AreasOk (ps : Partitions) : Type 0 where
  pub inside : (p : ℕ) → p < partitions_max → area_at p ps < areas_max
  pub spare-inside : ps.spare < areas_max
  pub apart : (p q : ℕ) → p < partitions_max → q < partitions_max → area_at p ps ≡ area_at q ps → p ≡ q
  pub spare-apart : (p : ℕ) → p < partitions_max → area_at p ps ≡ ps.spare → ⊥

-- the spare area, then the partitions' areas
abbrev areas_of : Partitions → List ℕ
areas_of ps = ps.spare ∷ map (λ q. q.area) ps.at

areas_of_get_d : (ps : Partitions) (p : ℕ) → get_or (areas_of ps) (suc p) 0 ≡ area_at p ps
areas_of_get_d ps p = get_or-map (λ (q : Partition). q.area) ps.at p no_partition

areas_of-length : (ps : Partitions) → length (areas_of ps) ≡ suc (length ps.at)
areas_of-length ps = ap suc (length-map ps.at (λ q. q.area))

pub areas-facts : (ps : Partitions) → length ps.at ≡ partitions_max → areas_ok ps ≡ true → AreasOk ps
unfolding areas_ok
areas-facts ps n h = record {
  inside = λ p l. rw (areas_of_get_d ps p) at (below (suc p) (omega arith));
  spare-inside = below 0 (omega arith);
  apart = λ p q l m e. let x = areas_of_get_d ps p ∙ (e ∙ sym (areas_of_get_d ps q)) in
      let g = once (suc p) (suc q) (omega arith) (omega arith) x in omega arith;
  spare-apart = λ p l e. let g = once (suc p) 0 (omega arith) (omega arith) (areas_of_get_d ps p ∙ e) in omega arith;
}
  where
    len : length (areas_of ps) ≡ suc partitions_max
    len = areas_of-length ps ∙ ap suc n

    a : Bool
    a = all_of (λ a. ltb a areas_max) (areas_of ps)

    below : (i : ℕ) → i < suc partitions_max → get_or (areas_of ps) i 0 < areas_max
    below i l = let g = len in ltb-true (get_or (areas_of ps) i 0) areas_max
        (All_get_d (λ x. ltb x areas_max ≡ true) 0 (areas_of ps)
        (All-all_of (λ x. ltb x areas_max) (areas_of ps) (and_left a (distinct (areas_of ps)) h)) i (omega arith))

    once : (i j : ℕ) → i < suc partitions_max → j < suc partitions_max → get_or (areas_of ps) i 0
        ≡ get_or (areas_of ps) j 0
        → i ≡ j
    once i j l m e = let g = len in distinct_get_d 0 (areas_of ps) (and_right a (distinct (areas_of ps)) h) i j
        (omega arith) (omega arith) e

pub areas-ok : (ps : Partitions) → length ps.at ≡ partitions_max → AreasOk ps → areas_ok ps ≡ true
unfolding areas_ok
areas-ok ps n ok = let len = areas_of-length ps ∙ ap suc n in
    and_both (all_of (λ a. ltb a areas_max) (areas_of ps)) (distinct (areas_of ps))
    (all_of-All (λ x. ltb x areas_max) (areas_of ps)
    (get_d-All (λ x. ltb x areas_max ≡ true) 0 (areas_of ps)
    (λ i l. lt-ltb (get_or (areas_of ps) i 0) areas_max (below i (omega arith)))))
    (get_d-distinct 0 (areas_of ps) (λ i j l m e. once i j (omega arith) (omega arith) e))
  where
    below : (i : ℕ) → i < suc partitions_max → get_or (areas_of ps) i 0 < areas_max
    below zero l = ok.spare-inside
    below (suc p) l = rw (areas_of_get_d ps p) (ok.inside p (omega arith))

    once : (i j : ℕ) → i < suc partitions_max → j < suc partitions_max → get_or (areas_of ps) i 0
        ≡ get_or (areas_of ps) j 0
        → i ≡ j
    once zero zero l m e = refl
    once zero (suc q) l m e = absurd (ok.spare-apart q (omega arith) (sym (areas_of_get_d ps q) ∙ sym e))
    once (suc p) zero l m e = absurd (ok.spare-apart p (omega arith) (sym (areas_of_get_d ps p) ∙ e))
    once (suc p) (suc q) l m e =
        ap suc (ok.apart p q (omega arith) (omega arith) (sym (areas_of_get_d ps p) ∙ (e ∙ areas_of_get_d ps q)))

-- ---- a partition

pub record PartitionOk (p : ℕ) (st : Store) : Type 0 where
  pub entries-are : entries_of 0 (spans_at p st) ≡ entries_at p st
  pub words_are : words_of (spans_at p st) ≡ rows_at p st
  pub row_count : (partition_at p st).rows ≡ length (words_of (spans_at p st))
  pub entry-count : (partition_at p st).entries ≡ length (spans_at p st)
  pub spans-ok : SpansOk (manager_of st) (spans_at p st)

record CountsOk (m : Manager) (entries : List Entry) (q : Partition) : Type 0 where
  fits : q.entries ≤ entries_max
  entries-ok : EntriesOk m q.rows (part (entries_max * q.area) q.entries entries)

-- the test, taken apart
counts-facts : (m : Manager) (entries : List Entry) (q : Partition) → q.area < areas_max
    → length entries ≡ entries_max * areas_max → partition_ok m entries q ≡ true → CountsOk m entries q
unfolding partition_ok
counts-facts m entries q l n h =
    let es = part (entries_max * q.area) q.entries entries in
    let a = leb q.rows rows_max in let b = leb q.entries entries_max in let c = ends_ok q.rows 0 es in
    let d = all_of (entry_ok m) es in let e = apart es in
    let abcd = and_left (a && b && c && d) e h in let abc = and_left (a && b && c) d abcd in
    let ab = and_left (a && b) c abc in
    let f = leb-true q.entries entries_max (and_right a b ab) in
    let g = length_part (entries_max * q.area) q.entries entries (omega arith) in
    record {
      fits = f;
      entries-ok = record {
        rows_fit = leb-true q.rows rows_max (and_left a b ab);
        entries_fit = omega arith;
        ends = and_right (a && b) c abc;
        each = and_right (a && b && c) d abcd;
        neighbours = and_right (a && b && c && d) e h;
      };
    }

pub partition-facts : (p : ℕ) (st : Store) → length st.rows ≡ rows_max * areas_max
    → length st.entries ≡ entries_max * areas_max → (partition_at p st).area < areas_max
    → partition_ok (manager_of st) st.entries (partition_at p st) ≡ true → PartitionOk p st
unfolding spans_at
partition-facts p st lr le l h =
    let q = partition_at p st in let c = counts-facts (manager_of st) st.entries q l le h in let o = c.entries-ok in
    let g = o.rows_fit in let f = c.fits in let es = entries_at p st in let ws = rows_at p st in
    let lw : length ws ≡ q.rows = length_part (rows_max * q.area) q.rows st.rows (omega arith) in
    let len : length es ≡ q.entries = length_part (entries_max * q.area) q.entries st.entries (omega arith) in
    let w = words-spans q.rows 0 es ws o.ends (omega arith) in
    record {
      entries-are = entries-spans q.rows 0 es ws o.ends (omega arith);
      words_are = w;
      row_count = rw w (sym lw);
      entry-count = rw (length-spans 0 es ws) (sym len);
      spans-ok = spans-ok (manager_of st) q.rows es ws o lw;
    }

-- its entries
pub partition-entries : (p : ℕ) (st : Store) → PartitionOk p st
    → EntriesOk (manager_of st) (partition_at p st).rows (entries_at p st)
partition-entries p st ok =
    rw (ok.entries-are, ← ok.row_count) at (entries-ok (manager_of st) (spans_at p st) ok.spans-ok)

pub partition-ok : (p : ℕ) (st : Store) → PartitionOk p st
    → partition_ok (manager_of st) st.entries (partition_at p st) ≡ true
unfolding partition_ok
partition-ok p st ok =
    let q = partition_at p st in let es = entries_at p st in let o = partition-entries p st ok in
    let f = ok.spans-ok.entries_fit in let n = ok.entry-count in
    let a = leb q.rows rows_max in let b = leb q.entries entries_max in let c = ends_ok q.rows 0 es in
    let d = all_of (entry_ok (manager_of st)) es in
    and_both (a && b && c && d) (apart es) (and_both (a && b && c) d (and_both (a && b) c (and_both a b
    (le-leb q.rows rows_max o.rows_fit) (le-leb q.entries entries_max (omega arith))) o.ends) o.each)
    o.neighbours

-- ---- the store

pub record StoreOk (st : Store) : Type 0 where
  pub manager : manager_ok (manager_of st) ≡ true
  pub rows-length : length st.rows ≡ rows_max * areas_max
  pub entries-length : length st.entries ≡ entries_max * areas_max
  pub places : length st.state.partitions.at ≡ partitions_max
  pub areas : AreasOk st.state.partitions
  pub partition : (p : ℕ) → p < partitions_max → PartitionOk p st

pub lengths-facts : (st : Store) → lengths_ok st ≡ true
    → (length st.rows ≡ rows_max * areas_max) × (length st.entries ≡ entries_max * areas_max)
unfolding lengths_ok
lengths-facts st h =
    let a = eqb (length st.rows) (rows_max * areas_max) in
    let b = eqb (length st.entries) (entries_max * areas_max) in (
      eqb-true (length st.rows) (rows_max * areas_max) (and_left a b h),
      eqb-true (length st.entries) (entries_max * areas_max) (and_right a b h),
    )

-- an array of the source has its length by its type; for a list it is a hypothesis
pub store-facts : (st : Store) → length st.state.partitions.at ≡ partitions_max → well_formed st ≡ true → StoreOk st
unfolding well_formed
store-facts st n h =
    let ps = st.state.partitions in let t = partition_ok (manager_of st) st.entries in
    let l = lengths_ok st in let m = manager_ok (manager_of st) in let a = areas_ok ps in let c = all_of t ps.at in
    let lma = and_left (l && m && a) c h in let lm = and_left (l && m) a lma in
    let len = lengths-facts st (and_left l m lm) in let ar = areas-facts ps n (and_right (l && m) a lma) in
    record {
      manager = and_right l m lm;
      rows-length = len.0;
      entries-length = len.1;
      places = n;
      areas = ar;
      partition = λ p k. partition-facts p st len.0 len.1 (ar.inside p k)
          (All_get_d (λ q. t q ≡ true) no_partition ps.at (All-all_of t ps.at (and_right (l && m && a) c h)) p
          (omega arith));
    }

pub lengths-ok : (st : Store) → StoreOk st → lengths_ok st ≡ true
unfolding lengths_ok
lengths-ok st ok = and_both (eqb (length st.rows) (rows_max * areas_max))
    (eqb (length st.entries) (entries_max * areas_max))
    (eq-eqb (length st.rows) (rows_max * areas_max) ok.rows-length)
    (eq-eqb (length st.entries) (entries_max * areas_max) ok.entries-length)

pub store_ok : (st : Store) → StoreOk st → well_formed st ≡ true
unfolding well_formed
store_ok st ok =
    let ps = st.state.partitions in let m = manager_ok (manager_of st) in
    let t = partition_ok (manager_of st) st.entries in
    and_both (lengths_ok st && m && areas_ok ps) (all_of t ps.at)
    (and_both (lengths_ok st && m) (areas_ok ps) (and_both (lengths_ok st) m (lengths-ok st ok) ok.manager)
    (areas-ok ps ok.places ok.areas))
    (all_of-All t ps.at (get_d-All (λ q. t q ≡ true) no_partition ps.at
    (λ p l. partition-ok p st (ok.partition p (let n = ok.places in omega arith)))))
