-- Laws of laid: spans written into an area are the partition's, other partitions keep theirs, the store stays
-- sound.
-- In order: a partition read the same, where spans may be laid, laid, in place and in the spare area, its own
-- spans.
-- Definitions: rules/specs/Store.antt.
-- Assumes nothing.
use mathlib.Core.Path.{◌≡◌, refl, sym, ◌∙◌, ap}
use mathlib.Core.List.{List}
use Prim.Native.Nat.{ℕ, ◌+◌, ◌*◌, ◌≤◌, ◌<◌}
use native.Mathlib.Omega.{arith}
use lib.ListN.{length, set, length-set}
use lib.Seq.{get_or-set_same, get_or-set_other, set-get_or}
use Rattle.lists.specs.Lists.{over}
use Rattle.lists.proofs.Laws.Bools.{split-eq}
use Rattle.lists.proofs.Laws.Parts.{length_over, over-part, part-over-same, part-over-other}
use Rattle.rules.specs.Limits.{partitions_max, areas_max, rows_max, entries_max}
use Rattle.rules.specs.Span.{Span, spans, entries_of, words_of}
use Rattle.rules.specs.Store.{Store, manager_of, no_partition, partition_at, entries_at, rows_at, spans_at}
use Rattle.rules.specs.Store.{state_of, laid}
use Rattle.rules.specs.Store.{laid_in_place, laid_in_spare}
use Rattle.rules.specs.declared.Partition.{Partition}
use Rattle.rules.specs.declared.Partitions.{Partitions}
use Rattle.laws.proofs.Laws.Span.{length-entries_of, spans-entries}
use Rattle.laws.proofs.Laws.SpansOk.{SpansOk}
use Rattle.laws.proofs.Laws.WellFormed.{area_at, AreasOk, PartitionOk, StoreOk}

-- ---- a partition that is read the same

pub record ReadSame (q : ℕ) (st st' : Store) : Type 0 where
  pub same-partition : partition_at q st' ≡ partition_at q st
  pub same_entries : entries_at q st' ≡ entries_at q st
  pub same_rows : rows_at q st' ≡ rows_at q st

pub spans-same : (q : ℕ) (st st' : Store) → ReadSame q st st' → spans_at q st' ≡ spans_at q st
unfolding spans_at
spans-same q st st' r = λ i. spans 0 (r.same_entries i) (r.same_rows i)

pub partition-same : (q : ℕ) (st st' : Store) → ReadSame q st st' → SpansOk (manager_of st') (spans_at q st)
    → PartitionOk q st → PartitionOk q st'
partition-same q st st' r s ok = let e = spans-same q st st' r in record {
  entries-are = ap (entries_of 0) e ∙ (ok.entries-are ∙ sym r.same_entries);
  words_are = ap words_of e ∙ (ok.words_are ∙ sym r.same_rows);
  row_count = ap (λ x. x.rows) r.same-partition ∙ (ok.row_count ∙ ap (λ t. length (words_of t)) (sym e));
  entry-count = ap (λ x. x.entries) r.same-partition ∙ (ok.entry-count ∙ ap length (sym e));
  spans-ok = rw e s;
}

-- ---- where spans of partition p may be laid: area a, and s is the spare area then

record Target (p a s : ℕ) (ps : Partitions) : Type 0 where
  inside : a < areas_max
  own : (q : ℕ) → q < partitions_max → area_at q ps ≡ a → q ≡ p
  spare-inside : s < areas_max
  spare-other : a ≡ s → ⊥
  spare-free : (q : ℕ) → q < partitions_max → (q ≡ p → ⊥) → area_at q ps ≡ s → ⊥

target-place : (p : ℕ) (ps : Partitions) → p < partitions_max → AreasOk ps → Target p (area_at p ps) ps.spare ps
target-place p ps h ok = record {
  inside = ok.inside p h;
  own = λ q l e. ok.apart q p l h e;
  spare-inside = ok.spare-inside;
  spare-other = ok.spare-apart p h;
  spare-free = λ q l ne e. ok.spare-apart q l e;
}

target_spare : (p : ℕ) (ps : Partitions) → p < partitions_max → AreasOk ps → Target p ps.spare (area_at p ps) ps
target_spare p ps h ok = record {
  inside = ok.spare-inside;
  own = λ q l e. absurd (ok.spare-apart q l e);
  spare-inside = ok.inside p h;
  spare-other = λ e. ok.spare-apart p h (sym e);
  spare-free = λ q l ne e. ne (ok.apart q p l h e);
}

-- ---- laid

abbrev laid_partition : ℕ → List Span → Partition
laid_partition a ss = record { area = a; rows = length (words_of ss); entries = length ss }

pub partition_at-laid : (p a s : ℕ) (ss : List Span) (st : Store) → p < length st.state.partitions.at
    → partition_at p (laid p a s ss st) ≡ record { area = a; rows = length (words_of ss); entries = length ss }
unfolding laid
partition_at-laid p a s ss st l = get_or-set_same st.state.partitions.at p (laid_partition a ss) no_partition l

module _ (st : Store) (ok : StoreOk st) (p a s : ℕ) (ss : List Span) (h : p < partitions_max)
    (g : Target p a s st.state.partitions) (so : SpansOk (manager_of st) ss) where
  written : partition_at p (laid p a s ss st) ≡ laid_partition a ss
  written = partition_at-laid p a s ss st (let n = ok.places in omega arith)

  rows-room : rows_max * a + length (words_of ss) ≤ length st.rows
  rows-room = let n = ok.rows-length in let i = g.inside in let f = so.rows_fit in omega arith

  entries-room : entries_max * a + length (entries_of 0 ss) ≤ length st.entries
  entries-room = let n = ok.entries-length in let i = g.inside in let f = so.entries_fit in
      let l = length-entries_of 0 ss in omega arith

  rows-laid : rows_at p (laid p a s ss st) ≡ words_of ss
  unfolding laid
  rows-laid = rw written (part-over-same (rows_max * a) (words_of ss) st.rows rows-room)

  entries-laid : entries_at p (laid p a s ss st) ≡ entries_of 0 ss
  unfolding laid
  entries-laid = rw (written, ← length-entries_of 0 ss)
      (part-over-same (entries_max * a) (entries_of 0 ss) st.entries entries-room)

  spans-laid : spans_at p (laid p a s ss st) ≡ ss
  unfolding spans_at
  spans-laid = (λ i. spans 0 (entries-laid i) (rows-laid i)) ∙ spans-entries 0 ss

  other-laid : (q : ℕ) → q < partitions_max → (q ≡ p → ⊥) → ReadSame q st (laid p a s ss st)
  unfolding laid
  other-laid q l ne = let e = get_or-set_other st.state.partitions.at p q (laid_partition a ss) no_partition ne in
      let k = ok.partition q l in let c = k.row_count in let d = k.entry-count in let f = k.spans-ok.rows_fit in
      let f' = k.spans-ok.entries_fit in let n = length-entries_of 0 ss in let w = so.entries_fit in
      let b = partition_at q st in record {
        same-partition = e;
        same_rows = rw e (part-over-other rows_max a b.area b.rows (words_of ss) st.rows
            rows-room so.rows_fit (omega arith) (λ x. ne (g.own q l x)));
        same_entries = rw e (part-over-other entries_max a b.area b.entries (entries_of 0 ss) st.entries
            entries-room (omega arith) (omega arith) (λ x. ne (g.own q l x)));
      }

  manager-laid : manager_of (laid p a s ss st) ≡ manager_of st
  unfolding laid
  manager-laid = refl

  partition-laid : PartitionOk p (laid p a s ss st)
  partition-laid = record {
    entries-are = ap (entries_of 0) spans-laid ∙ sym entries-laid;
    words_are = ap words_of spans-laid ∙ sym rows-laid;
    row_count = ap (λ x. x.rows) written ∙ ap (λ t. length (words_of t)) (sym spans-laid);
    entry-count = ap (λ x. x.entries) written ∙ ap length (sym spans-laid);
    spans-ok = rw (spans-laid, manager-laid) so;
  }

  areas-laid : AreasOk (laid p a s ss st).state.partitions
  unfolding laid
  areas-laid = record {
    inside = λ q l. split-eq q p (λ e. rw (e, own-area) g.inside)
        (λ ne. rw (area_of q l ne) (ok.areas.inside q l));
    spare-inside = g.spare-inside;
    apart = λ q r l m e. split-eq q p
        (λ qp. split-eq r p (λ rp. qp ∙ sym rp)
        (λ nr. qp ∙ sym (g.own r m (sym (area_of r m nr) ∙ (sym e ∙ (rw qp own-area))))))
        (λ nq. split-eq r p (λ rp. g.own q l (sym (area_of q l nq) ∙ (e ∙ (rw rp own-area))) ∙ sym rp)
        (λ nr. ok.areas.apart q r l m (sym (area_of q l nq) ∙ (e ∙ area_of r m nr))));
    spare-apart = λ q l e. split-eq q p (λ qp. g.spare-other (sym own-area ∙ (rw qp at e)))
        (λ ne. g.spare-free q l ne (sym (area_of q l ne) ∙ e));
  }
    where
      own-area : area_at p (laid p a s ss st).state.partitions ≡ a
      own-area = ap (λ x. x.area) written

      area_of : (q : ℕ) → q < partitions_max → (q ≡ p → ⊥)
          → area_at q (laid p a s ss st).state.partitions ≡ area_at q st.state.partitions
      area_of q l ne = ap (λ x. x.area) (other-laid q l ne).same-partition

  laid-ok : StoreOk (laid p a s ss st)
  unfolding laid
  laid-ok = record {
    manager = ok.manager;
    rows-length = length_over (rows_max * a) (words_of ss) st.rows rows-room ∙ ok.rows-length;
    entries-length = length_over (entries_max * a) (entries_of 0 ss) st.entries entries-room ∙ ok.entries-length;
    places = simp length-set ok.places;
    areas = areas-laid;
    partition = λ q l. split-eq q p (λ e. rw e partition-laid)
        (λ ne. partition-same q st (laid p a s ss st) (other-laid q l ne) (ok.partition q l).spans-ok
        (ok.partition q l));
  }

-- ---- in place and in the spare area

-- st' is st with the spans of just partition p changed, into ss
pub record Changed (p : ℕ) (ss : List Span) (st st' : Store) : Type 0 where
  pub sound : StoreOk st'
  pub manager : manager_of st' ≡ manager_of st
  pub there : spans_at p st' ≡ ss
  pub elsewhere : (q : ℕ) → q < partitions_max → (q ≡ p → ⊥) → spans_at q st' ≡ spans_at q st

module _ (st : Store) (ok : StoreOk st) (p : ℕ) (h : p < partitions_max) where
  pub unchanged : Changed p (spans_at p st) st st
  unchanged = record { sound = ok; manager = refl; there = refl; elsewhere = λ q l ne. refl }

  module _ (ss : List Span) (so : SpansOk (manager_of st) ss) where
    laid-changed : (a s : ℕ) → Target p a s st.state.partitions → Changed p ss st (laid p a s ss st)
    unfolding laid
    laid-changed a s g = record {
      sound = laid-ok st ok p a s ss h g so;
      manager = refl;
      there = spans-laid st ok p a s ss h g so;
      elsewhere = λ q l ne. spans-same q st (laid p a s ss st) (other-laid st ok p a s ss h g so q l ne);
    }

    pub laid_in_place-changed : Changed p ss st (laid_in_place p ss st)
    unfolding laid_in_place
    laid_in_place-changed = laid-changed (partition_at p st).area st.state.partitions.spare
        (target-place p st.state.partitions h ok.areas)

    pub laid_in_spare-changed : Changed p ss st (laid_in_spare p ss st)
    unfolding laid_in_spare
    laid_in_spare-changed = laid-changed st.state.partitions.spare (partition_at p st).area
        (target_spare p st.state.partitions h ok.areas)

-- ---- a partition's own spans laid where it lies: no word changes

module _ (st : Store) (ok : StoreOk st) (p : ℕ) (h : p < partitions_max) where
  at_same : set st.state.partitions.at p (laid_partition (partition_at p st).area (spans_at p st))
      ≡ st.state.partitions.at
  at_same = let k = ok.partition p h in
      ap (set st.state.partitions.at p)
      (λ i. record { area = (partition_at p st).area; rows = sym k.row_count i; entries = sym k.entry-count i })
      ∙ set-get_or st.state.partitions.at p no_partition

  rows_same : over (rows_max * (partition_at p st).area) (words_of (spans_at p st)) st.rows ≡ st.rows
  rows_same = let k = ok.partition p h in let q = partition_at p st in let l = ok.areas.inside p h in
      let n = ok.rows-length in let f = k.spans-ok.rows_fit in let c = k.row_count in
      rw k.words_are (over-part (rows_max * q.area) q.rows st.rows (omega arith))

  entries-same : over (entries_max * (partition_at p st).area) (entries_of 0 (spans_at p st)) st.entries ≡ st.entries
  entries-same = let k = ok.partition p h in let q = partition_at p st in let l = ok.areas.inside p h in
      let n = ok.entries-length in let f = k.spans-ok.entries_fit in let c = k.entry-count in
      rw k.entries-are (over-part (entries_max * q.area) q.entries st.entries (omega arith))

  pub laid_same : laid_in_place p (spans_at p st) st ≡ st
  unfolding laid_in_place laid
  laid_same = λ i. record {
    state = state_of (manager_of st) (record { at = at_same i; spare = st.state.partitions.spare })
        st.state.totals;
    rows = rows_same i;
    entries = entries-same i;
  }
