-- Laws of the soundness tests: one pass over the entries finds partition_ok_by, which is rules' partition_ok.
-- In order: one pass, all partitions and *sound*.
-- Definitions: specs/Sound.antt.
-- Assumes nothing.
use mathlib.Core.Path.{◌≡◌, refl, sym, ◌∙◌}
use mathlib.Core.Bool.{Bool, true, false, not, ◌&&◌, ◌||◌, and-false, and-true, and_assoc}
use mathlib.Core.List.{List, [], ◌∷◌}
use Prim.Native.Nat.{ℕ, ◌*◌}
use lib.Dec.{ltb, leb, eqb}
use Rattle.lists.specs.Lists.{all_of, part}
use Rattle.rules.specs.Limits.{rows_max, entries_max}
use Rattle.rules.specs.Manager.{records_of}
use Rattle.rules.specs.Store.{Store, manager_of}
use Rattle.rules.specs.WellFormed.{manager_ok, areas_ok, epoch_ok, ends_ok, alike, apart, partition_ok, lengths_ok}
use Rattle.rules.specs.WellFormed.{well_formed}
use Rattle.laws.proofs.Laws.Views.{epochs-views}
use Rattle.rules.specs.declared.Clock.{Clock}
use Rattle.rules.specs.declared.Entry.{Entry}
use Rattle.rules.specs.Manager.{Manager}
use Rattle.rules.specs.declared.Partition.{Partition}
use Rattle.rules.specs.declared.Partitions.{Partitions}
use Rattle.partition_sound.specs.Sound.{epochs_of, epoch_ok_by, entry_ok_by, partition_ok_by, follows, before_first}
use Rattle.partition_sound.specs.Sound.{chained, partitions_ok}

-- ---- one pass

-- ok, le, up, na: of the first entry its own test, its end, its rise, its neighbour; ends, each, far: of the
-- rest
shuffle : (ok le up na ends each far : Bool)
    → (ok && le && up && na) && (ends && each && far) ≡ ((le && up && ends) && (ok && each)) && (na && far)
shuffle true true true true ends each far = refl
shuffle true true true false ends each far = sym (and-false (ends && each))
shuffle true true false na ends each far = refl
shuffle true false up na ends each far = refl
shuffle false le up na ends each far = rw (and-false (le && up && ends))

module _ (c : Clock) (js : List ℕ) (rows : ℕ) where
  chained-is : (d : Entry) (es : List Entry)
      → chained c js rows d es ≡ ends_ok rows d.end es && all_of (entry_ok_by c js) es && apart (d ∷ es)
  unfolding chained ends_ok apart follows
  chained-is d [] = rw (and-true (eqb d.end rows), and-true (eqb d.end rows))
  chained-is d (e ∷ es) = rw (chained-is e es)
      (shuffle (entry_ok_by c js e) (leb d.end e.end) (eqb e.mark 1 || ltb d.end e.end) (not (alike d e))
      (ends_ok rows e.end es) (all_of (entry_ok_by c js) es) (apart (e ∷ es)))

-- nothing is alike to what stands before the first
apart-first : (es : List Entry) → apart (before_first ∷ es) ≡ apart es
unfolding apart
apart-first [] = refl
apart-first (e ∷ es) = refl

abbrev counts_ok : Partition → Bool
counts_ok q = leb q.rows rows_max && leb q.entries entries_max

module _ (c : Clock) (js : List ℕ) (entries : List Entry) (q : Partition) where
  pub partition_ok_by_many : counts_ok q ≡ false → partition_ok_by c js entries q ≡ false
  unfolding partition_ok_by
  partition_ok_by_many f = rw f

  pub partition_ok_by-pass : counts_ok q ≡ true
      → partition_ok_by c js entries q
      ≡ chained c js q.rows before_first (part (entries_max * q.area) q.entries entries)
  unfolding partition_ok_by
  partition_ok_by-pass t = let es = part (entries_max * q.area) q.entries entries in
      rw (t, chained-is c js q.rows before_first es, apart-first es)

-- ---- all partitions

module _ (m : Manager) (entries : List Entry) (ps : Partitions) where
  pub partitions_ok_shared : areas_ok ps ≡ false → partitions_ok m entries ps ≡ false
  unfolding partitions_ok
  partitions_ok_shared f = rw f

  -- what was found of each partition for a list of the records' epochs
  pub partitions_ok-each : (js : List ℕ) (r : Bool) → areas_ok ps ≡ true → js ≡ epochs_of m.writers
      → all_of (partition_ok_by m.clock js entries) ps.at ≡ r → partitions_ok m entries ps ≡ r
  unfolding partitions_ok partition_ok_by partition_ok epoch_ok_by epoch_ok
  partitions_ok-each js r t e f = rw (t, ← f, e ∙ sym (epochs-views m.deps (records_of m)))

-- 01's *sound*: the lent areas, the manager, the partitions
pub well_formed-is : (st : Store) → well_formed st
    ≡ lengths_ok st && manager_ok (manager_of st) && partitions_ok (manager_of st) st.entries st.state.partitions
unfolding well_formed partitions_ok
well_formed-is st = let ps = st.state.partitions in
    and_assoc (lengths_ok st && manager_ok (manager_of st)) (areas_ok ps)
    (all_of (partition_ok (manager_of st) st.entries) ps.at)
