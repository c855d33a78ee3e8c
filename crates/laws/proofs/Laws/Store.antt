-- What each call makes of a sound store: it stays sound, and just the spans of its partition change.
-- In order: another manager, making new, append and clear, roll back of one, purge, roll back of all.
-- Definitions: rules/specs/Store.antt.
-- Assumes nothing.
use mathlib.Core.Path.{◌≡◌, refl, sym, ◌∙◌, ap}
use mathlib.Core.Bool.{true, cond}
use mathlib.Core.List.{List, [], ◌∷◌}
use Prim.Native.Nat.{ℕ, zero, suc, ◌+◌, ◌≤◌, ◌<◌, max}
use native.Mathlib.Omega.{arith}
use lib.ListN.{length, get_or, get_or-map}
use Rattle.lists.proofs.Laws.Bools.{split, split-eq}
use Rattle.rules.specs.Limits.{partitions_max, rows_max, entries_max}
use Rattle.rules.specs.Begin.{created_manager}
use Rattle.rules.specs.Span.{spans, entries_of, words_of}
use Rattle.rules.specs.Append.{appended, cleared}
use Rattle.rules.specs.Rewrite.{has_epoch, rolled_back, purged, skips}
use Rattle.rules.specs.Store.{Store, manager_of, partition_at, entries_at, rows_at, spans_at, with_manager}
use Rattle.rules.specs.Store.{partition_numbers}
use Rattle.rules.specs.Store.{laid_in_place}
use Rattle.rules.specs.Store.{created_store, rolled_back_at, rolled_back_below, purged_store}
use Rattle.rules.specs.WellFormed.{manager_ok, epoch_ok, lengths_ok}
use Rattle.rules.specs.Manager.{Manager}
use Rattle.laws.proofs.Laws.Rewrite.{rolled_back_absent}
use Rattle.laws.proofs.Laws.SpansOk.{SpansOk, spans-ok-none, spans-ok-manager, spans-ok-appended}
use Rattle.laws.proofs.Laws.SpansOk.{spans-ok-cleared, spans-ok-rolled_back, spans-ok-purged}
use Rattle.laws.proofs.Laws.WellFormed.{AreasOk, PartitionOk, StoreOk, lengths-facts}
use Rattle.laws.proofs.Laws.Laid.{partition-same, Changed, unchanged, laid_in_place-changed}
use Rattle.laws.proofs.Laws.Laid.{laid_in_spare-changed}
use Rattle.laws.proofs.Laws.Laid.{laid_same}

-- ---- another manager: begin, commit, roll back, read-only ones, advance LSE

pub spans_with-manager : (m : Manager) (p : ℕ) (st : Store) → spans_at p (with_manager m st) ≡ spans_at p st
unfolding spans_at
spans_with-manager m p st = refl

-- each partition's spans are sound under the new manager
pub with-manager-sound : (m : Manager) (st : Store) → StoreOk st → manager_ok m ≡ true
    → ((p : ℕ) → p < partitions_max → SpansOk m (spans_at p st)) → StoreOk (with_manager m st)
with-manager-sound m st ok h f = record {
  manager = h;
  rows-length = ok.rows-length;
  entries-length = ok.entries-length;
  places = ok.places;
  areas = ok.areas;
  partition = λ p l. partition-same p st (with_manager m st)
      (record { same-partition = refl; same_entries = refl; same_rows = refl }) (f p l) (ok.partition p l);
}

pub with-manager-ok : (m : Manager) (st : Store) → StoreOk st → manager_ok m ≡ true
    → ((j : ℕ) → epoch_ok (manager_of st) j ≡ true → epoch_ok m j ≡ true) → StoreOk (with_manager m st)
with-manager-ok m st ok h f = with-manager-sound m st ok h
    (λ p l. spans-ok-manager (manager_of st) m (spans_at p st) f (ok.partition p l).spans-ok)

-- ---- making new

pub own-area : (p : ℕ) → p < partitions_max → get_or partition_numbers p 0 ≡ p
own-area zero h = refl
own-area (suc zero) h = refl
own-area (suc (suc zero)) h = refl
own-area (suc (suc (suc zero))) h = refl
own-area (suc (suc (suc (suc zero)))) h = refl
own-area (suc (suc (suc (suc (suc zero))))) h = refl
own-area (suc (suc (suc (suc (suc (suc zero)))))) h = refl
own-area (suc (suc (suc (suc (suc (suc (suc zero))))))) h = refl
own-area (suc (suc (suc (suc (suc (suc (suc (suc n)))))))) h = absurd (omega arith)

module _ (s : ℕ) (st : Store) where
  created-partition : (p : ℕ) → p < partitions_max
      → partition_at p (created_store s st) ≡ record { area = p; rows = 0; entries = 0 }
  unfolding created_store
  created-partition p h = get_or-map (λ (a : ℕ). record { area = a; rows = 0; entries = 0 })
      (0 ∷ 1 ∷ 2 ∷ 3 ∷ 4 ∷ 5 ∷ 6 ∷ 7 ∷ []) p 0
      ∙ (λ i. record { area = own-area p h i; rows = 0; entries = 0 })

  created-entries : (p : ℕ) → p < partitions_max → entries_at p (created_store s st) ≡ []
  created-entries p h = rw (created-partition p h)

  created-rows : (p : ℕ) → p < partitions_max → rows_at p (created_store s st) ≡ []
  created-rows p h = rw (created-partition p h)

  pub created-spans : (p : ℕ) → p < partitions_max → spans_at p (created_store s st) ≡ []
  unfolding spans_at spans
  created-spans p h = rw (created-entries p h)

  created-partition-ok : (p : ℕ) → p < partitions_max → PartitionOk p (created_store s st)
  unfolding entries_of words_of
  created-partition-ok p h = let e = created-spans p h in record {
    entries-are = ap (entries_of 0) e ∙ sym (created-entries p h);
    words_are = ap words_of e ∙ sym (created-rows p h);
    row_count = ap (λ q. q.rows) (created-partition p h) ∙ ap (λ ss. length (words_of ss)) (sym e);
    entry-count = ap (λ q. q.entries) (created-partition p h) ∙ ap length (sym e);
    spans-ok = rw e (spans-ok-none (manager_of (created_store s st)));
  }

  created-areas : AreasOk (created_store s st).state.partitions
  unfolding created_store
  created-areas = record {
    inside = λ p h. rw (created-partition p h) (omega arith);
    spare-inside = omega arith;
    apart = λ p q h l e. sym (area p h) ∙ (e ∙ area q l);
    spare-apart = λ p h e. let g = sym (area p h) ∙ e in omega arith;
  }
    where
      area : (p : ℕ) → p < partitions_max → (partition_at p (created_store s st)).area ≡ p
      area p h = ap (λ q. q.area) (created-partition p h)

  pub created-ok : lengths_ok st ≡ true → manager_ok (created_manager s) ≡ true → StoreOk (created_store s st)
  unfolding created_store
  created-ok h m = let len = lengths-facts st h in record {
    manager = m;
    rows-length = len.0;
    entries-length = len.1;
    places = refl;
    areas = created-areas;
    partition = created-partition-ok;
  }

-- ---- append and clear

module _ (st : Store) (ok : StoreOk st) (p : ℕ) (h : p < partitions_max) where
  pub append-changed : (i : ℕ) (batch : List ℕ) → epoch_ok (manager_of st) i ≡ true
      → (partition_at p st).rows + length batch ≤ rows_max → length (appended i batch (spans_at p st)) ≤ entries_max
      → Changed p (appended i batch (spans_at p st)) st (laid_in_place p (appended i batch (spans_at p st)) st)
  append-changed i batch e r n = let c = (ok.partition p h).row_count in
      laid_in_place-changed st ok p h (appended i batch (spans_at p st))
      (spans-ok-appended (manager_of st) i batch (spans_at p st) e (omega arith) n (ok.partition p h).spans-ok)

  -- a batch of no rows changes no word
  pub append-none : (i : ℕ) → laid_in_place p (appended i [] (spans_at p st)) st ≡ st
  unfolding appended
  append-none i = laid_same st ok p h

  pub clear-changed : (i : ℕ) → epoch_ok (manager_of st) i ≡ true → (partition_at p st).entries < entries_max
      → Changed p (cleared i (spans_at p st)) st (laid_in_place p (cleared i (spans_at p st)) st)
  clear-changed i e n = let c = (ok.partition p h).entry-count in
      laid_in_place-changed st ok p h (cleared i (spans_at p st))
      (spans-ok-cleared (manager_of st) i (spans_at p st) e (omega arith) (ok.partition p h).spans-ok)

  -- ---- roll back, a partition

  rollback-changed : (i : ℕ) → Changed p (rolled_back i (spans_at p st)) st (rolled_back_at i p st)
  unfolding rolled_back_at
  rollback-changed i = let ss = spans_at p st in let so = (ok.partition p h).spans-ok in split (has_epoch i ss)
      (λ t. rw t (laid_in_spare-changed st ok p h (rolled_back i ss)
      (spans-ok-rolled_back (manager_of st) (manager_of st) i ss (λ j e ne. e) so)))
      (λ f. rw (f, rolled_back_absent i ss so.apart f) (unchanged st ok p h))

  -- ---- purge

  pub purge-changed : ((j : ℕ) → epoch_ok (manager_of st) j ≡ true
      → epoch_ok (manager_of st) (max j (manager_of st).clock.lse) ≡ true)
      → Changed p (cond (skips (manager_of st).clock.lse (spans_at p st)) (spans_at p st)
      (purged (manager_of st).clock.lse (spans_at p st))) st (purged_store p st)
  unfolding purged_store
  purge-changed e = let l = (manager_of st).clock.lse in let ss = spans_at p st in split (skips l ss)
      (λ t. rw t (unchanged st ok p h))
      (λ f. rw f (laid_in_spare-changed st ok p h (purged l ss)
      (spans-ok-purged (manager_of st) l ss e (ok.partition p h).spans-ok)))

-- ---- roll back, the partitions below n

pub record RolledBack (i n : ℕ) (st st' : Store) : Type 0 where
  pub sound : StoreOk st'
  pub manager : manager_of st' ≡ manager_of st
  pub below : (p : ℕ) → p < partitions_max → p < n → spans_at p st' ≡ rolled_back i (spans_at p st)
  pub above : (p : ℕ) → p < partitions_max → n ≤ p → spans_at p st' ≡ spans_at p st

pub rolled_back-below : (i n : ℕ) (st : Store) → StoreOk st → n ≤ partitions_max
    → RolledBack i n st (rolled_back_below i n st)
unfolding rolled_back_below
rolled_back-below i zero st ok h = record {
  sound = ok;
  manager = refl;
  below = λ p l k. absurd (omega arith);
  above = λ p l k. refl;
}
rolled_back-below i (suc n) st ok h = further (rolled_back-below i n st ok (omega arith))
  where
    further : RolledBack i n st (rolled_back_below i n st)
        → RolledBack i (suc n) st (rolled_back_at i n (rolled_back_below i n st))
    further r = let c = rollback-changed (rolled_back_below i n st) r.sound n (omega arith) i in record {
      sound = c.sound;
      manager = c.manager ∙ r.manager;
      below = λ p l k. split-eq p n
          (λ e. rw e (c.there ∙ ap (rolled_back i) (r.above n (omega arith) (omega arith))))
          (λ ne. c.elsewhere p l ne ∙ r.below p l (omega arith));
      above = λ p l k. c.elsewhere p l (λ e. omega arith) ∙ r.above p l (omega arith);
    }

module _ (i : ℕ) (st : Store) (ok : StoreOk st) where
  all-below : RolledBack i partitions_max st (rolled_back_below i partitions_max st)
  all-below = rolled_back-below i partitions_max st ok (omega arith)

  pub rollback-spans : (p : ℕ) → p < partitions_max
      → spans_at p (rolled_back_below i partitions_max st) ≡ rolled_back i (spans_at p st)
  rollback-spans p h = all-below.below p h h

  -- under the manager that the roll back leaves
  pub rollback-ok : (m : Manager) → manager_ok m ≡ true
      → ((j : ℕ) → epoch_ok (manager_of st) j ≡ true → (j ≡ i → ⊥) → epoch_ok m j ≡ true)
      → StoreOk (with_manager m (rolled_back_below i partitions_max st))
  rollback-ok m h f = with-manager-sound m (rolled_back_below i partitions_max st) all-below.sound h
      (λ p l. rw (rollback-spans p l) (spans-ok-rolled_back (manager_of st) m i (spans_at p st) f
      (ok.partition p l).spans-ok))
