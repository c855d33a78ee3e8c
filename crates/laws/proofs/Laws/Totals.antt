-- *sound* by its parts: the store is well-formed, and its totals are those worked out afresh. 02 (iii).
-- Definitions: rules/specs/WellFormed.antt `totals_ok`, `sound`, rules/specs/Store.antt `refreshed`.
-- In order: the parts; totals brought up to date; what leaves them as they were; making new; append, clear, purge.
-- Assumes nothing.
use mathlib.Core.Path.{◌≡◌, refl, sym, ap, subst, ◌∙◌}
use mathlib.Core.Bool.{Bool, true, ◌&&◌, cond}
use mathlib.Core.List.{List, ◌++◌, map}
use Prim.Native.Nat.{ℕ, zero, suc, ◌<◌}
use native.Mathlib.Omega.{arith}
use lib.ListN.{length, get_or}
use lib.Seq.{ext_get_or}
use lib.Dec.{eqb}
use borrow.Author.Tests.{eqb-true, eq-eqb}
use Rattle.lists.proofs.Laws.All.{All-all_of, All_get_d}
use Rattle.lists.proofs.Laws.Bools.{and_left, and_right, and_both, split, split-eq}
use Rattle.rules.specs.Limits.{partitions_max}
use Rattle.rules.specs.Span.{Span}
use Rattle.rules.specs.Weight.{weight, weight_by, total}
use Rattle.rules.specs.Hides.{shown, shown_in}
use Rattle.rules.specs.Manager.{Manager, has_open}
use Rattle.rules.specs.Rewrite.{purged, skips}
use Rattle.rules.specs.Ledger.{Line}
use Rattle.rules.specs.Store.{Store, manager_of, spans_at, with_manager, total_at, totals_of, refreshed, created_store}
use Rattle.rules.specs.Store.{purged_store, laid, laid_in_spare, partition_numbers}
use Rattle.rules.specs.WellFormed.{well_formed, totals_ok, sound}
use Rattle.laws.proofs.Laws.WellFormed.{StoreOk, store-facts, store_ok}
use Rattle.laws.proofs.Laws.Laid.{Changed}
use Rattle.laws.proofs.Laws.Lines.{mark_of, AllLines}
use Rattle.laws.proofs.Laws.LinesOf.{lines_of}
use Rattle.laws.proofs.Laws.Manager.{manager-facts}
use Rattle.laws.proofs.Laws.Epochs.{has_open-range, purged-epoch_ok}
use Rattle.laws.proofs.Laws.Store.{own-area, created-spans, purge-changed}
use Rattle.laws.proofs.Laws.Weight.{total-added, total-purged}

-- ---- the parts

pub record SoundOk (st : Store) : Type 0 where
  pub shape : StoreOk st
  pub totals : totals_ok st ≡ true

-- an array of the source has its length by its type; for a list it is a hypothesis
pub sound-facts : (st : Store) → length st.state.partitions.at ≡ partitions_max → sound st ≡ true → SoundOk st
unfolding sound
sound-facts st n h = record {
  shape = store-facts st n (and_left (well_formed st) (totals_ok st) h);
  totals = and_right (well_formed st) (totals_ok st) h;
}

pub sound-ok : (st : Store) → SoundOk st → sound st ≡ true
unfolding sound
sound-ok st ok = and_both (well_formed st) (totals_ok st) (store_ok st ok.shape) ok.totals

-- each total by itself
tests-each : (t : ℕ → Bool) → t 0 && (t 1 && (t 2 && (t 3 && (t 4 && (t 5 && (t 6 && (t 7 && true))))))) ≡ true
    → (p : ℕ) → p < partitions_max → t p ≡ true
tests-each t h p l = subst (λ q. t q ≡ true) (own-area p l)
    (All_get_d (λ q. t q ≡ true) 0 partition_numbers (All-all_of t partition_numbers h) p l)

pub total_kept : (st : Store) → SoundOk st → (p : ℕ) → p < partitions_max → get_or st.state.totals p 0 ≡ total_at p st
unfolding totals_ok
total_kept st ok p l = eqb-true (get_or st.state.totals p 0) (total_at p st)
    (tests-each (λ q. eqb (get_or st.state.totals q 0) (total_at q st)) ok.totals p l)

-- one for each partition
pub numbered : {A : Type 0} (f : ℕ → A) (d : A) (p : ℕ) → p < partitions_max → get_or (map f partition_numbers) p d
    ≡ f p
numbered f d zero h = refl
numbered f d (suc zero) h = refl
numbered f d (suc (suc zero)) h = refl
numbered f d (suc (suc (suc zero))) h = refl
numbered f d (suc (suc (suc (suc zero)))) h = refl
numbered f d (suc (suc (suc (suc (suc zero))))) h = refl
numbered f d (suc (suc (suc (suc (suc (suc zero)))))) h = refl
numbered f d (suc (suc (suc (suc (suc (suc (suc zero))))))) h = refl
numbered f d (suc (suc (suc (suc (suc (suc (suc (suc n)))))))) h = absurd (omega arith)

pub totals-each : (st : Store) (p : ℕ) → p < partitions_max → get_or (totals_of st) p 0 ≡ total_at p st
unfolding totals_of
totals-each st p h = numbered (λ q. total_at q st) 0 p h

totals-length : (st : Store) → length (totals_of st) ≡ partitions_max
unfolding totals_of
totals-length st = refl

pub totals-by : (st : Store) (f : ℕ → ℕ) → ((p : ℕ) → p < partitions_max → total_at p st ≡ f p)
    → totals_of st ≡ map f partition_numbers
unfolding totals_of
totals-by st f h = ext_get_or 0 _ _ refl (λ p l. numbered (λ q. total_at q st) 0 p l ∙ (h p l ∙ sym (numbered f 0 p l)))

-- under a manager with the same LCE they are those that are kept
at-lce : (st : Store) (m : Manager) → m.clock.lce ≡ (manager_of st).clock.lce → (p : ℕ)
    → total_at p (with_manager m st) ≡ total_at p st
unfolding total_at spans_at
at-lce st m e p = ap (λ (n : ℕ). total n (spans_at p st)) e

pub total-still : (st : Store) → SoundOk st → (m : Manager) → m.clock.lce ≡ (manager_of st).clock.lce → (p : ℕ)
    → p < partitions_max → get_or (totals_of (with_manager m st)) p 0 ≡ get_or st.state.totals p 0
total-still st ok m e p l = totals-each (with_manager m st) p l ∙ (at-lce st m e p ∙ sym (total_kept st ok p l))

pub totals-still : (st : Store) → SoundOk st → length st.state.totals ≡ partitions_max → (m : Manager)
    → m.clock.lce ≡ (manager_of st).clock.lce → totals_of (with_manager m st) ≡ st.state.totals
totals-still st ok n m e = ext_get_or 0 _ _ (totals-length (with_manager m st) ∙ sym n)
    (λ p l. total-still st ok m e p (subst (λ k. p < k) (totals-length (with_manager m st)) l))

-- ---- brought up to date

pub refreshed-ok : (st : Store) → StoreOk st → StoreOk (refreshed st)
unfolding spans_at
refreshed-ok st ok = record {
  manager = ok.manager;
  rows-length = ok.rows-length;
  entries-length = ok.entries-length;
  places = ok.places;
  areas = ok.areas;
  partition = λ p h.
      let q = ok.partition p h in record {
        entries-are = q.entries-are;
        words_are = q.words_are;
        row_count = q.row_count;
        entry-count = q.entry-count;
        spans-ok = q.spans-ok;
      };
}

pub spans-refreshed : (p : ℕ) (st : Store) → spans_at p (refreshed st) ≡ spans_at p st
unfolding spans_at
spans-refreshed p st = refl

-- eight tests that agree
tests_same : (t u : ℕ → Bool) → ((p : ℕ) → p < partitions_max → t p ≡ u p)
    → t 0 && (t 1 && (t 2 && (t 3 && (t 4 && (t 5 && (t 6 && (t 7 && true)))))))
    ≡ u 0 && (u 1 && (u 2 && (u 3 && (u 4 && (u 5 && (u 6 && (u 7 && true)))))))
tests_same t u h = let e : (p : ℕ) → p < partitions_max → t p ≡ u p = h in
    rw (
      e 0 (omega arith),
      e 1 (omega arith),
      e 2 (omega arith),
      e 3 (omega arith),
      e 4 (omega arith),
      e 5 (omega
          arith),
      e 6 (omega arith),
      e 7 (omega arith),
    )

pub totals-refreshed : (st : Store) → totals_ok (refreshed st) ≡ true
unfolding totals_ok totals_of total_at spans_at
totals-refreshed st = tests_same (λ p. eqb (total_at p st) (total_at p st)) (λ p. true)
    (λ p h. eq-eqb (total_at p st) (total_at p st) refl)

pub sound-refreshed : (st : Store) → StoreOk st → SoundOk (refreshed st)
sound-refreshed st ok = record { shape = refreshed-ok st ok; totals = totals-refreshed st }

-- ---- the same totals, of partitions that weigh as much

pub totals-same : (st st' : Store) → st'.state.totals ≡ st.state.totals
    → ((p : ℕ) → p < partitions_max → total_at p st' ≡ total_at p st) → totals_ok st' ≡ totals_ok st
unfolding totals_ok
totals-same st st' e h = tests_same (λ p. eqb (get_or st'.state.totals p 0) (total_at p st'))
    (λ p. eqb (get_or st.state.totals p 0) (total_at p st)) (λ p l k. eqb (get_or (e k) p 0) (h p l k))

-- one partition changed
pub totals-changed : (p : ℕ) (ss : List Span) (st st' : Store) → Changed p ss st st'
    → st'.state.totals ≡ st.state.totals
    → total (manager_of st).clock.lce ss ≡ total_at p st → totals_ok st ≡ true → totals_ok st' ≡ true
unfolding total_at
totals-changed p ss st st' C e h t = totals-same st st' e (λ q l. split-eq q p
    (λ s. rw s ((λ k. total (C.manager k).clock.lce (C.there k)) ∙ h))
    (λ ne k. total (C.manager k).clock.lce (C.elsewhere q l ne k))) ∙ t

-- ---- making new

pub totals_created : (s : ℕ) (st : Store) → totals_ok (created_store s st) ≡ true
unfolding totals_ok total_at created_store total weight_by weight shown shown_in
totals_created s st = tests_same (λ p. eqb 0 (total_at p (created_store s st))) (λ p. true)
    (λ p h. rw (created-spans s st p h))

-- ---- append, clear and purge

module _ (st : Store) (ok : SoundOk st) where
  abbrev m : Manager
  m = manager_of st

  -- lines of an open transaction at the end of a partition: its epoch is above LCE
  total_open : (i p : ℕ) (ss : List Span) (ys : List Line) → has_open i m ≡ true
      → lines_of ss ≡ lines_of (spans_at p st) ++ ys → AllLines (λ x. mark_of x ≡ i) ys
      → total m.clock.lce ss ≡ total_at p st
  unfolding total_at
  total_open i p ss ys o l a =
      total-added m.clock.lce i (spans_at p st) ss ys (has_open-range m ok.shape.manager i o).0 l a

  pub sound-added : (i p : ℕ) (ss : List Span) (st' : Store) (ys : List Line) → has_open i m ≡ true
      → Changed p ss st st' → st'.state.totals ≡ st.state.totals → lines_of ss ≡ lines_of (spans_at p st) ++ ys
      → AllLines (λ x. mark_of x ≡ i) ys → SoundOk st'
  sound-added i p ss st' ys o C e l a = record {
    shape = C.sound;
    totals = totals-changed p ss st st' C e (total_open i p ss ys o l a) ok.totals;
  }

  -- LSE is at most LCE
  abbrev purged_spans : ℕ → List Span
  purged_spans p = cond (skips m.clock.lse (spans_at p st)) (spans_at p st) (purged m.clock.lse (spans_at p st))

  purged-total : (p : ℕ) → total m.clock.lce (purged_spans p) ≡ total_at p st
  unfolding total_at
  purged-total p = let k = (manager-facts m ok.shape.manager).clock in
      total-purged m.clock.lce m.clock.lse (spans_at p st) k.lse-low

  purged-totals : (p : ℕ) → (purged_store p st).state.totals ≡ st.state.totals
  unfolding purged_store laid_in_spare laid
  purged-totals p = split (skips m.clock.lse (spans_at p st)) (λ t. rw t) (λ f. rw f)

  pub sound-purged : (p : ℕ) → p < partitions_max → SoundOk (purged_store p st)
  sound-purged p h = let C = purge-changed st ok.shape p h (purged-epoch_ok m ok.shape.manager) in
      record {
        shape = C.sound;
        totals = totals-changed p (purged_spans p) st (purged_store p st) C (purged-totals p) (purged-total p)
            ok.totals;
      }
