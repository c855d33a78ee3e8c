-- Commit and roll back: the manager goes on tracking the ledger. Definitions: rules/specs/Close.antt,
-- rules/specs/Ledger.antt.
-- In order: who stays open, Closing and what it keeps, commit, roll back, the calls.
-- Assumes nothing.
use mathlib.Core.Path.{◌≡◌, refl, sym, ap, ◌∙◌}
use mathlib.Core.Bool.{true, false, not, ◌&&◌}
use mathlib.Core.Logic.{◌⊎◌, inl, inr}
use mathlib.Core.List.Memᴰ
use mathlib.Core.List.{List, ◌∷◌, Memᴰ as In}
use Prim.Native.Nat.{ℕ, ◌-◌, ◌<◌}
use native.Mathlib.Omega.{arith}
use lib.Dec.{ltb, leb, eqb}
use borrow.Author.Tests.{ltb-true, eqb-true, eqb-false, eq-eqb, ne_eqb, not-true}
use Rattle.lists.specs.Lists.{keep_if, any_of, first_of, elem}
use Rattle.lists.proofs.Laws.Bools.{split, and_left, and_right, and-false, and-true, or_left, or_right}
use Rattle.lists.proofs.Laws.Bools.{or_cases}
use Rattle.lists.proofs.Laws.Filter.{any_of-same, any_of-map, any_of-keep_if, keep_if_in, first_of-keep_if}
use Rattle.lists.proofs.Laws.Filter.{first_of-map, any_of-without, first_of-without}
use Rattle.lists.proofs.Laws.Tests.{and_mask, no_proof}
use Rattle.rules.specs.Manager.{Writer, no_writer, is_open, opens, has_open, writers_of, readers_of}
use Rattle.rules.specs.Close.{committed_txns, dropped_txns, settled_lce, settled, committed_manager}
use Rattle.rules.specs.Close.{rolled_back_manager}
use Rattle.rules.specs.Sees.{sees_rw}
use Rattle.rules.specs.Ledger.{Snapshot, Ledger, no_snapshot, named, without, marks_of, with_open_rw}
use Rattle.rules.specs.WellFormed.{manager_ok}
use Rattle.rules.specs.Manager.{Manager}
use Rattle.laws.proofs.Laws.Manager.{manager-facts, opens_open, opens-epoch}
use Rattle.laws.proofs.Laws.Views.{writers_of_with}
use Rattle.laws.proofs.Laws.Close.{Unsettled, Moved, kept, kept-fit, committed_txn, settled-rises, settled_is}
use Rattle.laws.proofs.Laws.Close.{epochs-committed, committed-unsettled, dropped-unsettled}
use Rattle.laws.proofs.Laws.Close.{committed-ok}
use Rattle.laws.proofs.Laws.Close.{rolled_back-ok}
use Rattle.laws.proofs.Laws.Epochs.{known, settled-known, dropped-known, opens-known, has_open-range}
use Rattle.laws.proofs.Laws.Tracks.{alive_in, alive, deps_in, WritersTrack, Tracks, readers-alive}

-- ---- who stays open

pub opens-keyed : (i j : ℕ) (t : Writer) → opens j t ≡ true → opens i t ≡ eqb j i
opens-keyed i j t h = rw (opens_open j t h, opens-epoch j t h)

pub named-keyed : (i j : ℕ) (s : Snapshot) → named j s ≡ true → named i s ≡ eqb j i
named-keyed i j s h = rw (eqb-true s.name j h)

opens_dropped : (i j : ℕ) (ts : List Writer) → any_of (opens j) (dropped_txns i ts) ≡ any_of (opens j) ts
    && not (eqb j i)
unfolding dropped_txns
opens_dropped i j ts = any_of-without opens opens-keyed i j ts

first_dropped : (i j : ℕ) (ts : List Writer) → (j ≡ i → ⊥)
    → first_of (opens j) no_writer (dropped_txns i ts) ≡ first_of (opens j) no_writer ts
unfolding dropped_txns
first_dropped i j ts ne = first_of-without opens opens-keyed no_writer i j ts ne

-- a committed transaction is as little open as a dropped one
opens-committed_txn : (i j : ℕ) (t : Writer) → opens j (committed_txn i t) ≡ opens j t && not (opens i t)
opens-committed_txn i j t = split (opens i t)
    (λ o. rw (o, and-false (opens j t)))
    (λ n. rw (n, and-true (opens j t)))

opens-committed : (i j : ℕ) (ts : List Writer)
    → any_of (opens j) (committed_txns i ts) ≡ any_of (opens j) ts && not (eqb j i)
unfolding committed_txns
opens-committed i j ts = any_of-map (opens j) (committed_txn i) ts
    ∙ (any_of-same _ (λ t. opens j t && not (opens i t)) ts (λ t k. opens-committed_txn i j t)
    ∙ (sym (any_of-keep_if (opens j) (λ t. not (opens i t)) ts) ∙ any_of-without opens opens-keyed i j ts))

first-committed : (i j : ℕ) (ts : List Writer) → (j ≡ i → ⊥)
    → first_of (opens j) no_writer (committed_txns i ts) ≡ first_of (opens j) no_writer ts
unfolding committed_txns
first-committed i j ts ne = first_of-map (opens j) no_writer (committed_txn i) ts
    (λ t. opens-committed_txn i j t ∙ split (opens j t) (λ o. rw (o, shut t o)) (λ n. rw n))
    (λ t o. rw (shut t o))
  where
    shut : (t : Writer) → opens j t ≡ true → opens i t ≡ false
    shut t o = opens-keyed i j t o ∙ ne_eqb j i ne

-- as LCE settles, only ones that wait go
opens_kept : (lce j : ℕ) (ts : List Writer) → any_of (opens j) (keep_if (kept lce) ts) ≡ any_of (opens j) ts
opens_kept lce j ts = any_of-keep_if (opens j) (kept lce) ts ∙ any_of-same _ (opens j) ts (λ t i. split (is_open t)
    (λ o. rw (o, and-true (eqb t.epoch j)))
    (λ n. rw n))

first-kept : (lce j : ℕ) (ts : List Writer)
    → first_of (opens j) no_writer (keep_if (kept lce) ts) ≡ first_of (opens j) no_writer ts
first-kept lce j ts = first_of-keep_if (opens j) no_writer (kept lce) ts
    (λ t o. or_left (is_open t) _ (opens_open j t o))

-- ---- Closing

-- transaction i, open in m, is closed: ts are the transactions before LCE is settled, cs the committed epochs
pub record Closing (m : Manager) (g : Ledger) (i : ℕ) (ts : List Writer) (cs : List ℕ) : Type 0 where
  pub opens-left : (j : ℕ) → any_of (opens j) ts ≡ has_open j m && not (eqb j i)
  pub first-left : (j : ℕ) → (j ≡ i → ⊥) → first_of (opens j) no_writer ts ≡ first_of (opens j) no_writer (writers_of m)
  pub unsettled : Unsettled m.clock ts
  pub alive-left : (j : ℕ) → (j ≡ i → ⊥) → alive g j ≡ alive_in cs (without i g.writers) j
  pub below : (c : ℕ) → elem c cs ≡ true → c < m.clock.ec
  pub shut : (c : ℕ) → elem c cs ≡ true → has_open c m && not (eqb c i) ≡ false
  pub has : (c : ℕ) → elem c cs ≡ true → known m.clock.lce ts c ≡ true
  pub waits-done : (t : Writer) → In t ts → is_open t ≡ false → elem t.epoch cs ≡ true
  pub grows : (c : ℕ) → elem c g.committed ≡ true → elem c cs ≡ true

module _ {m : Manager} {g : Ledger} (T : Tracks m g) (i : ℕ) (o : has_open i m ≡ true) where
  -- an open transaction is seen by no other open one
  pub unseen : (j : ℕ) → has_open j m ≡ true → (j ≡ i → ⊥) → sees_rw j (deps_in j (writers_of m)) i ≡ false
  unfolding sees_rw
  unseen j u ne = rw (ne_eqb i j (λ e. ne (sym e))) (split (ltb i j)
      (λ t. rw (t, T.writers.older j i u o (ltb-true i j t)))
      (λ f. rw f))

  module _ (ts : List Writer) (cs : List ℕ) (C : Closing m g i ts cs) where
    abbrev to : ℕ
    to = settled_lce m.clock.lce ts

    abbrev rest : List Writer
    rest = keep_if (kept (settled_lce m.clock.lce ts)) ts

    left : (j : ℕ) → any_of (opens j) rest ≡ true → (has_open j m ≡ true) × (j ≡ i → ⊥)
    left j e = let h = sym (C.opens-left j) ∙ (sym (opens_kept to j ts) ∙ e) in (
      and_left (has_open j m) (not (eqb j i)) h,
      eqb-false j i (not-true (eqb j i) (and_right (has_open j m) (not (eqb j i)) h)),
    )

    deps-left : (j : ℕ) → any_of (opens j) rest ≡ true → deps_in j rest ≡ deps_in j (writers_of m)
    deps-left j e = ap (λ (w : Writer). w.deps) (first-kept to j ts ∙ C.first-left j (left j e).1)

    marks-left : (j : ℕ) → any_of (opens j) rest ≡ true → marks_of j (without i g.writers) ≡ marks_of j g.writers
    marks-left j e =
        ap (λ (s : Snapshot). s.marks) (first_of-without named named-keyed no_snapshot i j g.writers (left j e).1)

    lce-now : (to ≡ m.clock.lce) ⊎ Moved m.clock.lce ts
        → (m.clock.lce ≡ g.start - 1) ⊎ (elem m.clock.lce g.committed ≡ true)
        → (to ≡ g.start - 1) ⊎ (elem to cs ≡ true)
    lce-now (inl e) (inl k) = inl (e ∙ k)
    lce-now (inl e) (inr k) = inr (rw e (C.grows m.clock.lce k))
    lce-now (inr w) k = inr (rw (← w.epoch) (C.waits-done w.it w.at
        (not-true (is_open w.it) (and_left (not (is_open w.it)) _ w.reaches))))

    closing_track : WritersTrack to m.clock.ec rest g.start cs (without i g.writers)
    closing_track = let R = T.writers in record {
      same = λ j. rw (any_of-without named named-keyed i j g.writers, opens_kept to j ts, C.opens-left j, R.same j);
      older = λ j k e u h. rw (deps-left j e) (R.older j k (left j e).0 (left k u).0 h);
      marks = λ j e k. rw (marks-left j e, deps-left j e) (R.marks j (left j e).0 k
          ∙ and_mask (alive g k) (alive_in cs (without i g.writers) k) (sees_rw j (deps_in j (writers_of m)) k)
          (λ s. C.alive-left k (λ q. no_proof (sym (unseen j (left j e).0 (left j e).1)
          ∙ (ap (sees_rw j (deps_in j (writers_of m))) (sym q) ∙ s)))));
      done_below = C.below;
      done-shut = λ c d. opens_kept to c ts ∙ (C.opens-left c ∙ C.shut c d);
      done-known = λ c d. settled-known m.clock.lce ts c (C.has c d);
      waits-done = λ t k n. C.waits-done t (keep_if_in (kept to) ts k).0 n;
      lce-done = lce-now (settled_is m.clock.lce ts) R.lce-done;
      lce-base = let b = R.lce-base in let u = settled-rises m.clock.lce ts in omega arith;
    }

  -- ---- commit

  not_done : elem i g.committed ≡ false
  not_done = split (elem i g.committed) (λ t. no_proof (sym (T.writers.done-shut i t) ∙ o)) (λ f. f)

  pub alive-commit : (j : ℕ) → alive (with_open_rw (i ∷ g.committed) (without i g.writers) g) j ≡ alive g j
  alive-commit j = rw (any_of-without named named-keyed i j g.writers) (split (eqb j i)
      (λ t. rw (t, eqb-true j i t, T.writers.same i, o) (sym (or_right (elem i g.committed) true refl)))
      (λ f. rw (f, and-true (any_of (named j) g.writers))))

  commit_closing : Closing m g i (committed_txns i (writers_of m)) (i ∷ g.committed)
  unfolding committed_txns
  commit_closing = let R = T.writers in let ts = writers_of m in let f = manager-facts m T.ok in record {
    opens-left = λ j. opens-committed i j ts;
    first-left = λ j ne. first-committed i j ts ne;
    unsettled = committed-unsettled m.clock ts f.writers i;
    alive-left = λ j ne. sym (alive-commit j);
    below = λ c d. or_cases (eqb c i) (elem c g.committed) d
        (λ t. let q = eqb-true c i t in let w = has_open-range m T.ok i o in omega arith)
        (λ n t. R.done_below c t);
    shut = λ c d. or_cases (eqb c i) (elem c g.committed) d
        (λ t. rw (t, and-false (has_open c m)))
        (λ n t. rw (R.done-shut c t));
    has = λ c d. rw (epochs-committed i ts) (or_cases (eqb c i) (elem c g.committed) d
        (λ t. or_right (leb c m.clock.lce) _ (rw (eqb-true c i t) (opens-known i ts o)))
        (λ n t. R.done-known c t));
    waits-done = λ t k n. let w = Memᴰ.of_map (committed_txn i) ts k in split (opens i w.0)
        (λ p. rw (← w.2, p, eq-eqb i i refl))
        (λ h. let q : w.0 ≡ t = rw h at w.2 in
        or_right (eqb t.epoch i) _ (R.waits-done t (Memᴰ.cast (sym q) w.1) n));
    grows = λ c d. or_right (eqb c i) _ d;
  }

  -- ---- roll back

  pub alive-rollback : (j : ℕ)
      → alive (with_open_rw g.committed (without i g.writers) g) j ≡ alive g j && not (eqb j i)
  alive-rollback j = rw (any_of-without named named-keyed i j g.writers) (split (eqb j i)
      (λ t. rw (t, eqb-true j i t, not_done, and-false (any_of (named i) g.writers)))
      (λ f. rw (f, and-true (any_of (named j) g.writers), and-true (alive g j))))

  rollback_closing : Closing m g i (dropped_txns i (writers_of m)) g.committed
  unfolding dropped_txns
  rollback_closing = let R = T.writers in let ts = writers_of m in let f = manager-facts m T.ok in record {
    opens-left = λ j. opens_dropped i j ts;
    first-left = λ j ne. first_dropped i j ts ne;
    unsettled = dropped-unsettled m.clock ts f.writers i;
    alive-left = λ j ne. sym (alive-rollback j ∙ rw (ne_eqb j i ne) (and-true (alive g j)));
    below = R.done_below;
    shut = λ c d. rw (R.done-shut c d);
    has = λ c d. dropped-known i m.clock.lce ts c (λ q. no_proof (sym not_done ∙ rw q at d)) (R.done-known c d);
    waits-done = λ t k n. R.waits-done t (keep_if_in (λ (u : Writer). not (opens i u)) ts k).0 n;
    grows = λ c d. d;
  }

-- ---- the calls

closing-tracks : {m : Manager} {g : Ledger} → Tracks m g → (i : ℕ) → has_open i m ≡ true
    → (ts : List Writer) (cs : List ℕ) → Closing m g i ts cs → manager_ok (settled ts m) ≡ true
    → Tracks (settled ts m) (with_open_rw cs (without i g.writers) g)
unfolding settled
closing-tracks {m} {g} T i o ts cs C ok = let w = has_open-range m T.ok i o in record {
  ok = ok;
  writers = rw (writers_of_with (keep_if (kept (settled_lce m.clock.lce ts)) ts) m
      (kept-fit (kept (settled_lce m.clock.lce ts)) ts C.unsettled.fits)) (closing_track T i o ts cs C);
  readers = readers-alive m.clock.lce (readers_of m) (alive g) (alive_in cs (without i g.writers)) g.readers
      (manager-facts m T.ok).readers.high (λ j l. C.alive-left j (λ q. omega arith)) T.readers;
}

pub tracks-commit : {m : Manager} {g : Ledger} → Tracks m g → (i : ℕ) → has_open i m ≡ true
    → Tracks (committed_manager i m) (with_open_rw (i ∷ g.committed) (without i g.writers) g)
unfolding committed_manager
tracks-commit {m} {g} T i o = closing-tracks T i o (committed_txns i (writers_of m)) (i ∷ g.committed)
    (commit_closing T i o) (committed-ok i m T.ok)

pub tracks-rollback : {m : Manager} {g : Ledger} → Tracks m g → (i : ℕ) → has_open i m ≡ true
    → Tracks (rolled_back_manager i m) (with_open_rw g.committed (without i g.writers) g)
unfolding rolled_back_manager
tracks-rollback {m} {g} T i o = closing-tracks T i o (dropped_txns i (writers_of m)) g.committed
    (rollback_closing T i o) (rolled_back-ok i m T.ok)
