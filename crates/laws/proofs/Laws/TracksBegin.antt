-- Making new and begin: the manager goes on tracking the ledger. Definitions: rules/specs/Begin.antt,
-- rules/specs/Ledger.antt.
-- In order: making new, which epochs are alive, the transactions with the new one, its snapshot, begin.
-- Assumes nothing.
use mathlib.Core.Path.{◌≡◌, refl, sym, ap, ◌∙◌}
use mathlib.Core.Bool.{Bool, true, false, not, ◌&&◌, ◌||◌, cond}
use mathlib.Core.Logic.{◌⊎◌, inl, inr}
use mathlib.Core.List.Memᴰ
use mathlib.Core.List.{List, [], ◌∷◌, ◌++◌, map-append, Memᴰ as In}
use Prim.Native.Nat.{ℕ, suc, ◌≤◌, ◌<◌}
use native.Mathlib.Omega.{arith}
use lib.Dec.{ltb, eqb}
use borrow.Author.Tests.{ltb-true, eqb-true, lt-ltb, eq-eqb, ne_eqb}
use Rattle.lists.specs.Lists.{keep_if, any_of, elem}
use Rattle.lists.proofs.Laws.Bools.{split, and_left, and-false, or_right, or_cases, or-false, eqb_comm}
use Rattle.lists.proofs.Laws.Filter.{any_of-append, first_of_old, first_of-new, elem-keep_if}
use Rattle.lists.proofs.Laws.Tests.{or_comm, and_mask, no_proof}
use Rattle.rules.specs.Limits.{last_epoch, writers_max}
use Rattle.rules.specs.Manager.{Writer, no_writer, is_open, opens, writers_of, open_epochs}
use Rattle.rules.specs.Begin.{created_manager, begun_txn, begun_manager}
use Rattle.rules.specs.Sees.{sees_rw}
use Rattle.rules.specs.Ledger.{Snapshot, Ledger, new_ledger, named, with_begun}
use Rattle.rules.specs.Manager.{Manager}
use Rattle.laws.proofs.Laws.Manager.{epochs, manager-facts}
use Rattle.laws.proofs.Laws.Views.{writers_of_with, writers-length}
use Rattle.laws.proofs.Laws.Begin.{created-ok, begun-writers, begun_ok}
use Rattle.laws.proofs.Laws.Epochs.{known_more, has_open-range}
use Rattle.laws.proofs.Laws.Tracks.{alive, deps_in, WritersTrack, Tracks, marks_of-first, marks_of-rest}
use Rattle.laws.proofs.Laws.Tracks.{readers-alive}

-- ---- making new

pub tracks-create : (s : ℕ) → 1 ≤ s → s ≤ last_epoch → Tracks (created_manager s) (new_ledger s)
unfolding created_manager
tracks-create s low high = record {
  ok = created-ok s low (omega arith);
  writers = record {
    same = λ i. refl;
    older = λ i j o u h. no_proof o;
    marks = λ i o j. no_proof o;
    done_below = λ c d. no_proof d;
    done-shut = λ c d. no_proof d;
    done-known = λ c d. no_proof d;
    waits-done = λ t i n. absurd (Memᴰ.not-nil i);
    lce-done = inl refl;
    lce-base = omega arith;
  };
  readers = record { same = λ t. refl; marks = λ t o j. no_proof o };
}

-- ---- which epochs are alive

or_move : (a b c : Bool) → a || (b || c) ≡ (a || c) || b
or_move true b c = refl
or_move false true true = refl
or_move false true false = refl
or_move false false c = sym (or-false c)

pub alive-begin : (i : ℕ) (g : Ledger) (j : ℕ) → alive (with_begun i g) j ≡ alive g j || eqb j i
alive-begin i g j = rw (eqb_comm i j) (or_move (elem j g.committed) (eqb j i) (any_of (named j) g.writers))

alive-other : (i : ℕ) (g : Ledger) (j : ℕ) → (j ≡ i → ⊥) → alive g j ≡ alive (with_begun i g) j
alive-other i g j ne = rw (alive-begin i g j, ne_eqb j i ne) (sym (or-false (alive g j)))

-- ---- the transactions with the new one

pub elem-open_epochs : (j : ℕ) (ts : List Writer) → elem j (open_epochs ts) ≡ any_of (opens j) ts
elem-open_epochs j [] = refl
elem-open_epochs j (t ∷ ts) = let ih = elem-open_epochs j ts in split (is_open t)
    (λ o. rw (o, eqb_comm j t.epoch, ih))
    (λ n. rw (n, ih))

pub sees-low : (i : ℕ) (ds : List ℕ) (j : ℕ) → sees_rw i ds j ≡ true → j ≤ i
unfolding sees_rw
sees-low i ds j h = or_cases (eqb j i) (ltb j i && not (elem j ds)) h
    (λ e. let q = eqb-true j i e in omega arith)
    (λ n l. let q = ltb-true j i (and_left (ltb j i) (not (elem j ds)) l) in omega arith)

module _ (e : ℕ) (ts : List Writer) where
  abbrev more : List Writer
  more = ts ++ (begun_txn e ts ∷ [])

  opens-more : (j : ℕ) → any_of (opens j) more ≡ any_of (opens j) ts || eqb e j
  opens-more j = any_of-append (opens j) ts (begun_txn e ts ∷ [])
      ∙ ap (λ b. any_of (opens j) ts || b) (or-false (eqb e j))

  deps_old : (i : ℕ) → any_of (opens i) ts ≡ true → deps_in i more ≡ deps_in i ts
  deps_old i o = ap (λ (w : Writer). w.deps) (first_of_old (opens i) no_writer ts (begun_txn e ts ∷ []) o)

  deps-new : any_of (opens e) ts ≡ false → deps_in e more ≡ open_epochs ts
  deps-new n = ap (λ (w : Writer). w.deps) (first_of-new (opens e) no_writer ts (begun_txn e ts ∷ []) n
      ∙ ap (λ b. cond b (begun_txn e ts) no_writer) (eq-eqb e e refl))

module _ (m : Manager) (g : Ledger) (T : Tracks m g) where
  abbrev e : ℕ
  e = m.clock.ec

  abbrev ts : List Writer
  ts = writers_of m

  abbrev begun : Snapshot
  begun = record { name = m.clock.ec; marks = m.clock.ec ∷ keep_if (λ c. ltb c m.clock.ec) g.committed }

  abbrev after : Ledger
  after = with_begun m.clock.ec g

  e-shut : any_of (opens e) ts ≡ false
  e-shut = split (any_of (opens e) ts) (λ t. let w = has_open-range m T.ok e t in absurd (omega arith)) (λ f. f)

  -- an open transaction is an old one or the new one
  which : {P : Type 0} (i : ℕ) → any_of (opens i) (more e ts) ≡ true → (any_of (opens i) ts ≡ true → i < e → P)
      → (i ≡ e → P) → P
  which i o old new = or_cases (any_of (opens i) ts) (eqb e i) (sym (opens-more e ts i) ∙ o)
      (λ t. old t (has_open-range m T.ok i t).1)
      (λ n t. new (sym (eqb-true e i t)))

  -- ---- its snapshot: itself and what is committed, which is what is alive and not open

  new-marks : (j : ℕ) → elem j (e ∷ keep_if (λ c. ltb c e) g.committed) ≡ alive after j && sees_rw e (open_epochs ts) j
  unfolding sees_rw
  new-marks j =
      rw (alive-begin e g j, elem-keep_if j (λ c. ltb c e) g.committed, elem-open_epochs j ts, T.writers.same j)
      (split (eqb j e)
      (λ t. rw (t, or_right (elem j g.committed || any_of (opens j) ts) true refl))
      (λ f. rw (f, or-false (elem j g.committed || any_of (opens j) ts)) (split (elem j g.committed)
      (λ t. rw (t, lt-ltb j e (T.writers.done_below j t), T.writers.done-shut j t))
      (λ n. rw n (split (any_of (opens j) ts) (λ t. rw (t, and-false (ltb j e))) (λ k. rw k))))))

  begun_track : WritersTrack m.clock.lce (suc e) (more e ts) g.start g.committed after.writers
  begun_track = let R = T.writers in record {
    same = λ j. rw (opens-more e ts j, R.same j) (or_comm (eqb e j) (any_of (opens j) ts));
    older = λ i j o u h. which i o
        (λ a l. which j u
        (λ b k. rw (deps_old e ts i a) (R.older i j a b h))
        (λ q. absurd (omega arith)))
        (λ p. which j u
        (λ b k. rw (p, deps-new e ts e-shut, elem-open_epochs j ts) b)
        (λ q. absurd (omega arith)));
    marks = λ i o j. which i o
        (λ a l. rw (marks_of-rest i begun g.writers (λ q. omega arith), deps_old e ts i a) (R.marks i a j
        ∙ and_mask (alive g j) (alive after j) (sees_rw i (deps_in i ts) j)
        (λ s. let b = sees-low i (deps_in i ts) j s in alive-other e g j (λ q. omega arith))))
        (λ p. rw (p, marks_of-first e begun.marks g.writers, deps-new e ts e-shut) (new-marks j));
    done_below = λ c d. let b = R.done_below c d in omega arith;
    done-shut = λ c d. let b = R.done_below c d in
        rw (opens-more e ts c, R.done-shut c d) (ne_eqb e c (λ q. omega arith));
    done-known = λ c d. rw (map-append (λ (t : Writer). t.epoch) ts (begun_txn e ts ∷ []))
        (known_more m.clock.lce (epochs ts) (e ∷ []) c (R.done-known c d));
    waits-done = λ t i n. waits t n (Memᴰ.append_cases ts i);
    lce-done = R.lce-done;
    lce-base = R.lce-base;
  }
    where
      waits : (t : Writer) → is_open t ≡ false → In t ts ⊎ In t (begun_txn e ts ∷ [])
          → elem t.epoch g.committed ≡ true
      waits t n (inl i) = T.writers.waits-done t i n
      waits t n (inr i) = no_proof (sym n ∙ ap (λ (x : Writer). is_open x) (Memᴰ.eq_of_singleton i))

-- ---- begin

pub tracks-begin : {m : Manager} {g : Ledger} → Tracks m g → (m.clock.ec ≡ suc last_epoch → ⊥)
    → m.writers.count < writers_max → Tracks (begun_manager m) (with_begun m.clock.ec g)
unfolding begun_manager
tracks-begin {m} {g} T last room = let f = manager-facts m T.ok in let k = f.clock in record {
  ok = begun_ok m T.ok last room;
  writers = rw (writers_of_with (more m.clock.ec (writers_of m)) m
      (begun-writers m.clock (writers_of m) f.writers k (omega (arith, writers-length m))).fits)
      (begun_track m g T);
  readers = readers-alive m.clock.lce _ (alive g) (alive (with_begun m.clock.ec g)) g.readers
      f.readers.high (λ j l. alive-other m.clock.ec g j (λ q. omega arith)) T.readers;
}
