-- Making new and begin keep the manager sound. Definitions: rules/specs/Begin.antt.
-- In order: created-ok, the transaction that begins, begun_ok.
-- Assumes nothing.
use mathlib.Core.Path.{◌≡◌, refl}
use mathlib.Core.Bool.{true}
use mathlib.Core.Logic.{◌⊎◌, inl, inr}
use mathlib.Core.List.Memᴰ
use mathlib.Core.List.{List, [], ◌∷◌, ◌++◌, map-append, Memᴰ as In}
use Prim.Native.Nat.{ℕ, suc, ◌≤◌, ◌<◌}
use native.Mathlib.Omega.{arith}
use lib.ListN.{length, length-append, length-map}
use lib.Dec.{eqb}
use Rattle.lists.specs.Lists.{keep_if, any_of}
use Rattle.lists.proofs.Laws.All.{All-append}
use Rattle.lists.proofs.Laws.Bools.{split, or_left}
use Rattle.lists.proofs.Laws.Filter.{all_of-replicate, length-keep_if, any_of-append}
use Rattle.lists.proofs.Laws.Order.{rises-append, rises-keep_if, rises-lower}
use Rattle.rules.specs.Limits.{last_epoch, writers_max, readers_max, deps_max, deps_all}
use Rattle.rules.specs.Manager.{Writer, no_rw, no_ro, is_open, writers_of, with_ec, open_epochs}
use Rattle.rules.specs.Begin.{created_manager, begun_txn, begun_manager}
use Rattle.rules.specs.WellFormed.{deps_ok, status_ok, unused_rw, unused_ro, manager_ok}
use Rattle.rules.specs.declared.Clock.{Clock}
use Rattle.rules.specs.Manager.{Manager}
use Rattle.laws.proofs.Laws.Manager.{epochs, opens_below, ClockFacts, WriterFacts, status-waits}
use Rattle.laws.proofs.Laws.Manager.{status_open, waits-status, manager-facts, manager-ok, writers-with}
use Rattle.laws.proofs.Laws.Views.{Fits, writers-length}

-- ---- making new

pub created-ok : (s : ℕ) → 1 ≤ s → s ≤ suc last_epoch → manager_ok (created_manager s) ≡ true
unfolding created_manager
created-ok s low high = manager-ok (created_manager s) (record {
  clock = record { ec-low = low; ec-high = omega arith; lce-low = omega arith; lse-low = omega arith };
  writers-room = omega arith;
  writers = record {
    rising = refl;
    status = λ t i. absurd (Memᴰ.not-nil i);
    deps = λ t i. absurd (Memᴰ.not-nil i);
    fits = tt;
  };
  writers_unused = all_of-replicate unused_rw writers_max no_rw refl;
  deps-room = refl;
  deps_unused = all_of-replicate (eqb 0) deps_all 0 refl;
  readers-room = omega arith;
  readers = record {
    next_low = omega arith;
    next-high = omega arith;
    rising = refl;
    low = λ p i. absurd (Memᴰ.not-nil i);
    high = λ p i. absurd (Memᴰ.not-nil i);
  };
  readers_unused = all_of-replicate unused_ro readers_max no_ro refl;
})

-- ---- the transaction that begins

module _ (c : Clock) (ts : List Writer) (f : WriterFacts c ts) (clock : ClockFacts c) where
  begun-fits : length ts ≤ deps_max → Fits (begun_txn c.ec ts)
  begun-fits h = let a = length-map (keep_if is_open ts) (λ (t : Writer). t.epoch) in
      let b = length-keep_if is_open ts in omega arith

  begun-deps : deps_ok c.lse (begun_txn c.ec ts) ≡ true
  unfolding deps_ok
  begun-deps = rises-lower c.lce c.lse c.ec (open_epochs ts) clock.lse-low
      (rises-keep_if (λ (t : Writer). t.epoch) is_open c.lce c.ec ts f.rising)

  -- those that wait still have an open one below them
  status_old : (new t : Writer) → In t ts → status_ok (ts ++ (new ∷ [])) t ≡ true
  status_old new t i = let all = ts ++ (new ∷ []) in split (is_open t)
      (λ o. status_open all t o)
      (λ n. let w = status-waits ts t (f.status t i) n in waits-status all t (record {
        one = w.one;
        idle = w.idle;
        behind = rw (any_of-append (opens_below t.epoch) ts (new ∷ []))
            (or_left (any_of (opens_below t.epoch) ts) _ w.behind);
      }))

  pub begun-writers : length ts ≤ deps_max → WriterFacts (with_ec (suc c.ec) c) (ts ++ (begun_txn c.ec ts ∷ []))
  begun-writers h = let new = begun_txn c.ec ts in record {
    rising = rw (map-append (λ (t : Writer). t.epoch) ts (new ∷ []))
        (rises-append c.lce c.ec (epochs ts) clock.lce-low f.rising);
    status = λ t i. status t (Memᴰ.append_cases ts i);
    deps = λ t i. deps t (Memᴰ.append_cases ts i);
    fits = All-append Fits ts (new ∷ []) f.fits (begun-fits h, tt);
  }
    where
      status : (t : Writer) → In t ts ⊎ In t (begun_txn c.ec ts ∷ [])
          → status_ok (ts ++ (begun_txn c.ec ts ∷ [])) t ≡ true
      status t (inl i) = status_old (begun_txn c.ec ts) t i
      status t (inr i) = status_open (ts ++ (begun_txn c.ec ts ∷ [])) t (rw (Memᴰ.eq_of_singleton i))

      deps : (t : Writer) → In t ts ⊎ In t (begun_txn c.ec ts ∷ []) → deps_ok c.lse t ≡ true
      deps t (inl i) = f.deps t i
      deps t (inr i) = rw (Memᴰ.eq_of_singleton i) begun-deps

-- ---- begin

pub begun_ok : (m : Manager) → manager_ok m ≡ true → (m.clock.ec ≡ suc last_epoch → ⊥) → m.writers.count < writers_max
    → manager_ok (begun_manager m) ≡ true
unfolding begun_manager
begun_ok m ok more room =
    let f = manager-facts m ok in let c = m.clock in let ts = writers_of m in let k = f.clock in
    let len = writers-length m in
    manager-ok (begun_manager m) (writers-with m (with_ec (suc c.ec) c) (ts ++ (begun_txn c.ec ts ∷ [])) f
    (record { ec-low = omega arith; ec-high = omega arith; lce-low = omega arith; lse-low = k.lse-low })
    (rw (length-append ts (begun_txn c.ec ts ∷ [])) (omega arith))
    (begun-writers c ts f.writers k (omega arith))
    f.readers)
