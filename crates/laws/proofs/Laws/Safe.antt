-- LSE: what blocks it, the greatest target, and that a move keeps the manager sound. Definitions:
-- rules/specs/Safe.antt.
-- In order: Free, the greatest target, the value 0, advanced-ok, what lies up to LSE.
-- Assumes nothing.
use mathlib.Core.Path.{◌≡◌, refl}
use mathlib.Core.Bool.{Bool, true, false, ◌&&◌, cond}
use mathlib.Core.Logic.{◌⊎◌, inl, inr}
use mathlib.Core.List.Memᴰ
use mathlib.Core.List.{List, [], ◌∷◌, ◌++◌, map, Memᴰ as In}
use Prim.Native.Nat.{ℕ, ◌-◌, ◌≤◌, ◌<◌}
use native.Mathlib.Omega.{arith}
use lib.Dec.{ltb, leb}
use lib.ListN.{length}
use borrow.Author.Tests.{ltb-false, leb-false, le-ltb, le-leb, lt-leb}
use Rattle.lists.specs.Lists.{gather, any_of, first_of, elem, rises}
use Rattle.lists.proofs.Laws.Bools.{split, or-false-left, or-false_right}
use Rattle.lists.proofs.Laws.Filter.{none_in, none_of, first_in, elem_in}
use Rattle.lists.proofs.Laws.Order.{rises_in, rises-from, foldr-min-base, foldr-min_in, foldr-min-above}
use Rattle.lists.proofs.Laws.Order.{in-gather, gather_in}
use Rattle.rules.specs.Manager.{Writer, no_writer, no_ro, is_open, opens, has_open, deps_at, has_ticket, epoch_at}
use Rattle.rules.specs.Manager.{writers_of}
use Rattle.rules.specs.Manager.{readers_of, with_clock, with_lse}
use Rattle.rules.specs.Safe.{blocked, greatest_target, target_of, advanced_manager}
use Rattle.rules.specs.WellFormed.{deps_ok, manager_ok}
use Rattle.rules.specs.Calls.{is_reader, sees_of, applies_of}
use Rattle.rules.specs.declared.RoTxn.{RoTxn}
use Rattle.rules.specs.Manager.{Manager}
use Rattle.rules.specs.declared.Reader.{Reader}
use Rattle.rules.specs.declared.Reader.TheVariants.{Rw, Ro}
use Rattle.laws.proofs.Laws.Manager.{ManagerFacts, status-waits, manager-facts, manager-ok, opens_open}
use Rattle.laws.proofs.Laws.Manager.{open-range}
use Rattle.laws.proofs.Laws.Sees.{sees-earlier, applies-all}

-- ---- what does not block n

pub record Free (n : ℕ) (m : Manager) : Type 0 where
  pub readers : (p : RoTxn) → In p (readers_of m) → n ≤ p.epoch
  pub deps : (t : Writer) → In t (writers_of m) → is_open t ≡ true → (d : ℕ) → In d t.deps → n < d

-- a snapshot below n, a dep at or below n
abbrev below : ℕ → RoTxn → Bool
below n p = ltb p.epoch n

abbrev blocks : ℕ → Writer → Bool
blocks n x = is_open x && any_of (λ d. leb d n) x.deps

pub free-of-blocked : (n : ℕ) (m : Manager) → blocked n m ≡ false → Free n m
unfolding blocked
free-of-blocked n m h =
    let readers = any_of (below n) (readers_of m) in let writers = any_of (blocks n) (writers_of m) in record {
      readers = λ p i. ltb-false p.epoch n (none_in (below n) (or-false-left readers writers h) i);
      deps = λ t i o d k. leb-false d n
          (none_in (λ (e : ℕ). leb e n) (rw o at (none_in (blocks n) (or-false_right readers writers h) i)) k);
    }

pub blocked-of-free : (n : ℕ) (m : Manager) → Free n m → blocked n m ≡ false
unfolding blocked
blocked-of-free n m f =
    rw (none_of (below n) (readers_of m) (λ p i. le-ltb p.epoch n (f.readers p i)))
    (none_of (blocks n) (writers_of m) (λ t i. split (is_open t)
    (λ o. rw o (none_of (λ (d : ℕ). leb d n) t.deps (λ d k. lt-leb d n (f.deps t i o d k))))
    (λ c. rw c)))

-- ---- the greatest target

-- just below each dep of an open transaction
abbrev below_deps : Writer → List ℕ
below_deps x = cond (is_open x) (map (λ d. d - 1) x.deps) []

-- what bounds the target
abbrev bounds : Manager → List ℕ
bounds m = map (λ p. p.epoch) (readers_of m) ++ gather below_deps (writers_of m)

bounds-above : (n : ℕ) (m : Manager) → Free n m → (x : ℕ) → In x (bounds m) → n ≤ x
bounds-above n m f x i = go (Memᴰ.append_cases (map (λ (p : RoTxn). p.epoch) (readers_of m)) i)
  where
    dep : (t : Writer) → In t (writers_of m) → In x (below_deps t) → n ≤ x
    dep t k j = split (is_open t)
        (λ o. let w = Memᴰ.of_map (λ (d : ℕ). d - 1) t.deps (rw o at j) in
        let a = f.deps t k o w.0 w.1 in let e = w.2 in omega arith)
        (λ c. absurd (Memᴰ.not-nil (rw c at j)))

    go : In x (map (λ (p : RoTxn). p.epoch) (readers_of m)) ⊎ In x (gather below_deps (writers_of m)) → n ≤ x
    go (inl k) = let w = Memᴰ.of_map (λ (p : RoTxn). p.epoch) (readers_of m) k in
        let a = f.readers w.0 w.1 in let e = w.2 in omega arith
    go (inr k) = let w = gather_in below_deps (writers_of m) k in dep w.0 w.1 w.2

-- an unblocked target up to LCE is at most the greatest
pub greatest-above : (n : ℕ) (m : Manager) → n ≤ m.clock.lce → Free n m → n ≤ greatest_target m
unfolding greatest_target
greatest-above n m h f = foldr-min-above m.clock.lce n (bounds m) h (bounds-above n m f)

module _ (m : Manager) (f : ManagerFacts m) where
  -- every dep is above LSE
  pub lse-free : Free m.clock.lse m
  unfolding deps_ok
  lse-free = record {
    readers = f.readers.low;
    deps = λ t i o d k. (rises_in m.clock.lse t.epoch t.deps (f.writers.deps t i) k).0;
  }

  pub greatest-low : m.clock.lse ≤ greatest_target m
  greatest-low = greatest-above m.clock.lse m f.clock.lse-low lse-free

  pub greatest-high : greatest_target m ≤ m.clock.lce
  unfolding greatest_target
  greatest-high = foldr-min-base m.clock.lce (bounds m)

  pub greatest-free : Free (greatest_target m) m
  unfolding greatest_target
  greatest-free = record {
    readers = λ p i. foldr-min_in m.clock.lce
        (Memᴰ.append_left (gather below_deps (writers_of m)) (Memᴰ.map (λ (q : RoTxn). q.epoch) i));
    deps = λ t i o d k. let low = lse-free.deps t i o d k in
        let j : In (d - 1) (below_deps t) = rw o (Memᴰ.map (λ (e : ℕ). e - 1) k) in
        let b = foldr-min_in m.clock.lce
        (Memᴰ.append_right (map (λ (q : RoTxn). q.epoch) (readers_of m)) (in-gather below_deps i j)) in omega arith;
  }

-- 01: the value 0 means the greatest target that is not held
pub record Greatest (n : ℕ) (m : Manager) : Type 0 where
  pub low : m.clock.lse ≤ n
  pub high : n ≤ m.clock.lce
  pub free : blocked n m ≡ false
  pub greatest : (t : ℕ) → t ≤ m.clock.lce → blocked t m ≡ false → t ≤ n

pub target-greatest : (m : Manager) → manager_ok m ≡ true → Greatest (greatest_target m) m
target-greatest m ok = let f = manager-facts m ok in record {
  low = greatest-low m f;
  high = greatest-high m f;
  free = blocked-of-free (greatest_target m) m (greatest-free m f);
  greatest = λ t h b. greatest-above t m h (free-of-blocked t m b);
}

-- so it is never refused
pub target-zero : (m : Manager) → manager_ok m ≡ true → Greatest (target_of 0 m) m
unfolding target_of
target-zero m ok = target-greatest m ok

-- ---- the move

pub advanced-facts : (n : ℕ) (m : Manager) → ManagerFacts m → n ≤ m.clock.lce → Free n m
    → ManagerFacts (with_clock (with_lse n m.clock) m)
unfolding deps_ok
advanced-facts n m f high free = let k = f.clock in let r = f.readers in let w = f.writers in record {
  clock = record { ec-low = k.ec-low; ec-high = k.ec-high; lce-low = k.lce-low; lse-low = high };
  writers-room = f.writers-room;
  writers_unused = f.writers_unused;
  deps-room = f.deps-room;
  deps_unused = f.deps_unused;
  writers = record { rising = w.rising; status = w.status; deps = deps; fits = w.fits };
  readers-room = f.readers-room;
  readers_unused = f.readers_unused;
  readers = record {
    next_low = r.next_low;
    next-high = r.next-high;
    rising = r.rising;
    low = free.readers;
    high = r.high;
  };
}
  where
    none : (e : ℕ) (ds : List ℕ) → length ds ≡ 0 → rises n e ds ≡ true
    none e [] h = refl
    none e (d ∷ ds) h = absurd (omega arith)

    deps : (t : Writer) → In t (writers_of m) → deps_ok n t ≡ true
    deps t i = split (is_open t)
        (λ o. rises-from m.clock.lse n t.epoch t.deps (λ d k. free.deps t i o d k) (f.writers.deps t i))
        (λ c. none t.epoch t.deps (status-waits (writers_of m) t (f.writers.status t i) c).idle)

pub advanced-ok : (t : ℕ) (m : Manager) → manager_ok m ≡ true → target_of t m ≤ m.clock.lce
    → blocked (target_of t m) m ≡ false → manager_ok (advanced_manager t m) ≡ true
unfolding advanced_manager
advanced-ok t m ok high b = let n = target_of t m in
    manager-ok (advanced_manager t m) (advanced-facts n m (manager-facts m ok) high (free-of-blocked n m b))

-- ---- what lies up to LSE: in nobody's deps, and at or below each snapshot, so every reader sees and applies
-- it

module _ (m : Manager) (ok : manager_ok m ≡ true) where
  low-dep : (i : ℕ) → has_open i m ≡ true → (j : ℕ) → j ≤ m.clock.lse → elem j (deps_at i m) ≡ false
  low-dep i o j h = split (elem j (deps_at i m))
      (λ t. let x = first_of (opens i) no_writer (writers_of m) in
      let w = first_in (opens i) no_writer (writers_of m) o in
      let b = (lse-free m (manager-facts m ok)).deps x w.0 (opens_open i x w.1) j (elem_in j (deps_at i m) t) in
      absurd (omega arith))
      (λ f. f)

  low-before : (i : ℕ) → has_open i m ≡ true → (j : ℕ) → j ≤ m.clock.lse → j < i
  low-before i o j h = let f = manager-facts m ok in let k = f.clock in
      let r = open-range m.clock (writers_of m) f.writers i o in omega arith

  pub low-sees : (r : Reader) → is_reader r m ≡ true → (j : ℕ) → j ≤ m.clock.lse → sees_of r m j ≡ true
  unfolding sees_of
  low-sees (Rw i) o j h = sees-earlier i (deps_at i m) j (low-before i o j h) (low-dep i o j h)
  low-sees (Ro t) o j h = let w = first_in (has_ticket t) no_ro (readers_of m) o in
      let b = (manager-facts m ok).readers.low (first_of (has_ticket t) no_ro (readers_of m)) w.0 in
      le-leb j (epoch_at t m) (omega arith)

  pub low_applies : (r : Reader) → is_reader r m ≡ true → (j : ℕ) → j ≤ m.clock.lse → applies_of r m j ≡ true
  low_applies r o j h = rw (applies-all r m) (low-sees r o j h)
