-- What manager_ok (rules/specs/WellFormed.antt) says, as facts by name, and the test from the facts.
-- In order: the facts, the status of one transaction, the test and the facts, lists read back as
-- written, where an open transaction's epoch lies.
-- Assumes nothing.
use mathlib.Core.Path.{◌≡◌, refl, sym, ◌∙◌}
use mathlib.Core.Bool.{Bool, true, false, ◌&&◌}
use mathlib.Core.List.Memᴰ
use mathlib.Core.List.{List, map, Memᴰ as In}
use Prim.Native.Nat.{ℕ, suc, ◌-◌, ◌≤◌, ◌<◌}
use native.Mathlib.Omega.{arith}
use lib.ListN.{length, drop, length-map}
use lib.Dec.{ltb, leb, eqb}
use borrow.Author.Tests.{ltb-true, leb-true, eqb-true, lt-ltb, le-leb, eq-eqb}
use Rattle.lists.specs.Lists.{any_of, all_of, rises}
use Rattle.lists.proofs.Laws.All.{All}
use Rattle.lists.proofs.Laws.Bools.{and_left, and_right, or_right, or_cases}
use Rattle.lists.proofs.Laws.Filter.{all_in, all-of, any_in, all_of-replicate}
use Rattle.lists.proofs.Laws.Order.{rises_in}
use Rattle.lists.proofs.Laws.Parts.{take-pad, drop-pad}
use Rattle.lists.proofs.Laws.Tests.{and-three, and-four, and_six, and_seven, no_proof}
use Rattle.rules.specs.Limits.{last_epoch, last_ticket, writers_max, readers_max}
use Rattle.rules.specs.Manager.{Writer, no_rw, no_ro, records_of, writers_of, readers_of, record_of, is_open, opens}
use Rattle.rules.specs.Manager.{with_clock, with_writers, with_readers}
use Rattle.rules.specs.WellFormed.{clock_ok, room_ok, deps_ok, status_ok, unused_rw, spares_zero, writers_ok, unused_ro}
use Rattle.rules.specs.WellFormed.{readers_ok, manager_ok}
use Rattle.rules.specs.declared.Clock.{Clock}
use Rattle.rules.specs.declared.RoTxn.{RoTxn}
use Rattle.rules.specs.Manager.{Manager}
use Rattle.laws.proofs.Laws.Views.{Fits, views-fit, writers_of_with, spares_with, rooms_with}

abbrev pub epochs : List Writer → List ℕ
epochs ts = map (λ t. t.epoch) ts

abbrev pub tickets : List RoTxn → List ℕ
tickets ps = map (λ p. p.ticket) ps

-- ---- the facts

pub record ClockFacts (c : Clock) : Type 0 where
  pub ec-low : 1 ≤ c.ec
  pub ec-high : c.ec ≤ suc last_epoch
  pub lce-low : c.lce < c.ec
  pub lse-low : c.lse ≤ c.lce

-- of the transactions ts in use
pub record WriterFacts (c : Clock) (ts : List Writer) : Type 0 where
  pub rising : rises c.lce c.ec (epochs ts) ≡ true
  pub status : (t : Writer) → In t ts → status_ok ts t ≡ true
  pub deps : (t : Writer) → In t ts → deps_ok c.lse t ≡ true
  pub fits : All Fits ts

-- of the read-only transactions ps in use, where next is the next ticket
pub record ReaderFacts (lse lce next : ℕ) (ps : List RoTxn) : Type 0 where
  pub next_low : 1 ≤ next
  pub next-high : next ≤ suc last_ticket
  pub rising : rises 0 next (tickets ps) ≡ true
  pub low : (p : RoTxn) → In p ps → lse ≤ p.epoch
  pub high : (p : RoTxn) → In p ps → p.epoch ≤ lce

pub record ManagerFacts (m : Manager) : Type 0 where
  pub clock : ClockFacts m.clock
  pub writers-room : m.writers.count ≤ writers_max
  pub writers : WriterFacts m.clock (writers_of m)
  pub writers_unused : all_of unused_rw (drop m.writers.count m.writers.at) ≡ true
  pub deps-room : all_of room_ok (records_of m) ≡ true
  pub deps_unused : spares_zero m.deps (records_of m) ≡ true
  pub readers-room : m.readers.count ≤ readers_max
  pub readers : ReaderFacts m.clock.lse m.clock.lce m.readers.next (readers_of m)
  pub readers_unused : all_of unused_ro (drop m.readers.count m.readers.at) ≡ true

-- ---- one transaction

-- an open transaction below epoch e
abbrev pub opens_below : ℕ → Writer → Bool
opens_below e u = is_open u && ltb u.epoch e

-- one that waits has no deps, and among ts an open one below it
pub record Waits (ts : List Writer) (t : Writer) : Type 0 where
  pub one : t.waiting ≡ 1
  pub behind : any_of (opens_below t.epoch) ts ≡ true
  pub idle : length t.deps ≡ 0

pub status-waits : (ts : List Writer) (t : Writer) → status_ok ts t ≡ true → is_open t ≡ false → Waits ts t
unfolding status_ok
status-waits ts t h f = or_cases (is_open t) _ h
    (λ k. no_proof (sym f ∙ k))
    (λ n k. let p = and-three (eqb t.waiting 1) (any_of (opens_below t.epoch) ts) (eqb (length t.deps) 0) k in
    record { one = eqb-true t.waiting 1 p.0; behind = p.1; idle = eqb-true (length t.deps) 0 p.2 })

pub status_open : (ts : List Writer) (t : Writer) → is_open t ≡ true → status_ok ts t ≡ true
unfolding status_ok
status_open ts t h = rw h

pub waits-status : (ts : List Writer) (t : Writer) → Waits ts t → status_ok ts t ≡ true
unfolding status_ok
waits-status ts t w = or_right (is_open t) _
    (rw (eq-eqb t.waiting 1 w.one, w.behind) (eq-eqb (length t.deps) 0 w.idle))

-- ---- the test and the facts

clock-facts : (c : Clock) → clock_ok c ≡ true → ClockFacts c
unfolding clock_ok
clock-facts c h =
    let p = and-four (leb 1 c.ec) (leb c.ec (suc last_epoch)) (ltb c.lce c.ec) _ h in record {
      ec-low = leb-true 1 c.ec p.0;
      ec-high = leb-true c.ec (suc last_epoch) p.1;
      lce-low = ltb-true c.lce c.ec p.2;
      lse-low = leb-true c.lse c.lce p.3;
    }

clock-ok : (c : Clock) → ClockFacts c → clock_ok c ≡ true
unfolding clock_ok
clock-ok c f =
    rw (le-leb 1 c.ec f.ec-low, le-leb c.ec (suc last_epoch) f.ec-high, lt-ltb c.lce c.ec f.lce-low)
    (le-leb c.lse c.lce f.lse-low)

-- the snapshot lies from LSE to LCE
abbrev in_clock : Clock → RoTxn → Bool
in_clock c p = leb c.lse p.epoch && leb p.epoch c.lce

pub manager-facts : (m : Manager) → manager_ok m ≡ true → ManagerFacts m
unfolding manager_ok writers_ok readers_ok
manager-facts m h =
    let ts = writers_of m in let ps = readers_of m in let c = m.clock in
    let all = and-three (clock_ok c) (writers_ok m) (readers_ok m) h in
    let w = and_seven (leb m.writers.count writers_max) (rises c.lce c.ec (epochs ts)) (all_of (status_ok ts) ts)
    (all_of room_ok (records_of m)) (all_of (deps_ok c.lse) ts)
    (all_of unused_rw (drop m.writers.count m.writers.at)) (spares_zero m.deps (records_of m)) all.1 in
    let n = m.readers.next in
    let r = and_six (leb m.readers.count readers_max) (leb 1 n) (leb n (suc last_ticket)) (rises 0 n (tickets ps))
    (all_of (in_clock c) ps) (all_of unused_ro (drop m.readers.count m.readers.at)) all.2 in
    let within : (p : RoTxn) → In p ps → in_clock c p ≡ true = λ p i. all_in (in_clock c) r.4 i in record {
      clock = clock-facts c all.0;
      writers-room = leb-true m.writers.count writers_max w.0;
      writers = record {
        rising = w.1;
        status = λ t i. all_in (status_ok ts) w.2 i;
        deps = λ t i. all_in (deps_ok c.lse) w.4 i;
        fits = views-fit m.deps (records_of m);
      };
      writers_unused = w.5;
      deps-room = w.3;
      deps_unused = w.6;
      readers-room = leb-true m.readers.count readers_max r.0;
      readers = record {
        next_low = leb-true 1 n r.1;
        next-high = leb-true n (suc last_ticket) r.2;
        rising = r.3;
        low = λ p i. leb-true c.lse p.epoch (and_left (leb c.lse p.epoch) _ (within p i));
        high = λ p i. leb-true p.epoch c.lce (and_right (leb c.lse p.epoch) _ (within p i));
      };
      readers_unused = r.5;
    }

pub manager-ok : (m : Manager) → ManagerFacts m → manager_ok m ≡ true
unfolding manager_ok writers_ok readers_ok
manager-ok m f = let w = f.writers in let r = f.readers in rw (
  clock-ok m.clock f.clock,
  le-leb m.writers.count writers_max f.writers-room,
  w.rising,
  all-of (status_ok (writers_of m)) (writers_of m) w.status,
  f.deps-room,
  all-of (deps_ok m.clock.lse) (writers_of m) w.deps,
  f.writers_unused,
  f.deps_unused,
  le-leb m.readers.count readers_max f.readers-room,
  le-leb 1 m.readers.next r.next_low,
  le-leb m.readers.next (suc last_ticket) r.next-high,
  r.rising,
  all-of (in_clock m.clock) (readers_of m)
      (λ p i. rw (le-leb m.clock.lse p.epoch (r.low p i)) (le-leb p.epoch m.clock.lce (r.high p i))),
)
    f.readers_unused

-- ---- lists read back as they were written

pub readers_of_with : (ps : List RoTxn) (n : ℕ) (m : Manager) → readers_of (with_readers ps n m) ≡ ps
readers_of_with ps n m = take-pad readers_max no_ro ps

pub writers-with : (m : Manager) (c : Clock) (ts : List Writer) → ManagerFacts m → ClockFacts c
    → length ts ≤ writers_max
    → WriterFacts c ts → ReaderFacts c.lse c.lce m.readers.next (readers_of m)
    → ManagerFacts (with_clock c (with_writers ts m))
writers-with m c ts f clock room writers readers = record {
  clock = clock;
  writers-room = room;
  writers = rw (writers_of_with ts m writers.fits) writers;
  writers_unused = rw (← length-map ts record_of, drop-pad writers_max no_rw (map record_of ts))
      (all_of-replicate unused_rw (writers_max - length (map record_of ts)) no_rw refl);
  deps-room = rooms_with ts m writers.fits;
  deps_unused = spares_with ts m writers.fits;
  readers-room = f.readers-room;
  readers = readers;
  readers_unused = f.readers_unused;
}

pub readers-with : (m : Manager) (ps : List RoTxn) (n : ℕ) → ManagerFacts m → length ps ≤ readers_max
    → ReaderFacts m.clock.lse m.clock.lce n ps → ManagerFacts (with_readers ps n m)
readers-with m ps n f room readers = record {
  clock = f.clock;
  writers-room = f.writers-room;
  writers = f.writers;
  writers_unused = f.writers_unused;
  deps-room = f.deps-room;
  deps_unused = f.deps_unused;
  readers-room = room;
  readers = rw (take-pad readers_max no_ro ps) readers;
  readers_unused = rw (drop-pad readers_max no_ro ps) (all_of-replicate unused_ro (readers_max - length ps) no_ro refl);
}

-- ---- an open transaction

pub opens_open : (i : ℕ) (t : Writer) → opens i t ≡ true → is_open t ≡ true
opens_open i t h = and_left (is_open t) (eqb t.epoch i) h

pub opens-epoch : (i : ℕ) (t : Writer) → opens i t ≡ true → t.epoch ≡ i
opens-epoch i t h = eqb-true t.epoch i (and_right (is_open t) (eqb t.epoch i) h)

pub epoch-range : (lo hi : ℕ) (ts : List Writer) → rises lo hi (epochs ts) ≡ true → (t : Writer) → In t ts
    → (lo < t.epoch) × (t.epoch < hi)
epoch-range lo hi ts h t i = rises_in lo hi (epochs ts) h (Memᴰ.map (λ (u : Writer). u.epoch) i)

pub open-range : (c : Clock) (ts : List Writer) → WriterFacts c ts → (i : ℕ) → any_of (opens i) ts ≡ true
    → (c.lce < i) × (i < c.ec)
open-range c ts f i h = let w = any_in (opens i) ts h in let e = opens-epoch i w.it w.passes in
    let r = epoch-range c.lce c.ec ts f.rising w.it w.at in (omega arith, omega arith)
