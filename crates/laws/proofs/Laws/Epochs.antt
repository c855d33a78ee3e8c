-- Which epochs rows may have (epoch_ok, rules/specs/WellFormed.antt), and how that moves with each call on the
-- manager.
-- In order: the facts, an open transaction, purge, begin, commit and roll back, read-only transactions and
-- LSE.
-- Assumes nothing.
use mathlib.Core.Path.{◌≡◌, refl, sym, ◌∙◌}
use mathlib.Core.Bool.{Bool, true, not, ◌||◌}
use mathlib.Core.List.Memᴰ
use mathlib.Core.List.{List, [], ◌∷◌, ◌++◌, map-append}
use Prim.Native.Nat.{ℕ, ◌≤◌, ◌<◌, max}
use native.Mathlib.Omega.{arith}
use lib.Dec.{ltb, leb}
use borrow.Author.Tests.{ltb-true, ltb-false, leb-true, leb-false, lt-ltb, le-leb, ne_eqb}
use Rattle.lists.specs.Lists.{keep_if, any_of, elem}
use Rattle.lists.proofs.Laws.Bools.{split, and-false, or_left, or_right, or_cases}
use Rattle.lists.proofs.Laws.Filter.{any_in, in-keep_if, in-elem, elem_in}
use Rattle.lists.proofs.Laws.Tests.{and-three}
use Rattle.rules.specs.Manager.{Writer, is_open, opens, has_open, writers_of}
use Rattle.rules.specs.Begin.{begun_txn, begun_manager}
use Rattle.rules.specs.Close.{committed_txns, dropped_txns, settled_lce, settled, committed_manager}
use Rattle.rules.specs.Close.{rolled_back_manager}
use Rattle.rules.specs.ReadOnly.{begun_ro_manager, ended_ro_manager}
use Rattle.rules.specs.Safe.{advanced_manager}
use Rattle.rules.specs.WellFormed.{epoch_ok, manager_ok}
use Rattle.rules.specs.Manager.{Manager}
use Rattle.laws.proofs.Laws.Manager.{epochs, manager-facts, opens-epoch, open-range}
use Rattle.laws.proofs.Laws.Views.{epochs-with}
use Rattle.laws.proofs.Laws.Close.{kept, settled-rises, epochs-committed}

-- up to LCE, or the epoch of a transaction
abbrev pub known : ℕ → List Writer → ℕ → Bool
known lce ts j = leb j lce || elem j (epochs ts)

pub record EpochFacts (m : Manager) (j : ℕ) : Type 0 where
  pub low : 1 ≤ j
  pub high : j < m.clock.ec
  pub has : known m.clock.lce (writers_of m) j ≡ true

pub epoch-facts : (m : Manager) (j : ℕ) → epoch_ok m j ≡ true → EpochFacts m j
unfolding epoch_ok
epoch-facts m j h = let p = and-three (leb 1 j) (ltb j m.clock.ec) (known m.clock.lce (writers_of m) j) h in
    record { low = leb-true 1 j p.0; high = ltb-true j m.clock.ec p.1; has = p.2 }

pub epoch-ok : (m : Manager) (j : ℕ) → EpochFacts m j → epoch_ok m j ≡ true
unfolding epoch_ok
epoch-ok m j f = rw (le-leb 1 j f.low, lt-ltb j m.clock.ec f.high) f.has

-- ---- an open transaction

-- above LCE and below EC
pub has_open-range : (m : Manager) → manager_ok m ≡ true → (i : ℕ) → has_open i m ≡ true
    → (m.clock.lce < i) × (i < m.clock.ec)
has_open-range m ok i h = open-range m.clock (writers_of m) (manager-facts m ok).writers i h

pub opens-known : (i : ℕ) (ts : List Writer) → any_of (opens i) ts ≡ true → elem i (epochs ts) ≡ true
opens-known i ts h = let w = any_in (opens i) ts h in
    in-elem (Memᴰ.cast (sym (opens-epoch i w.it w.passes)) (Memᴰ.map (λ (t : Writer). t.epoch) w.at))

pub has_open-epoch_ok : (m : Manager) → manager_ok m ≡ true → (i : ℕ) → has_open i m ≡ true → epoch_ok m i ≡ true
has_open-epoch_ok m ok i h = let r = has_open-range m ok i h in epoch-ok m i (record {
  low = omega arith;
  high = r.1;
  has = or_right (leb i m.clock.lce) _ (opens-known i (writers_of m) h);
})

-- ---- purge: rows of an epoch below LSE get epoch LSE

pub purged-epoch_ok : (m : Manager) → manager_ok m ≡ true → (j : ℕ) → epoch_ok m j ≡ true
    → epoch_ok m (max j m.clock.lse) ≡ true
purged-epoch_ok m ok j h = let f = epoch-facts m j h in let k = (manager-facts m ok).clock in let lse = m.clock.lse in
    epoch-ok m (max j lse) (record {
      low = (let l = f.low in omega arith);
      high = (let l = f.high in omega arith);
      has = split (ltb lse j)
          (λ t. let g = ltb-true lse j t in let q : max j lse ≡ j = omega arith in rw q f.has)
          (λ n. let g = ltb-false lse j n in
          or_left (leb (max j lse) m.clock.lce) _ (le-leb (max j lse) m.clock.lce (omega arith)));
    })

-- ---- begin

pub known_more : (lce : ℕ) (es fs : List ℕ) (j : ℕ) → leb j lce || elem j es ≡ true
    → leb j lce || elem j (es ++ fs) ≡ true
known_more lce es fs j h = or_cases (leb j lce) (elem j es) h
    (λ t. or_left (leb j lce) _ t)
    (λ n t. or_right (leb j lce) _ (in-elem (Memᴰ.append_left fs (elem_in j es t))))

pub begun-epoch_ok : (m : Manager) (j : ℕ) → epoch_ok m j ≡ true → epoch_ok (begun_manager m) j ≡ true
unfolding begun_manager
begun-epoch_ok m j h = let f = epoch-facts m j h in let ts = writers_of m in let new = begun_txn m.clock.ec ts in
    epoch-ok (begun_manager m) j (record {
      low = f.low;
      high = (let l = f.high in omega arith);
      has = rw (epochs-with (ts ++ (new ∷ [])) m, map-append (λ (t : Writer). t.epoch) ts (new ∷ []))
          (known_more m.clock.lce (epochs ts) (m.clock.ec ∷ []) j f.has);
    })

-- ---- commit and roll back

-- what is dropped as LCE settles is at or below it
pub settled-known : (lce : ℕ) (ts : List Writer) (j : ℕ) → known lce ts j ≡ true
    → known (settled_lce lce ts) (keep_if (kept (settled_lce lce ts)) ts) j ≡ true
settled-known lce ts j h = let to = settled_lce lce ts in let up = settled-rises lce ts in split (leb j to)
    (λ t. or_left (leb j to) _ t)
    (λ n. let g = leb-false j to n in or_cases (leb j lce) (elem j (epochs ts)) h
    (λ t. let l = leb-true j lce t in absurd (omega arith))
    (λ c t. let w = Memᴰ.of_map (λ (u : Writer). u.epoch) ts (elem_in j (epochs ts) t) in let e = w.2 in
    let k = in-keep_if (kept to) w.1 (or_right (is_open w.0) _ (lt-ltb to w.0.epoch (omega arith))) in
    or_right (leb j to) _ (in-elem (Memᴰ.cast (sym e) (Memᴰ.map (λ (u : Writer). u.epoch) k)))))

pub settled-epoch_ok : (m : Manager) (ts : List Writer) (j : ℕ) → epoch_ok m j ≡ true → known m.clock.lce ts j ≡ true
    → epoch_ok (settled ts m) j ≡ true
unfolding settled
settled-epoch_ok m ts j h k = let f = epoch-facts m j h in let to = settled_lce m.clock.lce ts in
    epoch-ok (settled ts m) j (record {
      low = f.low;
      high = f.high;
      has = rw (epochs-with (keep_if (kept to) ts) m) (settled-known m.clock.lce ts j k);
    })

pub committed-epoch_ok : (i : ℕ) (m : Manager) (j : ℕ) → epoch_ok m j ≡ true → epoch_ok (committed_manager i m) j ≡ true
unfolding committed_manager
committed-epoch_ok i m j h = settled-epoch_ok m (committed_txns i (writers_of m)) j h
    (rw (epochs-committed i (writers_of m)) (epoch-facts m j h).has)

-- only transaction i is dropped
pub dropped-known : (i lce : ℕ) (ts : List Writer) (j : ℕ) → (j ≡ i → ⊥) → known lce ts j ≡ true
    → known lce (dropped_txns i ts) j ≡ true
unfolding dropped_txns
dropped-known i lce ts j ne h = or_cases (leb j lce) (elem j (epochs ts)) h
    (λ t. or_left (leb j lce) _ t)
    (λ n t. let w = Memᴰ.of_map (λ (u : Writer). u.epoch) ts (elem_in j (epochs ts) t) in let e = w.2 in
    let k = in-keep_if (λ (u : Writer). not (opens i u)) w.1
    (rw (ne_eqb w.0.epoch i (λ q. ne (sym e ∙ q)), and-false (is_open w.0))) in
    or_right (leb j lce) _ (in-elem (Memᴰ.cast (sym e) (Memᴰ.map (λ (u : Writer). u.epoch) k))))

pub rolled_back-epoch_ok : (i : ℕ) (m : Manager) (j : ℕ) → (j ≡ i → ⊥) → epoch_ok m j ≡ true
    → epoch_ok (rolled_back_manager i m) j ≡ true
unfolding rolled_back_manager
rolled_back-epoch_ok i m j ne h = settled-epoch_ok m (dropped_txns i (writers_of m)) j h
    (dropped-known i m.clock.lce (writers_of m) j ne (epoch-facts m j h).has)

-- ---- read-only transactions and LSE: EC, LCE and the transactions stay

pub begun_ro-epoch_ok : (e : ℕ) (m : Manager) (j : ℕ) → epoch_ok (begun_ro_manager e m) j ≡ epoch_ok m j
unfolding begun_ro_manager epoch_ok
begun_ro-epoch_ok e m j = refl

pub ended_ro-epoch_ok : (t : ℕ) (m : Manager) (j : ℕ) → epoch_ok (ended_ro_manager t m) j ≡ epoch_ok m j
unfolding ended_ro_manager epoch_ok
ended_ro-epoch_ok t m j = refl

pub advanced-epoch_ok : (t : ℕ) (m : Manager) (j : ℕ) → epoch_ok (advanced_manager t m) j ≡ epoch_ok m j
unfolding advanced_manager epoch_ok
advanced-epoch_ok t m j = refl
