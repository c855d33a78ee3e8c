-- Commit and roll back keep the manager sound, and where LCE comes to lie. Definitions: rules/specs/Close.antt.
-- In order: Unsettled, LCE once settled, the transactions kept, settled-ok, commit, roll back.
-- Assumes nothing.
use mathlib.Core.Path.{◌≡◌, refl, sym, ap, ◌∙◌}
use mathlib.Core.Bool.{Bool, true, false, not, ◌&&◌, ◌||◌, cond}
use mathlib.Core.Logic.{◌⊎◌, inl, inr}
use mathlib.Core.List.Memᴰ
use mathlib.Core.List.{List, [], ◌∷◌, Memᴰ as In}
use Prim.Native.Nat.{ℕ, ◌≤◌, ◌<◌}
use native.Mathlib.Omega.{arith}
use lib.ListN.{length, length-map}
use lib.Dec.{ltb, leb}
use borrow.Author.Tests.{ltb-true, leb-true, leb-false, lt-ltb, not-true, not-false}
use Rattle.lists.specs.Lists.{keep_if, rises}
use Rattle.lists.proofs.Laws.All.{All, All-keep_if_imp}
use Rattle.lists.proofs.Laws.Bools.{split, and_left, and_right, or_cases, or-false-left, or-false_right}
use Rattle.lists.proofs.Laws.Filter.{all_in, any-of, missed_in, in-keep_if, keep_if_in, length-keep_if}
use Rattle.lists.proofs.Laws.Order.{rises-from, rises-keep_if, rises-same, foldr-max-base, foldr-max_in}
use Rattle.lists.proofs.Laws.Order.{foldr-max-is}
use Rattle.lists.proofs.Laws.Tests.{no_proof}
use Rattle.rules.specs.Limits.{writers_max}
use Rattle.rules.specs.Manager.{Writer, is_open, opens, writers_of, with_lce}
use Rattle.rules.specs.Close.{waiting_txn, committed_txns, dropped_txns, unblocked, settled_lce, settled}
use Rattle.rules.specs.Close.{committed_manager, rolled_back_manager}
use Rattle.rules.specs.WellFormed.{deps_ok, manager_ok}
use Rattle.rules.specs.declared.Clock.{Clock}
use Rattle.rules.specs.Manager.{Manager}
use Rattle.laws.proofs.Laws.Manager.{epochs, opens_below, WriterFacts, ManagerFacts, Waits}
use Rattle.laws.proofs.Laws.Manager.{status-waits}
use Rattle.laws.proofs.Laws.Manager.{status_open, waits-status, manager-facts, manager-ok}
use Rattle.laws.proofs.Laws.Manager.{writers-with, opens-epoch, epoch-range}
use Rattle.laws.proofs.Laws.Views.{Fits, writers-length}

-- transactions before LCE is settled: one that waits need have no open one below it
pub record Unsettled (c : Clock) (ts : List Writer) : Type 0 where
  pub rising : rises c.lce c.ec (epochs ts) ≡ true
  pub idle : (t : Writer) → In t ts → is_open t ≡ false → (t.waiting ≡ 1) × (length t.deps ≡ 0)
  pub deps : (t : Writer) → In t ts → deps_ok c.lse t ≡ true
  pub fits : All Fits ts

-- ---- LCE once settled

-- committed, and no open one below it
abbrev pub reached : List Writer → Writer → Bool
reached ts t = not (is_open t) && unblocked ts t.epoch

-- not an open one below e
abbrev pub behind : ℕ → Writer → Bool
behind e u = not (is_open u) || leb e u.epoch

pub settled-rises : (lce : ℕ) (ts : List Writer) → lce ≤ settled_lce lce ts
unfolding settled_lce
settled-rises lce ts = foldr-max-base lce (epochs (keep_if (reached ts) ts))

pub settled-reaches : (lce : ℕ) (ts : List Writer) (t : Writer) → In t ts → reached ts t ≡ true
    → t.epoch ≤ settled_lce lce ts
unfolding settled_lce
settled-reaches lce ts t i h = foldr-max_in lce (Memᴰ.map (λ (u : Writer). u.epoch) (in-keep_if (reached ts) i h))

-- where LCE moved, it is the epoch of one that it reached
pub record Moved (lce : ℕ) (ts : List Writer) : Type 0 where
  pub it : Writer
  pub at : In it ts
  pub reaches : reached ts it ≡ true
  pub epoch : it.epoch ≡ settled_lce lce ts

pub settled_is : (lce : ℕ) (ts : List Writer) → (settled_lce lce ts ≡ lce) ⊎ Moved lce ts
unfolding settled_lce
settled_is lce ts = go (foldr-max-is lce (epochs (keep_if (reached ts) ts)))
  where
    go : (settled_lce lce ts ≡ lce) ⊎ In (settled_lce lce ts) (epochs (keep_if (reached ts) ts))
        → (settled_lce lce ts ≡ lce) ⊎ Moved lce ts
    go (inl e) = inl e
    go (inr i) = let w = Memᴰ.of_map (λ (t : Writer). t.epoch) (keep_if (reached ts) ts) i in
        let k = keep_if_in (reached ts) ts w.1 in inr (record { it = w.0; at = k.0; reaches = k.1; epoch = w.2 })

module _ (c : Clock) (ts : List Writer) (u : Unsettled c ts) where
  range : (t : Writer) → In t ts → (c.lce < t.epoch) × (t.epoch < c.ec)
  range t i = epoch-range c.lce c.ec ts u.rising t i

  pub settled-below : c.lce < c.ec → settled_lce c.lce ts < c.ec
  settled-below h = go (settled_is c.lce ts)
    where
      go : (settled_lce c.lce ts ≡ c.lce) ⊎ Moved c.lce ts → settled_lce c.lce ts < c.ec
      go (inl e) = omega arith
      go (inr w) = let r = range w.it w.at in let e = w.epoch in omega arith

  -- open ones stay above it
  pub settled-opens : (t : Writer) → In t ts → is_open t ≡ true → settled_lce c.lce ts < t.epoch
  settled-opens t i o = go (settled_is c.lce ts)
    where
      below : (w : Moved c.lce ts) → w.it.epoch ≤ t.epoch
      below w = let h = and_right (not (is_open w.it)) _ w.reaches in
          leb-true w.it.epoch t.epoch (rw o at (all_in (behind w.it.epoch) h i))

      other : (w : Moved c.lce ts) → w.it.epoch ≡ t.epoch → ⊥
      other w e = let s = rises-same (λ (x : Writer). x.epoch) c.lce c.ec ts u.rising w.at i e in
          let n = not-true (is_open w.it) (and_left (not (is_open w.it)) _ w.reaches) in
          no_proof (sym n ∙ (ap (λ (x : Writer). is_open x) s ∙ o))

      go : (settled_lce c.lce ts ≡ c.lce) ⊎ Moved c.lce ts → settled_lce c.lce ts < t.epoch
      go (inl e) = let r = range t i in omega arith
      go (inr w) = let a = below w in let b = other w in let e = w.epoch in omega arith

-- ---- the transactions kept

pub kept-fit : (p : Writer → Bool) (ts : List Writer) → All Fits ts → All Fits (keep_if p ts)
kept-fit p ts h = All-keep_if_imp Fits Fits p (λ t k a. a) ts h

abbrev pub kept : ℕ → Writer → Bool
kept lce t = is_open t || ltb lce t.epoch

module _ (c : Clock) (ts : List Writer) (u : Unsettled c ts) where
  abbrev lce : ℕ
  lce = settled_lce c.lce ts

  abbrev left : List Writer
  left = keep_if (kept (settled_lce c.lce ts)) ts

  above : (t : Writer) → In t left → (settled_lce c.lce ts < t.epoch) × In t ts
  above t i = let k = keep_if_in (kept lce) ts i in (
    or_cases (is_open t) (ltb lce t.epoch) k.1
        (λ o. settled-opens c ts u t k.0 o)
        (λ n h. ltb-true lce t.epoch h),
    k.0,
  )

  -- what waits still was not reached, so an open one is below it
  still-waits : (t : Writer) → In t left → is_open t ≡ false → Waits left t
  still-waits t i n =
      let d = u.idle t (above t i).1 n in let w = missed_in (behind t.epoch) ts missed in
      let h = not-true (behind t.epoch w.it) w.passes in
      let o = not-false (is_open w.it) (or-false-left (not (is_open w.it)) _ h) in
      let b = leb-false t.epoch w.it.epoch (or-false_right (not (is_open w.it)) _ h) in record {
        one = d.0;
        idle = d.1;
        behind = any-of (opens_below t.epoch) (in-keep_if (kept lce) w.at (rw o))
            (rw o (lt-ltb w.it.epoch t.epoch b));
      }
    where
      missed : unblocked ts t.epoch ≡ false
      missed = split (unblocked ts t.epoch)
          (λ k. let a = above t i in let g = settled-reaches c.lce ts t a.1 (rw (n, k)) in absurd (omega arith))
          (λ k. k)

  pub settled-writers : WriterFacts (with_lce (settled_lce c.lce ts) c) (keep_if (kept (settled_lce c.lce ts)) ts)
  settled-writers = record {
    rising = rises-from c.lce lce c.ec (epochs left)
        (λ e i. let w = Memᴰ.of_map (λ (t : Writer). t.epoch) left i in
        let a = above w.0 w.1 in let q = w.2 in omega arith)
        (rises-keep_if (λ (t : Writer). t.epoch) (kept lce) c.lce c.ec ts u.rising);
    status = λ t i. split (is_open t) (λ o. status_open left t o) (λ n. waits-status left t (still-waits t i n));
    deps = λ t i. u.deps t (above t i).1;
    fits = kept-fit (kept lce) ts u.fits;
  }

pub settled-ok : (m : Manager) (ts : List Writer) → ManagerFacts m → Unsettled m.clock ts → length ts ≤ writers_max
    → manager_ok (settled ts m) ≡ true
unfolding settled
settled-ok m ts f u room =
    let c = m.clock in let lce = settled_lce c.lce ts in let k = f.clock in let p = f.readers in
    let up = settled-rises c.lce ts in let len = length-keep_if (kept lce) ts in
    manager-ok (settled ts m) (writers-with m (with_lce lce c) (keep_if (kept lce) ts) f
    (record {
      ec-low = k.ec-low;
      ec-high = k.ec-high;
      lce-low = settled-below c ts u k.lce-low;
      lse-low = omega arith;
    })
    (omega arith)
    (settled-writers c ts u)
    (record {
      next_low = p.next_low;
      next-high = p.next-high;
      rising = p.rising;
      low = p.low;
      high = λ q i. let h = p.high q i in omega arith;
    }))

-- ---- commit

abbrev pub committed_txn : ℕ → Writer → Writer
committed_txn i t = cond (opens i t) (waiting_txn i) t

pub epochs-committed : (i : ℕ) (ts : List Writer) → epochs (committed_txns i ts) ≡ epochs ts
unfolding committed_txns
epochs-committed i [] = refl
epochs-committed i (t ∷ ts) = let ih = epochs-committed i ts in split (opens i t)
    (λ o. rw (o, ih, opens-epoch i t o))
    (λ n. rw (n, ih))

committed-fit : (i : ℕ) (ts : List Writer) → All Fits ts → All Fits (committed_txns i ts)
unfolding committed_txns
committed-fit i [] h = tt
committed-fit i (t ∷ ts) h = let ih = committed-fit i ts h.1 in split (opens i t)
    (λ o. rw o (omega arith, ih))
    (λ n. rw n (h.0, ih))

module _ (c : Clock) (ts : List Writer) (f : WriterFacts c ts) (i : ℕ) where
  closing-idle : (t : Writer) → In t ts → is_open t ≡ false → (t.waiting ≡ 1) × (length t.deps ≡ 0)
  closing-idle t k n = let w = status-waits ts t (f.status t k) n in (w.one, w.idle)

  pub committed-unsettled : Unsettled c (committed_txns i ts)
  unfolding committed_txns deps_ok
  committed-unsettled = record {
    fits = committed-fit i ts f.fits;
    rising = rw (epochs-committed i ts) f.rising;
    idle = λ t k n. let w = Memᴰ.of_map (committed_txn i) ts k in split (opens i w.0)
        (λ o. rw (← w.2, o) (refl, refl))
        (λ h. let q : w.0 ≡ t = rw h at w.2 in closing-idle t (Memᴰ.cast (sym q) w.1) n);
    deps = λ t k. let w = Memᴰ.of_map (committed_txn i) ts k in split (opens i w.0)
        (λ o. rw (← w.2, o) refl)
        (λ h. let q : w.0 ≡ t = rw h at w.2 in rw (← q) (f.deps w.0 w.1));
  }

  pub dropped-unsettled : Unsettled c (dropped_txns i ts)
  unfolding dropped_txns
  dropped-unsettled = record {
    fits = kept-fit (λ t. not (opens i t)) ts f.fits;
    rising = rises-keep_if (λ (t : Writer). t.epoch) (λ t. not (opens i t)) c.lce c.ec ts f.rising;
    idle = λ t k n. closing-idle t (keep_if_in (λ (u : Writer). not (opens i u)) ts k).0 n;
    deps = λ t k. f.deps t (keep_if_in (λ (u : Writer). not (opens i u)) ts k).0;
  }

pub committed-ok : (i : ℕ) (m : Manager) → manager_ok m ≡ true → manager_ok (committed_manager i m) ≡ true
unfolding committed_manager committed_txns
committed-ok i m ok = let f = manager-facts m ok in let r = f.writers-room in
    settled-ok m (committed_txns i (writers_of m)) f (committed-unsettled m.clock (writers_of m) f.writers i)
    (rw (length-map (writers_of m) (committed_txn i), writers-length m) (omega arith))

-- ---- roll back

pub rolled_back-ok : (i : ℕ) (m : Manager) → manager_ok m ≡ true → manager_ok (rolled_back_manager i m) ≡ true
unfolding rolled_back_manager dropped_txns
rolled_back-ok i m ok =
    let f = manager-facts m ok in let ts = writers_of m in let r = f.writers-room in
    let a = length-keep_if (λ (t : Writer). not (opens i t)) ts in
    let b = writers-length m in
    settled-ok m (dropped_txns i ts) f (dropped-unsettled m.clock ts f.writers i) (omega arith)
