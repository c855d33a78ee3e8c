-- Where the epochs rise, settling drops the records that wait before the first open one, LCE is the last of their
-- epochs, and the first open one is the oldest.
-- Definitions: specs/Close.antt; rules/specs/Close.antt.
-- In order: LCE, the records kept, the oldest open one, the manager settled, records without their rows, LCE once one
-- of them is closed.
-- Assumes nothing.
use mathlib.Core.Path.{◌≡◌, refl, sym, ap, ◌∙◌}
use mathlib.Core.Bool.{Bool, true, false, not, ◌&&◌, cond}
use mathlib.Core.List.{List, [], ◌∷◌, map, foldr}
use Prim.Native.Nat.{ℕ, suc, ◌≤◌, ◌<◌, max}
use native.Mathlib.Omega.{arith}
use lib.Dec.{eqb}
use lib.ListN.{length, take, drop, get_or}
use borrow.Author.Tests.{lt-ltb, le-ltb, le-leb, lt-leb, eqb-true}
use Rattle.lists.specs.Lists.{keep_if, rises}
use Rattle.lists.proofs.Laws.Bools.{split, and-false}
use Rattle.lists.proofs.Laws.Order.{rises-split, rises-keep_if, least_of-rises}
use Rattle.rules.specs.Limits.{deps_max}
use Rattle.rules.specs.Manager.{Writer, view, views, is_open, open_epochs, with_clock, with_writers, with_lce}
use Rattle.rules.specs.Close.{committed_txns, dropped_txns, unblocked, settled_lce, oldest_open, settled}
use Rattle.rules.specs.declared.RwTxn.{RwTxn}
use Rattle.rules.specs.declared.RwTxns.{RwTxns}
use Rattle.rules.specs.Manager.{Manager}
use Rattle.laws.proofs.Laws.Manager.{epochs}
use Rattle.laws.proofs.Laws.Close.{reached, kept}
use Rattle.txn.specs.Records.{viewed}
use Rattle.txn_close.specs.Close.{lead, run_lce, first_open, reach_of, lce_after}
use Rattle.txn_close.specs.declared.close.Reached.{Reached}

-- ---- LCE

max-base : (b e : ℕ) (xs : List ℕ) → b ≤ e → max e (foldr max b xs) ≡ foldr max e xs
max-base b e [] h = omega arith
max-base b e (x ∷ xs) h = let ih = max-base b e xs h in omega arith

module _ (hi : ℕ) where
  -- every open one is above e
  clear_above : (k e : ℕ) (ts : List Writer) → rises k hi (epochs ts) ≡ true → e ≤ k → unblocked ts e ≡ true
  clear_above k e [] r h = refl
  clear_above k e (t ∷ ts) r h =
      let s = rises-split k hi t.epoch (epochs ts) r in let u = s.above in
      let more = clear_above t.epoch e ts s.rest (omega arith) in
      split (is_open t) (λ o. rw (o, le-leb e t.epoch (omega arith), more)) (λ n. rw (n, more))

  module _ (all : List Writer) where
    stuck : (ts : List Writer) (k b : ℕ) → rises k hi (epochs ts) ≡ true
        → ((e : ℕ) → k < e → unblocked all e ≡ false)
        → foldr max b (epochs (keep_if (reached all) ts)) ≡ b
    stuck [] k b r h = refl
    stuck (t ∷ ts) k b r h =
        let s = rises-split k hi t.epoch (epochs ts) r in let u = s.above in
        let ih = stuck ts t.epoch b s.rest (λ e l. h e (omega arith)) in
        rw (h t.epoch u, and-false (not (is_open t))) ih

    run-from : (ts : List Writer) (b : ℕ) → rises b hi (epochs ts) ≡ true
        → ((e : ℕ) → unblocked all e ≡ unblocked ts e)
        → foldr max b (epochs (keep_if (reached all) ts)) ≡ run_lce b ts
    run-from [] b r h = refl
    run-from (t ∷ ts) b r h =
        let s = rises-split b hi t.epoch (epochs ts) r in let u = s.above in
        split (is_open t)
        (λ o. let go = stuck ts t.epoch b s.rest (λ e l. h e ∙ rw (o, lt-leb e t.epoch l)) in rw o go)
        (λ n.
        let clear : unblocked all t.epoch ≡ true =
        h t.epoch ∙ rw n (clear_above t.epoch t.epoch ts s.rest (omega arith)) in
        let ih = run-from ts t.epoch s.rest (λ e. h e ∙ rw n) in
        rw (n, clear) (max-base b t.epoch (epochs (keep_if (reached all) ts)) (omega arith) ∙ ih))

  settled-run : (lce : ℕ) (ts : List Writer) → rises lce hi (epochs ts) ≡ true
      → settled_lce lce ts ≡ run_lce lce ts
  unfolding settled_lce
  settled-run lce ts r = run-from ts ts lce r (λ e. refl)

  -- ---- the records kept

  run_up : (ts : List Writer) (b : ℕ) → rises b hi (epochs ts) ≡ true → b ≤ run_lce b ts
  run_up [] b r = omega arith
  run_up (t ∷ ts) b r = let s = rises-split b hi t.epoch (epochs ts) r in let u = s.above in
      split (is_open t) (λ o. rw o (omega arith))
      (λ n. let ih = run_up ts t.epoch s.rest in rw n (omega arith))

  all_stay : (ts : List Writer) (k b : ℕ) → rises k hi (epochs ts) ≡ true → b ≤ k → keep_if (kept b) ts ≡ ts
  all_stay [] k b r h = refl
  all_stay (t ∷ ts) k b r h =
      let s = rises-split k hi t.epoch (epochs ts) r in let u = s.above in
      let more = all_stay ts t.epoch b s.rest (omega arith) in
      split (is_open t) (λ o. rw (o, more)) (λ n. rw (n, lt-ltb b t.epoch (omega arith), more))

  kept_run : (ts : List Writer) (b : ℕ) → rises b hi (epochs ts) ≡ true
      → keep_if (kept (run_lce b ts)) ts ≡ drop (lead ts) ts
  kept_run [] b r = refl
  kept_run (t ∷ ts) b r =
      let s = rises-split b hi t.epoch (epochs ts) r in let u = s.above in
      split (is_open t)
      (λ o. let more = all_stay ts t.epoch b s.rest (omega arith) in let at : run_lce b (t ∷ ts) ≡ b = rw o in
      ap (λ c. keep_if (kept c) (t ∷ ts)) at ∙ rw (o, more))
      (λ n. let ih = kept_run ts t.epoch s.rest in let up = run_up ts t.epoch s.rest in
      let at : run_lce b (t ∷ ts) ≡ run_lce t.epoch ts = rw n in
      ap (λ c. keep_if (kept c) (t ∷ ts)) at ∙ rw (n, le-ltb (run_lce t.epoch ts) t.epoch up) ih)

-- ---- the oldest open one

first_listed : (ts : List Writer) → first_open ts ≡ get_or (open_epochs ts) 0 0
first_listed [] = refl
first_listed (t ∷ ts) = split (is_open t) (λ o. rw o) (λ n. rw n (first_listed ts))

pub first-oldest : (lo hi : ℕ) (ts : List Writer) → rises lo hi (epochs ts) ≡ true → first_open ts ≡ oldest_open ts
unfolding oldest_open
first-oldest lo hi ts r = first_listed ts
    ∙ sym (least_of-rises lo hi (open_epochs ts) (rises-keep_if (λ (t : Writer). t.epoch) is_open lo hi ts r))

-- ---- the manager settled

pub lead-length : (ts : List Writer) → lead ts ≤ length ts
lead-length [] = omega arith
lead-length (t ∷ ts) = let ih =
    lead-length ts in split (is_open t) (λ o. rw o (omega arith)) (λ n. rw n (omega arith))

-- nothing waited before the first open one
pub lead-none : (lce : ℕ) (ts : List Writer) → lead ts ≡ 0 → run_lce lce ts ≡ lce
lead-none lce [] e = refl
lead-none lce (t ∷ ts) e = split (is_open t) (λ o. rw o) (λ n. let z = rw n at e in absurd (omega arith))

module _ (m : Manager) (ts : List Writer) (r : rises m.clock.lce m.clock.ec (epochs ts) ≡ true) where
  pub settled-runs : settled ts m
      ≡ with_clock (with_lce (run_lce m.clock.lce ts) m.clock) (with_writers (drop (lead ts) ts) m)
  unfolding settled
  settled-runs = rw (settled-run m.clock.ec m.clock.lce ts r, kept_run m.clock.ec ts m.clock.lce r)

-- ---- records without their rows settle alike

lead-bare : (ds : List ℕ) (ts : List RwTxn) → lead (map (view []) ts) ≡ lead (views ds ts)
lead-bare ds [] = refl
lead-bare ds (t ∷ ts) = ap (λ n. cond (eqb t.waiting 0) 0 (suc n)) (lead-bare (drop deps_max ds) ts)

run-bare : (lce : ℕ) (ds : List ℕ) (ts : List RwTxn) → run_lce lce (map (view []) ts) ≡ run_lce lce (views ds ts)
run-bare lce ds [] = refl
run-bare lce ds (t ∷ ts) = ap (λ n. cond (eqb t.waiting 0) lce n) (run-bare t.epoch (drop deps_max ds) ts)

first-bare : (ds : List ℕ) (ts : List RwTxn) → first_open (map (view []) ts) ≡ first_open (views ds ts)
first-bare ds [] = refl
first-bare ds (t ∷ ts) = ap (λ n. cond (eqb t.waiting 0) t.epoch n) (first-bare (drop deps_max ds) ts)

pub reached-is : (lce : ℕ) (ts : RwTxns) (ds : List ℕ) {r : Reached}
    → r ≡ reach_of lce (map (view []) (take ts.count ts.at)) → r ≡ reach_of lce (viewed ts ds)
reached-is lce ts ds e = let us = take ts.count ts.at in
    e ∙ (λ i. record { lce = run-bare lce ds us i; count = lead-bare ds us i; oldest = first-bare ds us i })

-- ---- LCE once the transaction of epoch i is closed, one record further

module _ (waits : Bool) (i : ℕ) where
  pub lce-after-nil : (lce : ℕ) → lce_after waits i lce [] ≡ lce
  unfolding lce_after committed_txns dropped_txns
  lce-after-nil lce = split waits (λ w. rw w) (λ w. rw w)

  pub lce-after-cons : (lce : ℕ) (t : Writer) (ts : List Writer) → lce_after waits i lce (t ∷ ts)
      ≡ cond (is_open t && not (eqb t.epoch i)) lce
      (lce_after waits i (cond (is_open t && not waits) lce t.epoch) ts)
  unfolding lce_after committed_txns dropped_txns
  lce-after-cons lce t ts = split waits
      (λ w. split (is_open t)
      (λ o. split (eqb t.epoch i) (λ e. rw (w, o, e, eqb-true t.epoch i e)) (λ n. rw (w, o, n, o)))
      (λ o. rw (w, o, o)))
      (λ w. split (is_open t) (λ o. split (eqb t.epoch i) (λ e. rw (w, o, e)) (λ n. rw (w, o, n, o)))
      (λ o. rw (w, o, o)))

  -- records without their rows do alike
  pub lce-after-bare : (lce : ℕ) (ds : List ℕ) (ts : List RwTxn)
      → lce_after waits i lce (map (view []) ts) ≡ lce_after waits i lce (views ds ts)
  lce-after-bare lce ds [] = refl
  lce-after-bare lce ds (t ∷ ts) =
      let past = cond (eqb t.waiting 0 && not waits) lce t.epoch in
      rw (lce-after-cons lce (view [] t) (map (view []) ts), lce-after-bare past (drop deps_max ds) ts)
      (sym (lce-after-cons lce (view (take deps_max ds) t) (views (drop deps_max ds) ts)))
