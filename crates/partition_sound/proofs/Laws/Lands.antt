-- The totals of a sound store once some epochs have landed are those worked out afresh. Definitions: specs/Rest.antt.
-- In order: all partitions; commit; roll back.
-- Elsewhere: one partition (totals/proofs/Laws/Lands.antt).
-- Assumes nothing.
use mathlib.Core.Path.{◌≡◌, sym, ap, ◌∙◌}
use mathlib.Core.Bool.{Bool, true, not, ◌&&◌, ◌||◌, cond}
use mathlib.Core.List.{List, map, foldl}
use Prim.Native.Nat.{ℕ, zero, suc, ◌*◌, ◌≤◌, ◌<◌}
use native.Mathlib.Omega.{arith}
use lib.ListN.{length, get_or, length-set}
use lib.Seq.{get_or-set_same, get_or-set_other, ext_get_or}
use lib.Dec.{ltb, leb, eqb}
use borrow.Author.Tests.{ltb-true, ltb-false, leb-true, leb-false, lt-ltb, le-ltb}
use Rattle.lists.specs.Lists.{part}
use Rattle.lists.proofs.Laws.All.{All_imp, All_every}
use Rattle.lists.proofs.Laws.Bools.{split, split-eq}
use Rattle.rules.specs.Limits.{partitions_max, entries_max}
use Rattle.rules.specs.Span.{Span}
use Rattle.rules.specs.Sees.{up_to}
use Rattle.rules.specs.Rewrite.{rolled_back}
use Rattle.rules.specs.Weight.{weight_by, total}
use Rattle.rules.specs.Store.{Store, manager_of, partition_at, spans_at, total_at, partition_numbers}
use Rattle.rules.specs.Ledger.{Line}
use Rattle.rules.specs.WellFormed.{epoch_ok}
use Rattle.rules.specs.declared.Entry.{Entry}
use Rattle.laws.proofs.Laws.Lines.{mark_of, AllLines}
use Rattle.laws.proofs.Laws.LinesOf.{lines_of, All-lines}
use Rattle.laws.proofs.Laws.Epochs.{epoch-facts}
use Rattle.laws.proofs.Laws.Totals.{SoundOk, total_kept, numbered}
use Rattle.laws.proofs.Laws.Weight.{total-rolled_back}
use Rattle.totals.specs.Reach.{in_reach, no_top, top_turn}
use Rattle.totals.specs.Weighed.{plus}
use Rattle.totals.proofs.Laws.Lands.{lot_lands, commit-sees, rollback-sees}
use Rattle.partition_sound.specs.Asked.{asked_for, rest_asked}
use Rattle.partition_sound.specs.Rest.{reach_of, newest_at, tally_at, landed_at, landed_below}
use Rattle.partition_sound.specs.declared.Asked.{Asked}
use Rattle.partition_sound.proofs.Laws.Rest.{rest-each}

-- ---- all partitions: s sees what a page at LCE sees, and what lands

module _ (st : Store) (ok : SoundOk st) (eight : length st.state.partitions.at ≡ partitions_max)
    (eight' : length st.state.totals ≡ partitions_max) (h gone : ℕ) (s : ℕ → Bool) where
  abbrev es : List Entry
  es = st.entries

  abbrev rows : List ℕ
  rows = st.rows

  abbrev lce : ℕ
  lce = (manager_of st).clock.lce

  -- what is asked, where the epochs above LCE up to h land, but for one
  abbrev a : Asked
  a = asked_for st.state.clock st.state.writers st.state.partitions st.state.totals h gone

  abbrev LandsAt : ℕ → Type 0
  LandsAt p = AllLines (λ x. s (mark_of x) ≡ leb (mark_of x) lce || in_reach a.lands (mark_of x))
      (lines_of (spans_at p st))

  abbrev next : ℕ → ℕ
  next p = weight_by s (spans_at p st)

  -- what partition p comes to, from what is kept of it
  abbrev lands_to : ℕ → ℕ → ℕ
  lands_to p kept = let q = partition_at p st in
      plus (cond (eqb (newest_at es rows a q).epoch 0) kept 0) (tally_at es rows a q).more

  module _ (found : rest_asked es rows a ≡ true) (each : (p : ℕ) → p < partitions_max → LandsAt p) where
    lands-to : (p : ℕ) → p < partitions_max → lands_to p (get_or st.state.totals p 0) ≡ next p
    unfolding total_at spans_at
    lands-to p k = let q = partition_at p st in let f = rest-each es rows a eight found p k in
        let own = part (entries_max * q.area) q.entries es in
        let c = (ok.shape.partition p k).spans-ok.rows_fit in
        rw (f.2, f.1, total_kept st ok p k) (lot_lands es rows q f.0 a.lands s (reach_of a)
        (foldl (top_turn (reach_of a)) no_top own) (omega arith) c (each p k))

    below_length : (k : ℕ) → length (landed_below es rows a k).totals ≡ partitions_max
    unfolding landed_below landed_at
    below_length zero = eight'
    below_length (suc k) = length-set (landed_below es rows a k).totals k _ ∙ below_length k

    below : (k : ℕ) → k ≤ partitions_max → (p : ℕ) → p < partitions_max
        → get_or (landed_below es rows a k).totals p 0 ≡ cond (ltb p k) (next p) (get_or st.state.totals p 0)
    unfolding landed_below landed_at
    below zero h p q = rw (le-ltb p 0 (omega arith))
    below (suc k) h p q = let ts = (landed_below es rows a k).totals in let n = below_length k in
        let at-k = below k (omega arith) k (omega arith) in
        split-eq p k
        (λ e. rw (e, lt-ltb k (suc k) (omega arith)) (get_or-set_same ts k _ 0 (omega arith)
        ∙ (ap (lands_to k) (at-k ∙ rw (le-ltb k k (omega arith))) ∙ lands-to k (omega arith))))
        (λ ne. get_or-set_other ts k p _ 0 ne ∙ (below k (omega arith) p q
        ∙ ap (λ b. cond b (next p) (get_or st.state.totals p 0)) (same ne)))
      where
        beyond : k ≤ p → (p ≡ k → ⊥) → suc k ≤ p
        beyond g ne = split (leb (suc k) p) (λ t. leb-true (suc k) p t)
            (λ f. absurd (ne (let d = leb-false (suc k) p f in omega arith)))

        same : (p ≡ k → ⊥) → ltb p k ≡ ltb p (suc k)
        same ne = split (ltb p k)
            (λ t. let g = ltb-true p k t in rw (t, lt-ltb p (suc k) (omega arith)))
            (λ f. let g = ltb-false p k f in rw (f, le-ltb p (suc k) (beyond g ne)))

    pub lands-all : (landed_below es rows a partitions_max).totals ≡ map next partition_numbers
    lands-all = ext_get_or 0 _ _ (below_length partitions_max) (λ p q.
        let k : p < partitions_max = omega (arith, below_length partitions_max, q) in
        below partitions_max (omega arith) p k ∙ (rw (lt-ltb p partitions_max k) (sym (numbered next 0 p k))))

-- ---- commit and roll back

module _ (st : Store) (ok : SoundOk st) (eight : length st.state.partitions.at ≡ partitions_max)
    (eight' : length st.state.totals ≡ partitions_max) (h : ℕ) (up : (manager_of st).clock.lce ≤ h) where
  -- every epoch is at least 1
  at-least_1 : (p : ℕ) → p < partitions_max → AllLines (λ x. 1 ≤ mark_of x) (lines_of (spans_at p st))
  at-least_1 p k = All-lines (λ j. 1 ≤ j) (spans_at p st) (All_imp _ _ one (spans_at p st) (ok.shape.partition p k
      ).spans-ok.epochs)
    where
      one : (t : Span) → epoch_ok (manager_of st) t.epoch ≡ true → 1 ≤ t.epoch
      one t e = (epoch-facts (manager_of st) t.epoch e).low

  pub lands-commit : rest_asked st.entries st.rows (a st ok eight eight' h 0 (up_to h)) ≡ true
      → (landed_below st.entries st.rows (a st ok eight eight' h 0 (up_to h)) partitions_max).totals
      ≡ map (λ p. total h (spans_at p st)) partition_numbers
  unfolding total
  lands-commit f = lands-all st ok eight eight' h 0 (up_to h) f (λ p k. All_imp _ _ one (lines_of (spans_at p st))
      (at-least_1 p k))
    where
      one : (x : Line) → 1 ≤ mark_of x → up_to h (mark_of x) ≡ leb (mark_of x) (manager_of st).clock.lce
          || in_reach (record { over = (manager_of st).clock.lce; high = h; gone = 0 }) (mark_of x)
      one x q = commit-sees (manager_of st).clock.lce h (mark_of x) up q

  pub lands-rollback : (i : ℕ) → (manager_of st).clock.lce < i
      → rest_asked st.entries st.rows (a st ok eight eight' h i (up_to h)) ≡ true
      → (landed_below st.entries st.rows (a st ok eight eight' h i (up_to h)) partitions_max).totals
      ≡ map (λ p. total h (rolled_back i (spans_at p st))) partition_numbers
  lands-rollback i above f = lands-all st ok eight eight' h i (λ j. not (eqb j i) && leb j h) f
      (λ p k. All_every _ (λ x. rollback-sees (manager_of st).clock.lce h i (mark_of x) up above) (lines_of (spans_at p
      st)))
      ∙ sym (ap (λ (f : ℕ → ℕ). map f partition_numbers) (λ k p. total-rolled_back h i (spans_at p st) k))
