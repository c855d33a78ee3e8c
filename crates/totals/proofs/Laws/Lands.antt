-- The total of a sound partition once some epochs have landed is the one worked out afresh. Definitions:
-- specs/Reach.antt, specs/Weighed.antt.
-- In order: one partition; who sees what, at a commit and at a roll back.
-- Elsewhere: all partitions (partition_sound/proofs/Laws/Lands.antt).
-- Assumes nothing.
use mathlib.Core.Path.{◌≡◌, refl, sym, ◌∙◌}
use mathlib.Core.Bool.{Bool, true, false, not, ◌&&◌, ◌||◌, cond}
use mathlib.Core.List.{List, foldl}
use Prim.Native.Nat.{ℕ, ◌+◌, ◌*◌, ◌≤◌, ◌<◌}
use native.Mathlib.Omega.{arith}
use lib.ListN.{length}
use lib.Dec.{leb, eqb}
use borrow.Author.Tests.{leb-true, leb-false, lt-ltb, le-leb, ne_eqb}
use Rattle.lists.specs.Lists.{any_of, part}
use Rattle.lists.proofs.Laws.Bools.{split, and-true}
use Rattle.lists.proofs.Laws.Tests.{and_comm}
use Rattle.rules.specs.Limits.{rows_max, entries_max}
use Rattle.rules.specs.Span.{Span, is_delete, spans, words_of}
use Rattle.rules.specs.Sees.{up_to}
use Rattle.rules.specs.Weight.{weight_by, total}
use Rattle.rules.specs.Ledger.{Line}
use Rattle.rules.specs.declared.Entry.{Entry}
use Rattle.rules.specs.declared.Partition.{Partition}
use Rattle.laws.proofs.Laws.Lines.{mark_of, AllLines}
use Rattle.laws.proofs.Laws.LinesOf.{lines_of}
use Rattle.laws.proofs.Laws.Weight.{weight_by_most, total_lands}
use Rattle.totals.specs.Reach.{in_reach, cuts_of}
use Rattle.totals.specs.Weighed.{room, plus, no_tally, tally_turn}
use Rattle.totals.specs.declared.Reach.{Reach}
use Rattle.totals.specs.declared.Top.{Top}
use Rattle.totals.proofs.Laws.Clearing.{reach-over, top-none}
use Rattle.totals.proofs.Laws.Lot.{Lies, top_of, lot-more}

pub plus-small : (x y : ℕ) → x ≤ room → y ≤ room → plus x y ≡ x + y
unfolding plus
plus-small x y a b = rw (le-leb x room a, le-leb y room b)

-- ---- one partition: s sees what a page at the old LCE sees, and what lands

module _ (es : List Entry) (rows : List ℕ) (q : Partition) (L : Lies es rows q) (r : Reach) (s : ℕ → Bool) where
  abbrev own : List Entry
  own = part (entries_max * q.area) q.entries es

  abbrev ss : List Span
  ss = spans 0 own (part (rows_max * q.area) q.rows rows)

  abbrev Lands : Line → Type 0
  Lands x = s (mark_of x) ≡ leb (mark_of x) r.over || in_reach r (mark_of x)

  -- a clearing that lands takes out what was there, and what lands comes on top
  pub lot_lands : (shown : Reach) (t : Top) → shown.high ≤ r.over → length (words_of ss) ≤ rows_max
      → AllLines Lands (lines_of ss) → let u = top_of es rows q L r in
      plus (cond (eqb u.epoch 0) (total r.over ss) 0)
      (foldl (tally_turn rows (cuts_of q shown t r u)) no_tally own).more ≡ weight_by s ss
  unfolding total
  lot_lands shown t h small a =
      let m = weight_by_most (up_to r.over) ss in let n = weight_by_most (in_reach r) ss in
      let taken = any_of (λ t. is_delete t && in_reach r t.epoch) ss in
      rw (
        lot-more es rows q L shown r t h,
        top-none r own (part (rows_max * q.area) q.rows rows),
        swap taken (total r.over ss),
      )
      (plus-small (cond taken 0 (total r.over ss)) (weight_by (in_reach r) ss) (at_most taken (total r.over ss)
      (omega arith)) (omega arith)
      ∙ sym (total_lands r.over s (in_reach r) (reach-over r) ss a))
    where
      swap : (b : Bool) (n : ℕ) → cond (not b) n 0 ≡ cond b 0 n
      swap true n = refl
      swap false n = refl

      at_most : (b : Bool) (n : ℕ) → n ≤ room → cond b 0 n ≤ room
      at_most true n h = omega arith
      at_most false n h = h

-- ---- who sees what, before and after

pub commit-sees : (l h j : ℕ) → l ≤ h → 1 ≤ j
    → leb j h ≡ leb j l || in_reach (record { over = l; high = h; gone = 0 }) j
unfolding in_reach
commit-sees l h j up one = rw (ne_eqb j 0 (λ e. omega arith)) (split (leb j l)
    (λ t. let g = leb-true j l t in rw (t, le-leb j h (omega arith)))
    (λ f. let g = leb-false j l f in rw (f, lt-ltb l j (omega arith)) (sym (and-true (leb j h)))))

pub rollback-sees : (l h i j : ℕ) → l ≤ h → l < i
    → not (eqb j i) && leb j h ≡ leb j l || in_reach (record { over = l; high = h; gone = i }) j
unfolding in_reach
rollback-sees l h i j up above = split (leb j l)
    (λ t. let g = leb-true j l t in rw (t, le-leb j h (omega arith), ne_eqb j i (λ e. omega arith)))
    (λ f. let g = leb-false j l f in rw (f, lt-ltb l j (omega arith)) (and_comm (not (eqb j i)) (leb j h)))
