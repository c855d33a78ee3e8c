-- A loop that goes over lent entries by their indexes, from one on: what it holds is what so many turns leave.
-- Definition: lent's specs/Shapes.antt, turned. In order: the library's fold over a list of indexes that count up, and
-- over a range of them.
-- Assumes nothing.
use Rattle.std.proofs.Common.{◌≡◌, ℕ, zero, suc, ◌+◌, ◌-◌, ◌≤◌, ◌<◌, true, List, [], ◌∷◌, length, get_or, take}
use Rattle.std.proofs.Common.{refl, sym, ap, ◌∙◌, arith}
use Rattle.std.proofs.Math.Seq.{take-suc, take_all}
use Rattle.std.proofs.lemmas.List.Sums.{fold-append}
use Rattle.std.proofs.lemmas.Option.{same_Some}
use Rattle.std.proofs.iter.Yields.{nat_range_steps}
use Rattle.std.proofs.iter.runs.Sources.{range_runs}
use Rattle.std.specs.Iterator.Runs.{Run}
use Rattle.std.specs.List.{fold}
use Rattle.std.specs.declared.ops.Range.{Range}
use Rattle.rules.specs.declared.Entry.{Entry}
use Rattle.lent.specs.Entries.{none}
use Rattle.lent.specs.Shapes.{turned}

module _ {X : Type 0} (f : X → Entry → X) (a : X) (es : List Entry) (from : ℕ) where
  abbrev at_index : X → ℕ → X
  at_index x j = f x (get_or es j none)

  fold_to : (js : List ℕ) → ((k : ℕ) → k < length js → get_or js k 0 ≡ from + k) → (n : ℕ) → n ≤ length js
      → fold at_index a (take n js) ≡ turned f a es from n
  unfolding turned
  fold_to js up zero h = refl
  fold_to js up (suc n) h =
      rw (
        take-suc js n 0 (omega arith),
        up n (omega arith),
        fold-append at_index a (take n js) ((from + n) ∷ []),
        fold_to js up n (omega arith),
      )

  pub fold_indexes : (to : ℕ) (p : Run nat_range_steps) → p.from ≡ (record { start = from; end = to }) → p.whole ≡ true
      → fold at_index a p.items ≡ turned f a es from (to - from)
  fold_indexes to p e w =
      let r = range_runs p p.seen in
      let long : length p.items ≡ to - from = sym p.long ∙ r.1 w ∙ ap (λ (s : Range ℕ). s.end - s.start) e in
      let up : (k : ℕ) → k < length p.items → get_or p.items k 0 ≡ from + k =
      λ k l. let below : k < p.len = omega (arith, p.long) in
      same_Some _ _ (sym (p.reads k 0 below) ∙ r.3 k below) ∙ ap (λ (s : Range ℕ). s.start + k) e in
      let all : take (to - from) p.items ≡ p.items = take_all (to - from) p.items (omega arith) in
      ap (fold at_index a) (sym all) ∙ fold_to p.items up (to - from) (omega arith)
