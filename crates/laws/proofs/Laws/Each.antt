-- A value for each partition (01: lot), filled in one after the other.
-- In order: the value of partition p, none yet, one more, all.
-- Assumes nothing.
use mathlib.Core.Path.{◌≡◌, refl, sym, ◌∙◌, ap}
use mathlib.Core.List.{List, [], ◌∷◌, map}
use Prim.Native.Nat.{ℕ, zero, suc, ◌+◌, ◌<◌}
use native.Mathlib.Omega.{arith}
use lib.ListN.{length, get_or, set, length-set, get_or-map}
use lib.Seq.{ext_get_or, get_or-set_same, get_or-set_other}
use Rattle.lists.proofs.Laws.Bools.{split-eq}
use Rattle.rules.specs.Limits.{partitions_max}
use Rattle.rules.specs.Store.{partition_numbers}
use Rattle.laws.proofs.Laws.Store.{own-area}

module _ {A : Type 0} (d : A) (f : ℕ → A) where
  -- in range the default does not matter
  within : (xs : List A) (e : A) (i : ℕ) → i < length xs → get_or xs i d ≡ get_or xs i e
  within [] e i h = absurd (omega arith)
  within (x ∷ xs) e zero h = refl
  within (x ∷ xs) e (suc i) h = within xs e i (omega arith)

  pub each_at : (p : ℕ) → p < partitions_max → get_or (map f partition_numbers) p d ≡ f p
  each_at p h = within (map f partition_numbers) (f 0) p h ∙ get_or-map f partition_numbers p 0 ∙ ap f (own-area p h)

  -- those below n are filled in
  pub record Filled (xs : List A) (n : ℕ) : Type 0 where
    pub len : length xs ≡ partitions_max
    pub below : (i : ℕ) → i < n → get_or xs i d ≡ f i

  pub filled_none : (xs : List A) → length xs ≡ partitions_max → Filled xs 0
  filled_none xs l = record { len = l; below = λ i h. absurd (omega arith) }

  pub filled_next : (xs : List A) (n : ℕ) (x : A) → n < partitions_max → x ≡ f n → Filled xs n
      → Filled (set xs n x) (n + 1)
  filled_next xs n x h e F = let l = F.len in record {
    len = length-set xs n x ∙ l;
    below = λ i k. split-eq i n (λ t. rw t (get_or-set_same xs n x d (omega arith) ∙ e))
        (λ ne. get_or-set_other xs n i x d ne ∙ F.below i (omega arith));
  }

  pub filled-all : (xs : List A) → Filled xs partitions_max → xs ≡ map f partition_numbers
  filled-all xs F = let l = F.len in
      ext_get_or d xs (map f partition_numbers) l (λ i h. F.below i (omega arith) ∙ sym (each_at i (omega arith)))
