-- The four cases of 02 (iv): each epoch is in exactly one, and a read-write transaction sees the first and the last.
-- Definitions: specs/Sees.antt.
-- In order: one_category, seen-categories, unseen-categories, deps-before, table-categories, table-seen.
-- Assumes nothing.
use mathlib.Core.Path.{◌≡◌, refl}
use mathlib.Core.Bool.{true, false, not, ◌||◌}
use mathlib.Core.List.{List, [], ◌∷◌, map}
use Prim.Native.Nat.{ℕ}
use native.Mathlib.Omega.{arith}
use lib.Dec.{eqb, ltb}
use lib.ListN.{replicate}
use borrow.Author.Tests.{eqb-true, eqb-false, ltb-true, ltb-false, lt-ltb, le-ltb}
use Rattle.lists.specs.Lists.{elem, keep_if, ones}
use Rattle.lists.proofs.Laws.Bools.{split, and-true}
use Rattle.lists.proofs.Laws.Filter.{elem-keep_if}
use Rattle.rules.specs.Sees.{sees_rw, is_own, is_later, is_pending, is_finished, categories}

module _ (i : ℕ) (deps : List ℕ) (j : ℕ) where
  -- by the order of the two epochs, all three tests known
  by_order : {P : Type 0}
      → (is_own i j ≡ true → is_later i j ≡ false → ltb j i ≡ false → P)
      → (is_own i j ≡ false → is_later i j ≡ true → ltb j i ≡ false → P)
      → (is_own i j ≡ false → is_later i j ≡ false → ltb j i ≡ true → P) → P
  by_order own later earlier = split (eqb j i)
      (λ o. let e = eqb-true j i o in own o (le-ltb i j (omega (arith, e))) (le-ltb j i (omega (arith, e))))
      (λ n. split (ltb j i)
      (λ b. earlier n (le-ltb i j (omega (arith, ltb-true j i b))) b)
      (λ l. later n (lt-ltb i j (omega (arith, eqb-false j i n, ltb-false j i l))) l))

  pub one_category : ones (categories i deps j) ≡ 1
  one_category = by_order
      (λ o l e. rw (o, l, e))
      (λ o l e. rw (o, l, e))
      (λ o l e. rw (o, l, e) (split (elem j deps) (λ d. rw d) (λ d. rw d)))

  -- seen is its own, or earlier and not in deps
  pub seen-categories : sees_rw i deps j ≡ is_own i j || is_finished i deps j
  unfolding sees_rw
  seen-categories = refl

  -- and all else is not: later, or earlier and in deps
  pub unseen-categories : not (sees_rw i deps j) ≡ is_later i j || is_pending i deps j
  unfolding sees_rw
  unseen-categories = by_order
      (λ o l e. rw (o, l, e))
      (λ o l e. rw (o, l, e))
      (λ o l e. rw (o, l, e) (split (elem j deps) (λ d. rw d) (λ d. rw d)))

  -- of the deps the earlier epochs alone are asked: its own and later ones among them change nothing
  pub deps-before : sees_rw i (keep_if (λ d. ltb d i) deps) j ≡ sees_rw i deps j
  unfolding sees_rw
  deps-before = split (ltb j i)
      (λ e. rw (elem-keep_if j (λ d. ltb d i) deps, e, and-true (elem j deps)))
      (λ l. rw l)

-- ---- transaction 3 of 004, table I, whose deps are 1 and 2; and with its own and a later epoch among them, which
-- changes nothing

abbrev table : {A : Type 0} → (ℕ → List ℕ → ℕ → A) → List (List A)
table f = map (λ deps. map (f 3 deps) (0 ∷ 1 ∷ 2 ∷ 3 ∷ 4 ∷ [])) ((1 ∷ 2 ∷ []) ∷ (4 ∷ 3 ∷ 2 ∷ 1 ∷ []) ∷ [])

pub table-categories : table categories ≡ replicate 2 (
    (false ∷ false ∷ false ∷ true ∷ [])
    ∷ (false ∷ false ∷ true ∷ false ∷ [])
    ∷ (false ∷ false ∷ true ∷ false ∷ [])
    ∷ (true ∷ false ∷ false ∷ false ∷ [])
    ∷ (false ∷ true ∷ false ∷ false ∷ []) ∷ [])
table-categories = refl

pub table-seen : table sees_rw ≡ replicate 2 (true ∷ false ∷ false ∷ true ∷ false ∷ [])
unfolding sees_rw
table-seen = refl
