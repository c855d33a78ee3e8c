-- The records one after the other, each with its row of the table. Definitions: specs/Safe.antt,
-- txn_find/specs/Find.antt.
-- Assumes nothing.
use mathlib.Core.Path.{◌≡◌, refl, sym, ap, ◌∙◌}
use mathlib.Core.Bool.{Bool, ◌||◌}
use mathlib.Core.List.{List, [], ◌∷◌, map, foldr}
use Prim.Native.Nat.{ℕ, min, ◌+◌, ◌*◌, ◌≤◌, ◌<◌}
use native.Mathlib.Omega.{arith}
use lib.ListN.{length, take, drop, drop_of_length-le, get_or}
use Rattle.std.specs.List.{fold, list_any}
use Rattle.lists.specs.Lists.{any_of, gather, part}
use Rattle.lists.proofs.Laws.Lowest.{lowest-front, lowest-append}
use Rattle.lists.proofs.Laws.Places.{from_next}
use Rattle.rules.specs.Limits.{writers_max, deps_max}
use Rattle.rules.specs.Manager.{Writer, no_writer, no_rw, writer, views}
use Rattle.rules.specs.declared.RwTxn.{RwTxn}
use Rattle.laws.proofs.Laws.Views.{length-views, views-at}
use Rattle.txn_find.specs.Find.{row_at}

-- xs are records in use, from the front of the array
module _ (ds : List ℕ) (xs : List RwTxn) (few : length xs ≤ writers_max) (i : ℕ) (h : i < length xs) where
  -- the record at place i, with the row that is lent for it
  view-lent : let t = get_or xs i no_rw in
      get_or (views ds xs) i no_writer ≡ writer t.epoch t.waiting (row_at t.deps i ds)
  view-lent = let t = get_or xs i no_rw in let e : i ≡ min i writers_max = omega arith in
      views-at ds xs i h
      ∙ ap (λ k. writer t.epoch t.waiting (take t.deps (part (deps_max * k) deps_max ds))) e

  pub views-next : let t = get_or xs i no_rw in
      drop i (views ds xs) ≡ writer t.epoch t.waiting (row_at t.deps i ds) ∷ drop (i + 1) (views ds xs)
  views-next = from_next (views ds xs) no_writer i (rw length-views h)
      ∙ ap (λ w. w ∷ drop (i + 1) (views ds xs)) view-lent

  pub lowest-views : (b : ℕ) (f : Writer → List ℕ) → let t = get_or xs i no_rw in
      foldr min b (gather f (drop i (views ds xs)))
      ≡ foldr min (foldr min b (f (writer t.epoch t.waiting (row_at t.deps i ds))))
      (gather f (drop (i + 1) (views ds xs)))
  lowest-views b f = let t = get_or xs i no_rw in
      rw views-next
      (lowest-append b (f (writer t.epoch t.waiting (row_at t.deps i ds))) (gather f (drop (i + 1) (views ds xs))))

pub views-end : (ds : List ℕ) (xs : List RwTxn) (i : ℕ) → length xs ≤ i → drop i (views ds xs) ≡ []
views-end ds xs i h = let l : length (views ds xs) ≤ i = rw length-views h in drop_of_length-le (views ds xs) l

-- ---- the library's words for a test of any and for a fold from the front

pub any-is : {A : Type 0} (p : A → Bool) (xs : List A) → list_any p xs ≡ any_of p xs
any-is p [] = refl
any-is p (x ∷ xs) = ap (λ b. p x || b) (any-is p xs)

pub lowest-fold : {A : Type 0} (f : A → ℕ) (b : ℕ) (xs : List A)
    → fold (λ low x. min low (f x)) b xs ≡ foldr min b (map f xs)
lowest-fold f b [] = refl
lowest-fold f b (x ∷ xs) = lowest-fold f (min b (f x)) xs ∙ sym (lowest-front b (f x) (map f xs))
