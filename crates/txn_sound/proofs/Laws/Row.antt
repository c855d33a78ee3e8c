-- A row of deps as a loop compares them, each with the one before it and the last with the epoch.
-- Definitions: specs/Sound.antt.
-- Assumes nothing.
use mathlib.Core.Path.{◌≡◌, sym, ap, ◌∙◌}
use mathlib.Core.Logic.{◌⊎◌, ⊎_elim}
use mathlib.Core.Bool.{Bool, true, false, ◌&&◌, ◌||◌}
use mathlib.Core.List.{List}
use Prim.Native.Nat.{ℕ, min, ◌+◌, ◌-◌, ◌<◌, ◌≤◌}
use native.Mathlib.Omega.{arith}
use borrow.Author.Tests.{ltb-true, lt-ltb, le-ltb, le-leb, ne_eqb}
use lib.Dec.{ltb, eqb}
use lib.ListN.{length, take, drop, drop_of_length-le, length-take, length-drop}
use lib.Seq.{take_all}
use Rattle.std.proofs.lemmas.List.{take_min, drop_min}
use Rattle.lists.specs.Lists.{rises}
use Rattle.lists.proofs.Laws.Bools.{split, and-false, and-true}
use Rattle.rules.specs.Limits.{deps_max}
use Rattle.rules.specs.WellFormed.{zeros}
use Rattle.txn_sound.specs.Sound.{row_ok}

-- of j so far the last is lo
abbrev pub below : ℕ → ℕ → ℕ → Bool
below j lo epoch = eqb j 0 || ltb lo epoch

-- a greater one takes its place
pub below_next : (j lo d epoch : ℕ) (rest : Bool) → lo < d
    → below j lo epoch && (ltb lo d && ltb d epoch && rest) ≡ below (j + 1) d epoch && rest
below_next j lo d epoch rest h = split (ltb d epoch)
    (λ y. let g = ltb-true d epoch y in
    rw (lt-ltb lo d h, y, lt-ltb lo epoch (omega arith), ne_eqb (j + 1) 0 (λ q. omega arith))
    (split (eqb j 0) (λ t. rw t) (λ f. rw f)))
    (λ f. rw (lt-ltb lo d h, f, ne_eqb (j + 1) 0 (λ q. omega arith)) (and-false (below j lo epoch)))

module _ (lse epoch k n : ℕ) (row : List ℕ) (few : k ≤ deps_max) (used : n ≡ min k (length row)) (lo bad j : ℕ)
    (told : rises lse epoch (take n row) ≡ eqb bad 0 && (below j lo epoch && rises lo epoch (drop j (take n row))))
    (high : j ≤ length (take n row)) (done : length (take n row) ≤ j) where
  -- n of the words are deps, and all of them were compared
  row-told : row_ok lse epoch k row ≡ (eqb bad 0 && below n lo epoch) && zeros (drop n row)
  unfolding row_ok
  row-told = let e : j ≡ n = omega (arith, length-take n row) in
      let r : rises lse epoch (take n row) ≡ eqb bad 0 && below n lo epoch =
      told ∙ rw (drop_of_length-le (take n row) done, and-true (below j lo epoch), e) in
      rw (le-leb k deps_max few, ← take_min k row, ← drop_min k row, ← used, r)

  pub row-well : (bad ≡ 0 × n ≡ 0) ⊎ (bad ≡ 0 × (n ≡ 0 → ⊥) × lo < epoch)
      → row_ok lse epoch k row ≡ zeros (take (length row - n) (drop n row))
  row-well h = row-told ∙ ap (λ b. b && zeros (drop n row)) yes ∙ all
    where
      yes : eqb bad 0 && below n lo epoch ≡ true
      yes = ⊎_elim (λ p. rw (p.0, p.1)) (λ p. rw (p.0, ne_eqb n 0 p.1, lt-ltb lo epoch p.2)) h

      all : zeros (drop n row) ≡ zeros (take (length row - n) (drop n row))
      all = ap zeros (sym (take_all (length row - n) (drop n row) (rw length-drop (omega arith))))

  pub row-ill : (bad ≡ 0 × (n ≡ 0 → ⊥) × epoch ≤ lo) ⊎ (bad ≡ 0 → ⊥) → row_ok lse epoch k row ≡ false
  row-ill h = row-told ∙ ⊎_elim (λ p. rw (p.0, ne_eqb n 0 p.1, le-ltb lo epoch p.2)) (λ n. rw (ne_eqb bad 0 n)) h
