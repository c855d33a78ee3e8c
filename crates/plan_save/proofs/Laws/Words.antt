-- The runs that words name, word by word, and how many rows they have. Definitions: specs/Runs.antt.
-- In order: a word more, none; the partitions below p; one partition's words.
-- Assumes nothing.
use mathlib.Core.Path.{◌≡◌, refl, ap}
use mathlib.Core.List.{List, [], ◌∷◌}
use Prim.Native.Nat.{ℕ, zero, suc, ◌+◌, ◌-◌, ◌*◌, ◌≤◌, ◌<◌}
use native.Mathlib.Numerals.{add-one}
use native.Mathlib.Omega.{arith}
use lib.ListN.{length, drop, get_or, length-take}
use borrow.Author.Tests.{lt-ltb, le-ltb}
use Rattle.lists.specs.Lists.{part}
use Rattle.lists.proofs.Laws.Places.{from_next}
use Rattle.rules.specs.Limits.{partitions_max}
use Rattle.rules.specs.Checkpoint.{sum_of}
use Rattle.plan_save.specs.Runs.{Run, from_in, end_in, width_in, runs_in, size_of, runs_max, words_at, counts_of}

abbrev pub run_in : ℕ → Run
run_in w = record { from = from_in w; end = end_in w }

module _ (ws : List ℕ) (i : ℕ) (h : i < length ws) where
  -- a word with rows
  pub runs-next : 1 ≤ width_in (get_or ws i 0) → runs_in (drop i ws)
      ≡ run_in (get_or ws i 0) ∷ runs_in (drop (i + 1) ws)
  unfolding runs_in
  runs-next k = rw (from_next ws 0 i h, lt-ltb (from_in (get_or ws i 0)) (end_in (get_or ws i 0)) (omega arith))

  -- a word without
  pub runs_stop : width_in (get_or ws i 0) ≡ 0 → runs_in (drop i ws) ≡ []
  unfolding runs_in
  runs_stop k = rw (from_next ws 0 i h, le-ltb (from_in (get_or ws i 0)) (end_in (get_or ws i 0)) (omega arith))

  pub size-next : 1 ≤ width_in (get_or ws i 0)
      → size_of (runs_in (drop i ws)) ≡ width_in (get_or ws i 0) + size_of (runs_in (drop (i + 1) ws))
  unfolding size_of
  size-next k = rw (runs-next k)

  pub size_stop : width_in (get_or ws i 0) ≡ 0 → size_of (runs_in (drop i ws)) ≡ 0
  unfolding size_of
  size_stop k = rw (runs_stop k)

pub size_none : size_of (runs_in []) ≡ 0
unfolding size_of runs_in
size_none = refl

pub runs_none : runs_in [] ≡ []
unfolding runs_in
runs_none = refl

-- ---- how many rows partition p has, and how many those below it

abbrev pub size_at : List ℕ → ℕ → ℕ
size_at ws p = size_of (runs_in (words_at ws p))

unfoldable pub size_below : List ℕ → ℕ → ℕ
size_below ws zero = 0
size_below ws (suc p) = size_below ws p + size_of (runs_in (words_at ws p))

pub below_next : (ws : List ℕ) (p : ℕ) → size_below ws (p + 1) ≡ size_below ws p + size_of (runs_in (words_at ws p))
unfolding size_below
below_next ws p = rw add-one

pub below_all : (ws : List ℕ) → size_below ws partitions_max ≡ sum_of (counts_of ws)
unfolding size_below counts_of
below_all ws = omega arith

-- ---- the words of partition p, as the code lends them

pub own-part : (ws : List ℕ) (p : ℕ) → part (runs_max * p) (runs_max * p + runs_max - runs_max * p) ws ≡ words_at ws p
own-part ws p = let n : runs_max * p + runs_max - runs_max * p ≡ runs_max = omega arith in
    ap (λ k. part (runs_max * p) k ws) n

pub own-length : (ws : List ℕ) (p : ℕ) → length (words_at ws p) ≤ runs_max
own-length ws p = omega (arith, length-take runs_max (drop (runs_max * p) ws))
