-- Which partitions are whole, of those that the pass went over: a page at `low` or later is shown all their rows.
-- Definitions: specs/Rest.antt.
-- Assumes nothing.
use mathlib.Core.Path.{◌≡◌, refl, sym, ◌∙◌}
use mathlib.Core.Bool.{Bool, true, false}
use mathlib.Core.List.{List}
use Prim.Native.Nat.{ℕ, zero, suc, ◌*◌, ◌≤◌, ◌<◌}
use native.Mathlib.Omega.{arith}
use lib.ListN.{length, get_or, length-set, length-replicate}
use lib.Seq.{get_or-set_same, get_or-set_other}
use Rattle.lists.specs.Lists.{part}
use Rattle.lists.proofs.Laws.All.{All}
use Rattle.lists.proofs.Laws.Bools.{split-eq}
use Rattle.rules.specs.Limits.{entries_max, partitions_max}
use Rattle.rules.specs.declared.Entry.{Entry}
use Rattle.area.specs.Load.{partition_in}
use Rattle.totals.proofs.Laws.Lot.{SeenRows}
use Rattle.partition_sound.specs.Asked.{rest_asked}
use Rattle.partition_sound.specs.Rest.{low_of, is_whole, landed_at, last_at, landed_below}
use Rattle.partition_sound.specs.declared.Asked.{Asked}
use Rattle.partition_sound.proofs.Laws.Rest.{under_next, whole-all, rest-well}

module _ (es : List Entry) (rows : List ℕ) (a : Asked) where
  whole_length : (k : ℕ) → length (landed_below es rows a k).whole ≡ partitions_max
  unfolding landed_below landed_at
  whole_length zero = length-replicate {A = Bool} partitions_max false
  whole_length (suc k) = length-set (landed_below es rows a k).whole k _ ∙ whole_length k

  whole_below : (k : ℕ) → k ≤ partitions_max → (p : ℕ) → p < k
      → get_or (landed_below es rows a k).whole p false ≡ is_whole (last_at es rows a (partition_in a.partitions p))
  unfolding landed_below landed_at
  whole_below zero h p l = absurd (omega arith)
  whole_below (suc k) h p l = let ws = (landed_below es rows a k).whole in let n = whole_length k in
      let ih = whole_below k (omega arith) p in split-eq p k
      (λ e. rw e (get_or-set_same ws k _ false (omega arith)))
      (λ ne. get_or-set_other ws k p _ false ne ∙ ih (under_next p k l ne))

  pub low-found : (k : ℕ) → (landed_below es rows a k).low ≡ low_of a
  unfolding landed_below landed_at
  low-found zero = refl
  low-found (suc k) = low-found k

  -- of those a page at low is shown all rows
  pub rest-whole : length a.partitions.at ≡ partitions_max → rest_asked es rows a ≡ true → (p : ℕ) → p < partitions_max
      → get_or (landed_below es rows a partitions_max).whole p false ≡ true
      → let q = partition_in a.partitions p in All (SeenRows (low_of a)) (part (entries_max * q.area) q.entries es)
  rest-whole eight t p k h = let f = rest-well es rows a eight t p k in
      whole-all es rows a f.0 f.1 (partition_in a.partitions p) f.2 f.3
      (sym (whole_below partitions_max (omega arith) p k) ∙ h)
