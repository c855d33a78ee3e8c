-- Entries saved one by one, as one write: those in use lie one behind the other, and the places of the others are
-- past the end. Definition: specs/Shapes.antt, saved.
-- In order: the length, a place past the end, no entry in use, so many in use.
-- Assumes nothing.
use mathlib.Core.Path.{◌≡◌, refl, ◌∙◌}
use mathlib.Core.List.{List, append_assoc}
use Prim.Native.Nat.{ℕ, zero, suc, ◌+◌, ◌-◌, ◌≤◌, ◌<◌}
use native.Mathlib.Omega.{arith}
use lib.ListN.{length, get_or, take, drop, length-set}
use lib.Seq.{set_out, length-take-le, paste, paste-zero, paste-suc}
use Rattle.lists.specs.Lists.{over}
use Rattle.rules.specs.declared.Entry.{Entry}
use Rattle.lent.specs.Entries.{none}
use Rattle.lent.specs.Shapes.{saved}

module _ {P : Type 0} (pl : P → ℕ → ℕ) (ar : P → List Entry) (es : List Entry) (p : P) where
  pub saved-length : (n : ℕ) → length (saved pl ar es p n) ≡ length es
  unfolding saved
  saved-length zero = refl
  saved-length (suc n) = length-set (saved pl ar es p n) (pl p n) (get_or (ar p) n none) ∙ saved-length n

  saved-past : (n : ℕ) → length es ≤ pl p n → saved pl ar es p (suc n) ≡ saved pl ar es p n
  unfolding saved
  saved-past n h = let l = saved-length n in
      set_out (saved pl ar es p n) (pl p n) (get_or (ar p) n none) (omega arith)

  pub saved-none : ((i : ℕ) → length es ≤ pl p i) → (n : ℕ) → saved pl ar es p n ≡ es
  unfolding saved
  saved-none f zero = refl
  saved-none f (suc n) = saved-past n (f n) ∙ saved-none f n

  -- the first count entries are in use, and lie from base on
  module _ (base count : ℕ) (room : base + count ≤ length es) (long : count ≤ length (ar p))
      (inside : (i : ℕ) → i < count → pl p i ≡ base + i) (beyond : (i : ℕ) → count ≤ i → length es ≤ pl p i) where
    saved-used : (n : ℕ) → n ≤ count → saved pl ar es p n ≡ paste es base (ar p) n
    unfolding saved
    saved-used zero h = paste-zero es base (ar p)
    saved-used (suc n) h = rw (saved-used n (omega arith), inside n h)
        (paste-suc es base (ar p) n none (omega arith) (omega arith))

    saved-beyond : (k : ℕ) → saved pl ar es p (count + k) ≡ saved pl ar es p count
    saved-beyond zero = let z : count + 0 ≡ count = omega arith in rw z
    saved-beyond (suc k) = let z : count + suc k ≡ suc (count + k) = omega arith in
        rw z (saved-past (count + k) (beyond (count + k) (omega arith)) ∙ saved-beyond k)

    pub saved-over : (n : ℕ) → count ≤ n → saved pl ar es p n ≡ over base (take count (ar p)) es
    saved-over n h = let z : n ≡ count + (n - count) = omega arith in
        rw (z, length-take-le count (ar p) long) (saved-beyond (n - count) ∙ (saved-used count (omega arith)
        ∙ append_assoc (take base es) (take count (ar p)) (drop (base + count) es)))
