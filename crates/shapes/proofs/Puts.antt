-- A loop that puts the entries of a plan's area among those lent, one by one, each at its place or past the end.
-- Definition: lent's specs/Shapes.antt, saved (laws: lent's proofs/Saved.antt). In order: before the first, one more.
-- Assumes nothing.
use Rattle.std.proofs.Common.{◌≡◌, ℕ, ◌+◌, List, get_or, set, refl, add-one}
use Rattle.rules.specs.declared.Entry.{Entry}
use Rattle.lent.specs.Entries.{none}
use Rattle.lent.specs.Shapes.{saved}

module _ {P : Type 0} (place : P → ℕ → ℕ) (area : P → List Entry) (es : List Entry) (w : P) where
  pub put_start : saved place area es w 0 ≡ es
  unfolding saved
  put_start = refl

  pub put_next : (i : ℕ)
      → saved place area es w (i + 1) ≡ set (saved place area es w i) (place w i) (get_or (area w) i none)
  unfolding saved
  put_next i = rw (add-one i) refl
