-- Entries taken out one by one are a part of those lent. Definition: specs/Shapes.antt, loaded.
-- In order: so many taken out, as many as there are places.
-- Assumes nothing.
use mathlib.Core.Path.{◌≡◌, refl, ◌∙◌}
use mathlib.Core.List.{List, ◌++◌}
use Prim.Native.Nat.{ℕ, zero, suc, ◌+◌, ◌≤◌}
use native.Mathlib.Omega.{arith}
use lib.ListN.{length, drop, length-drop}
use lib.Seq.{get_or-drop}
use Rattle.lists.specs.Lists.{part}
use Rattle.lists.proofs.Laws.Over.{put_next, copied_all}
use Rattle.rules.specs.declared.Entry.{Entry}
use Rattle.lent.specs.Entries.{none}
use Rattle.lent.specs.Shapes.{loaded}

module _ (zs es : List Entry) (base : ℕ) where
  loaded-to : (n : ℕ) → base + n ≤ length es → n ≤ length zs → loaded zs es base n ≡ part base n es ++ drop n zs
  unfolding loaded
  loaded-to zero h l = refl
  loaded-to (suc n) h l = let d = length-drop base es in
      rw (loaded-to n (omega arith) (omega arith), ← get_or-drop base es n none)
      (put_next (drop base es) zs n none (omega arith) (omega arith))

  pub loaded-part : (n : ℕ) → length zs ≡ n → base + n ≤ length es → loaded zs es base n ≡ part base n es
  loaded-part n l h = loaded-to n h (omega arith) ∙ copied_all (drop base es) zs n l
