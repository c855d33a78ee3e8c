-- What turns over entries by their indexes hold is what a fold over that part of them does.
-- Definition: specs/Shapes.antt, turned.
-- Assumes nothing.
use mathlib.Core.Path.{◌≡◌, refl, sym, ap, ◌∙◌}
use mathlib.Core.List.{List, [], ◌∷◌, ◌++◌, foldl, foldl-append}
use Prim.Native.Nat.{ℕ, zero, suc, ◌+◌, ◌≤◌, ◌<◌}
use native.Mathlib.Omega.{arith}
use lib.ListN.{length, take, drop, get_or, length-drop}
use lib.Seq.{take-suc, get_or-drop}
use Rattle.lists.specs.Lists.{part}
use Rattle.rules.specs.declared.Entry.{Entry}
use Rattle.lent.specs.Entries.{none}
use Rattle.lent.specs.Shapes.{turned}

module _ {X : Type 0} (f : X → Entry → X) (a : X) (es : List Entry) where
  pub turned-part : (i n : ℕ) → i + n ≤ length es → turned f a es i n ≡ foldl f a (part i n es)
  unfolding turned
  turned-part i zero h = refl
  turned-part i (suc n) h =
      let l : n < length (drop i es) = omega (arith, length-drop i es, h) in
      let g : part i (suc n) es ≡ part i n es ++ (get_or es (i + n) none ∷ []) =
      take-suc (drop i es) n none l ∙ ap (λ e. take n (drop i es) ++ (e ∷ [])) (get_or-drop i es n none) in
      ap (λ z. f z (get_or es (i + n) none)) (turned-part i n (omega (arith, h)))
      ∙ sym (ap (foldl f a) g ∙ foldl-append f a (part i n es) (get_or es (i + n) none ∷ []))
