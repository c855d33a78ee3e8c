-- Laws of what is kept of a line that is yet to come. Definition: specs/Lines.antt's kept.
-- In order: nothing; no more than there is; how much; the bytes copied to the front.
-- Assumes nothing.
use mathlib.Core.Path.{◌≡◌, refl, sym, ◌∙◌, ap}
use mathlib.Core.List.{List, []}
use Prim.Native.Nat.{ℕ, min, ◌+◌, ◌-◌, ◌≤◌, ◌<◌}
use native.Mathlib.Omega.{arith}
use lib.ListN.{length, take, drop, length-take, length-drop, drop_of_length-le}
use lib.Seq.{take-nil, length-take-le}
use Rattle.std.specs.List.{copy_within}
use Rattle.lists.specs.Lists.{over}
use Rattle.lists.proofs.Laws.Parts.{part-least}
use Rattle.session_line.specs.Rest.{kept_max, kept}

module _ (buffer : List ℕ) (from to : ℕ) where
  none : kept buffer from to ≡ [] → (0 ≡ length (kept buffer from to))
      × (buffer ≡ over 0 (kept buffer from to) buffer)
  none e = rw e (refl, refl)

  pub kept-before : to < from → (0 ≡ length (kept buffer from to)) × (buffer ≡ over 0 (kept buffer from to) buffer)
  kept-before h = let z : to - from ≡ 0 = omega arith in none (rw (z, take-nil kept_max))

  pub kept-past : length buffer < from → (0 ≡ length (kept buffer from to))
      × (buffer ≡ over 0 (kept buffer from to) buffer)
  kept-past h = none (rw (drop_of_length-le buffer {i = from} (omega arith), take-nil (to - from), take-nil kept_max))

  pub kept-within : length (kept buffer from to) ≤ length buffer
  kept-within = omega (
    arith,
    length-take kept_max (take (to - from) (drop from buffer)),
    length-take (to - from) (drop from buffer),
    length-drop from buffer,
  )

  -- n bytes, as the code counts them
  pub kept-count : (n : ℕ) → n ≡ min (min kept_max (to - from)) (length buffer - from) → take n (drop from buffer)
      ≡ kept buffer from to
  kept-count n e = part-least from (to - from) kept_max n buffer e

  -- copied to the front
  pub kept-copied : (n : ℕ) (now : List ℕ) → n ≡ min (min kept_max (to - from)) (length buffer - from)
      → now ≡ copy_within buffer from (from + n) 0
      → (n ≡ length (kept buffer from to)) × (now ≡ over 0 (kept buffer from to) buffer)
  kept-copied n now e p = let k = kept-count n e in let z : from + n - from ≡ n = omega arith in
      let size : n ≡ length (kept buffer from to) =
      sym (length-take-le n (drop from buffer) (omega (arith, length-drop from buffer))) ∙ ap length k in
      (size, rw (← size, ← k) (rw z at p))
