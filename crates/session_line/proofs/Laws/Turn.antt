-- Laws of a line in its buffers. Definitions: specs/Turn.antt.
-- In order: the rows of an append; the part of the output from an index on, and what fits there.
-- Assumes nothing.
use mathlib.Core.Path.{◌≡◌, sym, ◌∙◌, ap}
use mathlib.Core.List.{List, ◌++◌, append-nil}
use Prim.Native.Nat.{ℕ, ◌+◌, ◌-◌, ◌≤◌, ◌<◌, min}
use native.Mathlib.Omega.{arith}
use lib.Dec.{leb}
use lib.ListN.{length, take, drop, length-drop, drop_of_length-le}
use lib.Seq.{take_all}
use borrow.Author.Tests.{leb-true, leb-false}
use Rattle.lists.specs.Lists.{part}
use Rattle.lists.proofs.Laws.Bools.{split}
use Rattle.session_text.specs.Lines.{size_in}

-- ---- the rows of an append

cut-least : (r m : ℕ) (l : List ℕ) → m ≡ min r (length l) → take m l ≡ take r l
cut-least r m l e = split (leb r (length l))
    (λ t. let h = leb-true r (length l) t in let q : m ≡ r = omega arith in rw q)
    (λ f. let h = leb-false r (length l) f in take_all m l (omega arith) ∙ sym (take_all r l (omega arith)))

pub batch-part : (l : List ℕ) (r from m : ℕ) → from ≡ min 2 (length l) → m ≡ min r (length l - from)
    → take (from + m - from) (drop from l) ≡ part 2 r l
batch-part l r from m e h = let k : from + m - from ≡ m = omega arith in
    let n : length (drop from l) ≡ length l - from = length-drop from l in
    let cut = cut-least r m (drop from l) (h ∙ ap (min r) (sym n)) in split (leb 2 (length l))
    (λ t. let two : from ≡ 2 = e ∙ at_least (length l) (leb-true 2 (length l) t) in rw k (cut ∙ rw two))
    (λ f. let short = leb-false 2 (length l) f in
    let all : from ≡ length l = e ∙ at_most (length l) short in
    rw k (cut ∙ rw (
      all,
      drop_of_length-le l {i = length l} (omega arith),
      drop_of_length-le l {i = 2} (omega arith),
    )))
  where
    at_least : (n : ℕ) → 2 ≤ n → min 2 n ≡ 2
    at_least n h = omega arith

    at_most : (n : ℕ) → n < 2 → min 2 n ≡ n
    at_most n h = omega arith

-- ---- the part of the output from index w on

module _ (out : List ℕ) (w : ℕ) where
  pub tail_all : take (length out - w) (drop w out) ≡ drop w out
  tail_all = take_all (length out - w) (drop w out) (omega (arith, length-drop w out))

  pub tail-whole : (o : List ℕ) → take w out ++ (o ++ drop (length out - w) (drop w out)) ≡ take w out ++ o
  tail-whole o = rw (
    drop_of_length-le (drop w out) {i = length out - w} (omega (arith, length-drop w out)),
    append-nil o,
  )

pub size_fits : (said out : List ℕ) (w size : ℕ) → size ≡ size_in said (take (length out - w) (drop w out))
    → size ≤ length out - w
size_fits said out w size e = let l = take (length out - w) (drop w out) in
    let n : length l ≡ length out - w = rw (tail_all out w) (length-drop w out) in
    split (leb (length said) (length l))
    (λ t. omega (arith, rw t at e, leb-true (length said) (length l) t, n))
    (λ f. omega (arith, rw f at e))
