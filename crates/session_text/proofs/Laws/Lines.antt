-- Laws of a line in a buffer. Definitions: specs/Lines.antt, specs/Print.antt.
-- In order: whether it has room, its length, its parts written in order, line ends.
-- Assumes nothing.
use mathlib.Core.Path.{◌≡◌, refl, sym, ◌∙◌}
use mathlib.Core.List.{List, [], ◌∷◌, ◌++◌}
use Prim.Native.Nat.{ℕ, suc, ◌+◌, ◌≤◌, ◌<◌}
use native.Mathlib.Omega.{arith}
use lib.ListN.{length, drop, set, length-append, length-set}
use borrow.Author.Tests.{le-leb, lt-leb, lt-ltb, le-ltb, ne_eqb, eqb-true, eqb-false, ltb-false}
use Rattle.std.specs.Prelude.{position, eqb, ltb, not, Bool}
use Rattle.std.specs.List.{position_or_len}
use Rattle.std.proofs.lemmas.List.Recursion.{is_position_or_len}
use Rattle.std.proofs.lemmas.List.Sums.{prefix_len-le-length}
use Rattle.std.specs.Option.{unwrap_or}
use Rattle.lists.specs.Lists.{over, gather}
use Rattle.lists.proofs.Laws.Bools.{split}
use Rattle.lists.proofs.Laws.Parts.{length_over}
use Rattle.session_text.specs.Print.{spaced, line_of}
use Rattle.session_text.specs.Lines.{size_in, written_in, before_end, line_end}
use Rattle.lists.proofs.Laws.Over.{over-one, over-cons, over-append}

pub no_room : (line out : List ℕ) → length out < length line → (0 ≡ size_in line out) × (out ≡ written_in line out)
no_room line out h = let e = lt-leb (length line) (length out) h in (rw e, rw e)

pub room : (line out : List ℕ) (n : ℕ) (w : List ℕ) → length line ≤ length out → n ≡ length line → w ≡ over 0 line out
    → (n ≡ size_in line out) × (w ≡ written_in line out)
room line out n w h p q = let e = le-leb (length line) (length out) h in (rw e p, rw e q)

-- ---- the parts of a line

module _ (letter n : ℕ) (vs : List ℕ) where
  pub length-line : length (line_of letter n vs) ≡ length (spaced n) + length (gather spaced vs) + 2
  length-line = simp length-append (omega arith)

  pub over-line : (out : List ℕ) → length (line_of letter n vs) ≤ length out
      → over 0 (line_of letter n vs) out
      ≡ set (over (1 + length (spaced n)) (gather spaced vs) (over 1 (spaced n) (set out 0 letter)))
      (1 + length (spaced n) + length (gather spaced vs)) 10
  over-line out h = let k = 1 + length (spaced n) in let g = gather spaced vs in let o = set out 0 letter in
      let all = length-line in let same = length-set out 0 letter in
      let first : 1 + length (spaced n) ≤ length o = omega arith in
      let second : k + length g ≤ length (over 1 (spaced n) o) = omega (arith, length_over 1 (spaced n) o first) in
      let third : k + length g < length (over k g (over 1 (spaced n) o)) =
      omega (arith, length_over 1 (spaced n) o first, length_over k g (over 1 (spaced n) o) second) in
      over-cons 0 letter (spaced n ++ (g ++ (10 ∷ []))) out (omega arith)
      ∙ (over-append 1 (spaced n) (g ++ (10 ∷ [])) o (simp length-append (omega arith))
      ∙ (over-append k g (10 ∷ []) (over 1 (spaced n) o) (omega (arith, length_over 1 (spaced n) o first))
      ∙ over-one (k + length g) 10 (over k g (over 1 (spaced n) o)) third))

  -- the letter, then what writing the number and the values left, then the line's end
  pub parts-line : (out o o' : List ℕ) (at at' : ℕ) → length (line_of letter n vs) ≤ length out
      → at ≡ 1 + length (spaced n) → o ≡ over 1 (spaced n) (set out 0 letter)
      → at' ≡ at + length (gather spaced vs) → o' ≡ over at (gather spaced vs) o
      → (at' + 1 ≡ length (line_of letter n vs)) × (set o' at' 10 ≡ over 0 (line_of letter n vs) out)
  parts-line out o o' at at' h p q p' q' =
      (omega (arith, length-line), rw (p', q', p, q) (sym (over-line out h)))

-- ---- line ends

pub end-past : (input : List ℕ) (from : ℕ) → length input ≤ from → length input ≡ line_end input from
unfolding line_end
end-past input from h = rw (le-ltb from (length input) h)

pub end-within : (input : List ℕ) (from : ℕ) → from < length input
    → line_end input from ≡ from + before_end (drop from input)
unfolding line_end
end-within input from h = rw (lt-ltb from (length input) h)

pub end_none : before_end [] ≡ 0
unfolding before_end
end_none = refl

pub end-here : (b : ℕ) (bs : List ℕ) → b ≡ 10 → before_end (b ∷ bs) ≡ 0
unfolding before_end
end-here b bs e = rw e

pub end_later : (b : ℕ) (bs : List ℕ) → (b ≡ 10 → ⊥) → before_end (b ∷ bs) ≡ suc (before_end bs)
unfolding before_end
end_later b bs n = rw (ne_eqb b 10 n)

-- counted as `position` does
before-prefix : (bs : List ℕ) → before_end bs ≡ position_or_len (λ (b : ℕ). eqb b 10) bs
before-prefix = is_position_or_len before_end (λ (b : ℕ). eqb b 10) end_none
    (λ b bs. split (eqb b 10) (λ t. rw t (end-here b bs (eqb-true b 10 t)))
    (λ f. rw f (end_later b bs (eqb-false b 10 f) ∙ omega arith)))

pub end-position : (bs : List ℕ) → before_end bs ≡ unwrap_or (position (λ (b : ℕ). eqb b 10) bs) (length bs)
end-position bs = let p : ℕ → Bool = λ b. eqb b 10 in let n = position_or_len p bs in
    before-prefix bs ∙ split (ltb n (length bs)) (λ t. rw t)
    (λ f. rw f (omega (arith, ltb-false n (length bs) f, prefix_len-le-length (λ (b : ℕ). not (eqb b 10)) bs)))
