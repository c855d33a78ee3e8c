-- Output in flushes has the answers of all lines: what is answered while there is room, and then the lines of what is
-- left. Definitions: specs/Lines.antt.
-- In order: the lines after some lines; the lines answered are the first; all lines in two parts.
-- Assumes nothing.
use mathlib.Core.Path.{◌≡◌, refl, sym, ◌∙◌, ap}
use mathlib.Core.Bool.{cond}
use mathlib.Core.List.{List, [], ◌∷◌, ◌++◌}
use Prim.Native.Nat.{ℕ, suc, ◌+◌, ◌-◌, ◌≤◌}
use native.Mathlib.Omega.{arith}
use lib.Dec.{leb, ltb}
use lib.ListN.{length, drop}
use lib.Seq.{length-take-le, drop-drop}
use borrow.Author.Tests.{ltb-true, ltb-false, le-leb}
use Rattle.lists.proofs.Laws.Bools.{split}
use Rattle.rules.specs.Store.{Store}
use Rattle.session_text.specs.Lines.{before_end}
use Rattle.session_line.specs.Session.{after_line, answer_to, after_lines, answers_to}
use Rattle.replay.specs.Lines.{lines_in, bytes_of, answered, replayed}
use Rattle.session_line.specs.Rooms.{numbers_max, answer_max}
use Rattle.session_line.proofs.Laws.Session.{after-append, answers-append}
use Rattle.replay.proofs.Laws.Lines.{first-line, no_line, end-le, answered-next, bytes-append}

first-drop : (bs m : List ℕ) (rest : List (List ℕ)) → lines_in bs ≡ m ∷ rest → lines_in (drop (length m + 1) bs) ≡ rest
first-drop bs m rest h = split (ltb (before_end bs) (length bs))
    (λ t. let l = ltb-true (before_end bs) (length bs) t in let f = sym (first-line bs l) ∙ h in
    let size : length m ≡ before_end bs = sym (ap (first_length) f)
    ∙ length-take-le (before_end bs) bs (omega arith) in
    let e : length m + 1 ≡ suc (before_end bs) = omega arith in rw e (ap others f))
    (λ f. let e : before_end bs ≡ length bs = omega (arith, end-le bs, ltb-false (before_end bs) (length bs) f) in
    absurd (omega (arith, ap length (sym (no_line bs e) ∙ h))))
  where
    first_length : List (List ℕ) → ℕ
    first_length [] = 0
    first_length (l ∷ ls) = length l

    others : List (List ℕ) → List (List ℕ)
    others [] = []
    others (l ∷ ls) = ls

lines-drop : (ms ns : List (List ℕ)) (bs : List ℕ) → lines_in bs ≡ ms ++ ns → lines_in (drop (bytes_of ms) bs) ≡ ns
unfolding bytes_of
lines-drop [] ns bs h = h
lines-drop (m ∷ ms) ns bs h =
    ap lines_in (sym (drop-drop (bytes_of ms) (length m + 1) bs))
    ∙ lines-drop ms ns (drop (length m + 1) bs) (first-drop bs m (ms ++ ns) h)

answered-front : (room : ℕ) (ls : List (List ℕ)) (st : Store)
    → ls ≡ answered room ls st ++ drop (length (answered room ls st)) ls
unfolding answered
answered-front room [] st = refl
answered-front room (l ∷ ls) st = let ih = answered-front (room - length (answer_to l st)) ls (after_line l st) in
    split (leb answer_max room) (λ t. rw t (ap (λ (ms : List (List ℕ)). l ∷ ms) ih)) (λ f. rw f)

some_bytes : (m : List ℕ) (ms : List (List ℕ)) → bytes_of (m ∷ ms) ≡ 0 → ⊥
unfolding bytes_of
some_bytes m ms h = omega arith

module _ (numbers out bs : List ℕ) (st : Store) where
  abbrev ls : List (List ℕ)
  ls = replayed numbers out bs st

  lines-parts : lines_in bs ≡ ls ++ lines_in (drop (bytes_of ls) bs)
  lines-parts = let f = answered-front (cond (leb numbers_max (length numbers)) (length out) 0) (lines_in bs) st in
      f ∙ ap (λ (ms : List (List ℕ)). ls ++ ms) (sym (lines-drop ls (drop (length ls) (lines_in bs)) bs f))

  pub flush-after : after_lines (lines_in bs) st ≡ after_lines (lines_in (drop (bytes_of ls) bs)) (after_lines ls st)
  flush-after = ap (λ (ms : List (List ℕ)). after_lines ms st) lines-parts
      ∙ after-append ls (lines_in (drop (bytes_of ls) bs)) st

  pub flush-answers : answers_to (lines_in bs) st ≡ answers_to ls st
      ++ answers_to (lines_in (drop (bytes_of ls) bs)) (after_lines ls st)
  flush-answers = ap (λ (ms : List (List ℕ)). answers_to ms st) lines-parts
      ∙ answers-append ls (lines_in (drop (bytes_of ls) bs)) st

  pub flush-bytes : bytes_of (lines_in bs) ≡ bytes_of ls + bytes_of (lines_in (drop (bytes_of ls) bs))
  flush-bytes = ap bytes_of lines-parts ∙ bytes-append ls (lines_in (drop (bytes_of ls) bs))

  -- with room, only where there is no line is none answered
  pub flush-none : numbers_max ≤ length numbers → answer_max ≤ length out → bytes_of ls ≡ 0 → lines_in bs ≡ []
  flush-none h g z = none (lines_in bs) (rw (le-leb numbers_max (length numbers) h) at z)
    where
      none : (ms : List (List ℕ)) → bytes_of (answered (length out) ms st) ≡ 0 → ms ≡ []
      none [] e = refl
      none (m ∷ ms) e = absurd (some_bytes m (answered (length out - length (answer_to m st)) ms (after_line m st))
          (rw (answered-next (length out) m ms st g) at e))
