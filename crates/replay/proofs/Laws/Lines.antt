-- Laws of the lines of a buffer of input. Definitions: specs/Lines.antt, and session_text's line_end.
-- In order: the first line; no line without room; answers fit; how much lines take; the output from an index on; what
-- is left to answer from a byte on, as the code goes.
-- Assumes nothing.
use mathlib.Core.Path.{◌≡◌, refl, sym, ◌∙◌, ap}
use mathlib.Core.Bool.{cond}
use mathlib.Core.List.{List, [], ◌∷◌, ◌++◌}
use Prim.Native.Nat.{ℕ, suc, ◌+◌, ◌-◌, ◌≤◌, ◌<◌}
use native.Mathlib.Omega.{arith}
use lib.Dec.{leb, eqb}
use lib.ListN.{length, take, drop, length-append, length-drop, drop_of_length-le}
use lib.Seq.{drop-drop, length-take-le}
use borrow.Author.Tests.{le-leb, lt-leb, eqb-true, eqb-false, leb-true, leb-false}
use Rattle.lists.specs.Lists.{over}
use Rattle.lists.proofs.Laws.Bools.{split}
use Rattle.lists.proofs.Laws.Parts.{length_over}
use Rattle.rules.specs.Store.{Store}
use Rattle.session_text.specs.Lines.{before_end, line_end}
use Rattle.session_text.proofs.Laws.Lines.{end-past, end-within, end_none, end-here, end_later}
use Rattle.lists.proofs.Laws.Over.{over-nil, over-append, over-tail}
use Rattle.session_line.specs.Session.{after_line, answer_to, after_lines, answers_to}
use Rattle.session_line.specs.Rooms.{numbers_max, answer_max, held_after}
use Rattle.replay.specs.Lines.{on_line, lines_in, bytes_of, answered, replayed, held_lines}
use Rattle.session_line.proofs.Laws.Rooms.{answer-few}
use Rattle.session_line.proofs.Laws.Turn.{tail_all, tail-whole}
use Rattle.replay.proofs.Laws.Line.{Said}

-- ---- the first line: the bytes before the first line end

pub first-line : (bs : List ℕ) → before_end bs < length bs
    → lines_in bs ≡ take (before_end bs) bs ∷ lines_in (drop (suc (before_end bs)) bs)
unfolding lines_in
first-line [] h = absurd (omega arith)
first-line (b ∷ bs) h = split (eqb b 10)
    (λ t. rw (t, end-here b bs (eqb-true b 10 t)))
    (λ f. let e = end_later b bs (eqb-false b 10 f) in rw (f, e, first-line bs (omega (arith, e))))

pub no_line : (bs : List ℕ) → before_end bs ≡ length bs → lines_in bs ≡ []
unfolding lines_in
no_line [] h = refl
no_line (b ∷ bs) h = split (eqb b 10)
    (λ t. absurd (omega (arith, end-here b bs (eqb-true b 10 t))))
    (λ f. rw (f, no_line bs (omega (arith, end_later b bs (eqb-false b 10 f)))))

pub end-le : (bs : List ℕ) → before_end bs ≤ length bs
end-le [] = omega (arith, end_none)
end-le (b ∷ bs) = let ih = end-le bs in split (eqb b 10)
    (λ t. omega (arith, end-here b bs (eqb-true b 10 t))) (λ f. omega (arith, end_later b bs (eqb-false b 10 f)))

-- ---- from byte i of the input on

module _ (input : List ℕ) (i : ℕ) where
  pub lines_none : i ≤ length input → line_end input i ≡ length input → lines_in (drop i input) ≡ []
  lines_none h e = split (leb (length input) i)
      (λ t. rw (drop_of_length-le input {i = i} (leb-true (length input) i t)) (no_line [] end_none))
      (λ f. no_line (drop i input) (omega (
        arith,
        end-within input i (leb-false (length input) i f),
        length-drop i input,
      )))

  pub lines-some : (e : ℕ) → e ≡ line_end input i → i ≤ length input → (e ≡ length input → ⊥)
      → (i ≤ e) × (e < length input) × (lines_in (drop i input)
      ≡ take (e - i) (drop i input) ∷ lines_in (drop (e + 1) input))
  lines-some e p h n =
      let within : i < length input = split (leb (length input) i)
      (λ t. absurd (n (p ∙ sym (end-past input i (leb-true (length input) i t)))))
      (λ f. leb-false (length input) i f) in
      let b = before_end (drop i input) in let at : e ≡ i + b = p ∙ end-within input i within in
      let size = length-drop i input in let le = end-le (drop i input) in
      let lt : b < length (drop i input) = omega arith in
      let d : e - i ≡ b = omega arith in let s : i + suc b ≡ e + 1 = omega arith in
      (omega arith, omega arith, rw (d, ← s, ← drop-drop (suc b) i input) (first-line (drop i input) lt))

-- ---- lines answered

pub answered-full : (room : ℕ) (ls : List (List ℕ)) (st : Store) → room < answer_max → answered room ls st ≡ []
unfolding answered
answered-full room [] st h = refl
answered-full room (l ∷ ls) st h = rw (lt-leb answer_max room h)

pub answered-next : (room : ℕ) (l : List ℕ) (ls : List (List ℕ)) (st : Store) → answer_max ≤ room
    → answered room (l ∷ ls) st ≡ l ∷ answered (room - length (answer_to l st)) ls (after_line l st)
unfolding answered
answered-next room l ls st h = rw (le-leb answer_max room h)

-- the answers have room
answered-fits : (room : ℕ) (ls : List (List ℕ)) (st : Store) → length (answers_to (answered room ls st) st) ≤ room
unfolding answered answers_to
answered-fits room [] st = omega arith
answered-fits room (l ∷ ls) st = let a = answer_to l st in let next = after_line l st in
    let ih = answered-fits (room - length a) ls next in split (leb answer_max room)
    (λ t. rw t (rw (length-append a (answers_to (answered (room - length a) ls next) next))
    (omega (arith, leb-true answer_max room t, answer-few l st))))
    (λ f. rw f (omega arith))

-- ---- how much they take, for callers

pub bytes-append : (ls ms : List (List ℕ)) → bytes_of (ls ++ ms) ≡ bytes_of ls + bytes_of ms
unfolding bytes_of
bytes-append [] ms = omega arith
bytes-append (l ∷ ls) ms = let ih = bytes-append ls ms in omega arith

bytes_on : (b : ℕ) (ls : List (List ℕ)) → bytes_of (on_line b ls) ≤ suc (bytes_of ls)
unfolding bytes_of
bytes_on b [] = omega arith
bytes_on b (l ∷ ls) = omega arith

pub bytes-lines : (bs : List ℕ) → bytes_of (lines_in bs) ≤ length bs
unfolding bytes_of lines_in
bytes-lines [] = omega arith
bytes-lines (b ∷ bs) = let ih = bytes-lines bs in split (eqb b 10) (λ t. rw t (omega arith))
    (λ f. rw f (omega (arith, bytes_on b (lines_in bs))))

bytes-answered : (room : ℕ) (ls : List (List ℕ)) (st : Store) → bytes_of (answered room ls st) ≤ bytes_of ls
unfolding bytes_of answered
bytes-answered room [] st = omega arith
bytes-answered room (l ∷ ls) st = let ih = bytes-answered (room - length (answer_to l st)) ls (after_line l st) in
    split (leb answer_max room) (λ t. rw t (omega arith)) (λ f. rw f (omega arith))

module _ (numbers out input : List ℕ) (st : Store) where
  abbrev room : ℕ
  room = cond (leb numbers_max (length numbers)) (length out) 0

  pub used-within : bytes_of (replayed numbers out input st) ≤ length input
  used-within = omega (arith, bytes-answered room (lines_in input) st, bytes-lines input)

  pub written-within : length (answers_to (replayed numbers out input st) st) ≤ length out
  written-within = let f = answered-fits room (lines_in input) st in split (leb numbers_max (length numbers))
      (λ t. rw t (rw t at f)) (λ n. rw n (let g = rw n at f in omega arith))

-- ---- the part of the output from index w on

module _ (out : List ℕ) (w : ℕ) where
  over-rest : (xs : List ℕ) → w ≤ length out → take w out ++ over 0 xs (drop w out) ≡ over w xs out
  over-rest xs h = sym (tail-whole out w (over 0 xs (drop w out))) ∙ (rw (tail_all out w) at (over-tail w xs out h))

-- ---- what is left to answer from byte i on, at index w of the output

module _ (input start first : List ℕ) (before : Store) where
  abbrev all : List (List ℕ)
  all = replayed start first input before

  abbrev left : List ℕ → Store → ℕ → ℕ → List (List ℕ)
  left out st i w = answered (length out - w) (lines_in (drop i input)) st

  abbrev pub Rest : List ℕ → List ℕ → Store → ℕ → ℕ → Type 0
  Rest numbers out st i w = let ls = left out st i w in
      (after_lines all before ≡ after_lines ls st) × (bytes_of all ≡ i + bytes_of ls)
      × (length (answers_to all before) ≡ w + length (answers_to ls st))
      × (over 0 (answers_to all before) first ≡ over w (answers_to ls st) out)
      × (held_lines all before start ≡ held_lines ls st numbers)

  pub rest-start : numbers_max ≤ length start → Rest start first before 0 0
  rest-start h = let z : length first - 0 ≡ length first = omega arith in
      rw (le-leb numbers_max (length start) h, z) (refl, omega arith, omega arith, refl, refl)

  -- the end: what is answered is what was to be answered
  abbrev pub Done : List ℕ → List ℕ → Store → ℕ → ℕ → Type 0
  Done numbers out st i w = (st ≡ after_lines all before) × ((i ≡ bytes_of all) × ((w ≡ length (answers_to all before))
      × ((out ≡ over 0 (answers_to all before) first) × (numbers ≡ held_lines all before start))))

  pub done-short : length start < numbers_max → Done start first before 0 0
  unfolding after_lines bytes_of answers_to held_lines
  done-short h = rw (lt-leb numbers_max (length start) h, answered-full 0 (lines_in input) before (omega arith))
      (refl, (refl, (refl, (refl, refl))))

  module _ (numbers out : List ℕ) (st : Store) (i w : ℕ) (rest : Rest numbers out st i w) where
    done : left out st i w ≡ [] → Done numbers out st i w
    unfolding after_lines bytes_of answers_to held_lines
    done e = let r = rw e at rest in
        (sym r.0, (omega (arith, r.1), (omega (arith, r.2), (sym (r.3 ∙ over-nil w out), sym r.4))))

    pub done_none : i ≤ length input → line_end input i ≡ length input → Done numbers out st i w
    unfolding answered
    done_none h e = done (rw (lines_none input i h e))

    pub done_full : length out - w < answer_max → Done numbers out st i w
    done_full h = done (answered-full (length out - w) (lines_in (drop i input)) st h)

    -- the line of bytes i to e is answered
    module _ (e : ℕ) (ends : e ≡ line_end input i) (within : i ≤ length input) (some : e ≡ length input → ⊥)
        (room : answer_max ≤ length out - w) where
      abbrev pub line : List ℕ
      line = take (e - i) (drop i input)

      abbrev answer : List ℕ
      answer = answer_to line st

      fits : w + length answer ≤ length out
      fits = omega (arith, answer-few line st, room)

      later : List (List ℕ)
      later = left (over w answer out) (after_line line st) (e + 1) (w + length answer)

      next : left out st i w ≡ line ∷ later
      unfolding later
      next = let less : length (over w answer out) - (w + length answer) ≡ length out - w - length answer =
          omega (arith, length_over w answer out fits) in
          rw (
            (lines-some input i e ends within some).2,
            answered-next (length out - w) line
                (lines_in (drop (e + 1) input)) st room,
            less,
          )

      -- the answers to come have room
      later-fits : length (answers_to later (after_line line st)) ≤ length (over w answer out) - (w + length answer)
      unfolding later
      later-fits = answered-fits (length (over w answer out) - (w + length answer)) (lines_in (drop (e + 1) input))
          (after_line line st)

      rest-next : Rest (held_after line st numbers) (over w answer out) (after_line line st) (e + 1) (w + length answer)
      unfolding after_lines bytes_of answers_to held_lines later
      rest-next = let r = rw next at rest in let rs = answers_to later (after_line line st) in
          let at = lines-some input i e ends within some in
          let size = length-take-le (e - i) (drop i input) (omega (arith, at.0, at.1, length-drop i input)) in (
            r.0,
            omega (arith, r.1, size, at.0),
            omega (arith, r.2, length-append answer rs),
            r.3 ∙ over-append w answer rs out (omega (arith, later-fits, fits, length_over w answer out fits)),
            r.4,
          )

      -- what answering it in the part of the output from w on left
      module _ (o p : List ℕ) (after : Store) (size : ℕ) where
        abbrev pub whole : List ℕ
        whole = take w out ++ o

        pub rest-made : Said line numbers (drop w out) st after size o p
            → Rest p whole after (e + 1) (w + size) × ((w + size ≤ length whole) × (length whole ≡ length out))
        rest-made s = let is-size = s.1.0 in
            let is_whole : whole ≡ over w answer out = rw s.1.1.0 (over-rest out w answer (omega (arith, fits))) in
            let n = ap length is_whole ∙ length_over w answer out fits in
            (rw (s.1.1.1, is_whole, s.0, is-size) rest-next, (omega (arith, n, fits, is-size), n))
