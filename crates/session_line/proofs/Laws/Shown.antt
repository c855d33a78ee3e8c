-- Laws of the rows at the ones of a bitmap. Definitions: specs/Shown.antt, and rules' bit_at and words_at_ones.
-- In order: a bit past the end; what is left to write from a row on; an area past the end; the front of the
-- buffer; the line that answers a call.
-- Assumes nothing.
use mathlib.Core.Path.{◌≡◌, refl, sym, ◌∙◌, ap}
use mathlib.Core.Bool.{true, false}
use mathlib.Core.List.{List, [], ◌∷◌}
use Prim.Native.Nat.{ℕ, zero, suc, ◌+◌, ◌-◌, ◌*◌, ◌/◌, ◌%◌, ◌^◌, ◌≤◌, ◌<◌}
use native.Mathlib.Omega.{arith}
use native.Mathlib.Nat.{zero-div}
use native.Mathlib.Numerals.{add-one}
use lib.ListN.{length, take, drop, get_or, set, length-take, length-set, drop_of_length-le}
use lib.ListN.{get_or-eq_default}
use lib.Seq.{drop-cons, take-nil, take-append_seam}
use Rattle.lists.specs.Lists.{over}
use Rattle.lists.proofs.Laws.Parts.{take-pad, get_d-pad, length_over}
use Rattle.rules.specs.Answers.{reply_of, values_max}
use Rattle.rules.specs.Claim.{bit_at, words_at_ones}
use Rattle.rules.specs.Limits.{rows_max}
use Rattle.lists.proofs.Laws.Over.{over-nil, over-cons}
use Rattle.rules.specs.declared.Answer.{Answer}
use Rattle.rules.specs.declared.Command.{Command}
use Rattle.rules.specs.declared.Command.TheVariants.{Scan}
use Rattle.rules.specs.declared.Partitions.{Partitions}
use Rattle.rules.specs.declared.Reader.{Reader}
use Rattle.laws.proofs.Laws.Step.{scan-or}
use Rattle.reply.specs.Reply.{words_of}
use Rattle.reply.specs.declared.ReplyWords.{ReplyWords}
use Rattle.session_text.specs.Lines.{size_in, written_in}
use Rattle.session_text.specs.Grammar.{letter_of}
use Rattle.session_text.specs.Print.{line_of, printed}
use Rattle.area.specs.Load.{partition_in}
use Rattle.session_line.specs.Shown.{shown_words, fitting, shown_in}

pub bit_past : (bytes : List ℕ) (i : ℕ) → length bytes ≤ i / 8 → bit_at bytes i ≡ false
bit_past bytes i h = rw (get_or-eq_default bytes 0 h, zero-div (2 ^ (i % 8)))

-- ---- what is left to write from row i on, at index k of a buffer

take_more : (n x : ℕ) (ys : List ℕ) → 0 < n → take n (x ∷ ys) ≡ x ∷ take (n - 1) ys
take_more zero x ys h = absurd (omega arith)
take_more (suc n) x ys h = let e : suc n - 1 ≡ n = omega arith in rw e

module _ (bytes ws start : List ℕ) where
  abbrev all : List ℕ
  all = fitting (words_at_ones bytes 0 ws) start

  abbrev left : List ℕ → ℕ → ℕ → List ℕ
  left out k i = take (length out - k) (words_at_ones bytes i (drop i ws))

  abbrev pub Rest : List ℕ → ℕ → ℕ → Type 0
  Rest out k i = (length all ≡ k + length (left out k i)) × (over 0 all start ≡ over k (left out k i) out)

  pub rest-start : Rest start 0 0
  rest-start = let z : length start - 0 ≡ length start = omega arith in (rw z (omega arith), rw z)

  pub rest-hidden : (out : List ℕ) (k i : ℕ) → i < length ws → bit_at bytes i ≡ false → Rest out k i
      → Rest out k (i + 1)
  unfolding words_at_ones
  rest-hidden out k i h b r = rw (add-one, ← ones) r
    where
      ones : words_at_ones bytes i (drop i ws) ≡ words_at_ones bytes (suc i) (drop (suc i) ws)
      ones = rw (drop-cons ws i 0 h, b)

  pub rest-shown : (out : List ℕ) (k i : ℕ) → i < length ws → bit_at bytes i ≡ true → k < length out → Rest out k i
      → Rest (set out k (get_or ws i 0)) (k + 1) (i + 1)
  unfolding words_at_ones
  rest-shown out k i h b f r = rw (add-one i, length-set out k (get_or ws i 0)) (
    r.0 ∙ (ap (λ (l : List ℕ). k + length l) rest ∙ omega arith),
    r.1 ∙ (ap (λ (l : List ℕ). over k l out) rest ∙ over-cons k (get_or ws i 0) (take n later) out
        (omega (arith, length-take n later))),
  )
    where
      n : ℕ
      n = length out - (k + 1)

      later : List ℕ
      later = words_at_ones bytes (suc i) (drop (suc i) ws)

      ones : words_at_ones bytes i (drop i ws) ≡ get_or ws i 0 ∷ later
      ones = rw (drop-cons ws i 0 h, b)

      rest : left out k i ≡ get_or ws i 0 ∷ take n later
      rest = let e : length out - k - 1 ≡ n = omega arith in
          rw (ones, take_more (length out - k) (get_or ws i 0) later (omega arith), e)

  -- the end: no row, or no room
  rest-done : (out : List ℕ) (k i : ℕ) → left out k i ≡ [] → Rest out k i → (k ≡ length all)
      × (out ≡ over 0 all start)
  rest-done out k i e r = (sym (rw e at r.0 ∙ omega arith), sym (rw e at r.1 ∙ over-nil k out))

  pub rest-none : (out : List ℕ) (k i : ℕ) → length ws ≤ i → Rest out k i → (k ≡ length all)
      × (out ≡ over 0 all start)
  unfolding words_at_ones
  rest-none out k i h = rest-done out k i (rw (drop_of_length-le ws {i = i} h) (take-nil (length out - k)))

  pub rest-full : (out : List ℕ) (k i : ℕ) → length out ≤ k → Rest out k i → (k ≡ length all)
      × (out ≡ over 0 all start)
  rest-full out k i h = let z : length out - k ≡ 0 = omega arith in rest-done out k i (rw z)

-- ---- the rows of an area

pub shown-past : (bitmap out rows : List ℕ) (a n : ℕ) → length rows / rows_max < a
    → (0 ≡ length (fitting (shown_words bitmap a n rows) out))
    × (out ≡ over 0 (fitting (shown_words bitmap a n rows) out) out)
unfolding words_at_ones
shown-past bitmap out rows a n h = let e = drop_of_length-le rows {i = rows_max * a} (omega arith) in
    rw (e, take-nil rows_max, take-nil n, take-nil (length out)) (refl, refl)

-- ---- the rows at the front of the buffer are those that have room

module _ (ws buffer now : List ℕ) (n : ℕ) (counts : n ≡ length (fitting ws buffer))
    (shows : now ≡ over 0 (fitting ws buffer) buffer) where
  pub front-end : n ≤ length now
  front-end = let f = length-take (length buffer) ws in
      rw (shows, counts, length_over 0 (fitting ws buffer) buffer (omega arith)) (omega arith)

  pub front-shown : take n now ≡ fitting ws buffer
  front-shown = rw (shows, counts) (take-append_seam (fitting ws buffer)
      (drop (0 + length (fitting ws buffer)) buffer))

-- ---- the line that answers a call, by whether it is a scan

no-scan : (c : Command) (a : Answer) (ps : Partitions) (bitmap rows ws : List ℕ)
    → ((r : Reader) (p : ℕ) → c ≡ Scan r p → ⊥)
    → (line_of (letter_of c) (reply_of a).number (reply_of a).values ≡ printed c a ws)
    × (shown_in c a ps bitmap rows ≡ [])
unfolding printed
no-scan c a ps bitmap rows ws = scan-or
    (λ c. ((r : Reader) (p : ℕ) → c ≡ Scan r p → ⊥)
    → (line_of (letter_of c) (reply_of a).number (reply_of a).values ≡ printed c a ws)
    × (shown_in c a ps bitmap rows ≡ []))
    (λ r p h. absurd (h r p refl)) (λ c n h. (rw (n _ _ _), n _ _ _)) c

module _ (c : Command) (a : Answer) (ps : Partitions) (bitmap rows buffer out : List ℕ) (letter : ℕ) (w : ReplyWords)
    (is-letter : letter ≡ letter_of c) (is-reply : w ≡ words_of (reply_of a)) (size : ℕ) (o : List ℕ) where
  abbrev shown : List ℕ
  shown = shown_in c a ps bitmap rows

  -- how many bytes, the output and the buffer at the end
  abbrev Printed : List ℕ → Type 0
  Printed v = (size ≡ size_in (printed c a (fitting shown buffer)) out)
      × ((o ≡ written_in (printed c a (fitting shown buffer)) out) × (v ≡ over 0 (fitting shown buffer) buffer))

  module _ (vs : List ℕ) (sizes : size ≡ size_in (line_of letter w.number vs) out)
      (writes : o ≡ written_in (line_of letter w.number vs) out) where
    line-printed : (v : List ℕ) → line_of letter w.number vs ≡ printed c a (fitting shown buffer)
        → v ≡ over 0 (fitting shown buffer) buffer → Printed v
    line-printed v l e = (
      sizes ∙ ap (λ (l : List ℕ). size_in l out) l,
      (writes ∙ ap (λ (l : List ℕ). written_in l out) l, e),
    )

    pub scan-printed : (r : Reader) (p at n : ℕ) (v : List ℕ) → c ≡ Scan r p → at ≡ (partition_in ps p).area
        → vs ≡ take n v
        → let ws = fitting (shown_words bitmap at (get_or w.values 0 0) rows) buffer in
        n ≡ length ws → v ≡ over 0 ws buffer → Printed v
    unfolding printed
    scan-printed r p at n v is is_at is_front counts shows =
        let ws = shown_words bitmap at (get_or w.values 0 0) rows in
        let f = front-shown ws buffer v n counts shows in
        let g : ws ≡ shown = rw (is, is_at, is-reply, get_d-pad values_max 0 (reply_of a).values 0) in
        line-printed v (rw (is_front, f, g, is-letter, is-reply, is)) (rw g at shows)

    pub other-printed : ((r : Reader) (p : ℕ) → c ≡ Scan r p → ⊥) → vs ≡ take w.count w.values
        → Printed buffer
    other-printed h is_front = let e = no-scan c a ps bitmap rows (fitting shown buffer) h in
        line-printed buffer (rw (is_front, is-reply, take-pad values_max 0 (reply_of a).values, is-letter) e.0)
        (rw (e.1, take-nil (length buffer)))
