-- Spans and entries are inverse. Definitions: rules/specs/Span.antt; ends_ok: rules/specs/WellFormed.antt.
-- In order: lengths, words, spans of entries, what ends_ok says, entries and words of spans.
-- Assumes nothing.
use mathlib.Core.Path.{◌≡◌, refl}
use mathlib.Core.Bool.{true, ◌&&◌, ◌||◌}
use mathlib.Core.List.{List, [], ◌∷◌, ◌++◌, append_assoc}
use Prim.Native.Nat.{ℕ, ◌+◌, ◌-◌, ◌≤◌}
use native.Mathlib.Omega.{arith}
use lib.ListN.{length, take, drop, length-drop, take-append-drop}
use lib.Seq.{length-take-le, take-append_seam, drop-append_seam}
use lib.Dec.{ltb, leb, eqb}
use borrow.Author.Tests.{leb-true, eqb-true}
use Rattle.lists.proofs.Laws.Bools.{and_left, and_right}
use Rattle.rules.specs.Span.{Span, spans, entries_of, words_of}
use Rattle.rules.specs.WellFormed.{ends_ok}
use Rattle.rules.specs.declared.Entry.{Entry}

-- ---- lengths

pub length-spans : (n : ℕ) (es : List Entry) (ws : List ℕ) → length (spans n es ws) ≡ length es
unfolding spans
length-spans n [] ws = refl
length-spans n (e ∷ es) ws = rw (length-spans e.end es (drop (e.end - n) ws))

pub length-entries_of : (n : ℕ) (ss : List Span) → length (entries_of n ss) ≡ length ss
unfolding entries_of
length-entries_of n [] = refl
length-entries_of n (s ∷ ss) = rw (length-entries_of (n + length s.words) ss)

-- ---- words

pub words_of-append : (ss ts : List Span) → words_of (ss ++ ts) ≡ words_of ss ++ words_of ts
unfolding words_of
words_of-append [] ts = refl
words_of-append (s ∷ ss) ts = rw (append_assoc, ← words_of-append ss ts)

-- ---- spans of entries

pub spans-entries : (n : ℕ) (ss : List Span) → spans n (entries_of n ss) (words_of ss) ≡ ss
unfolding spans entries_of words_of
spans-entries n [] = refl
spans-entries n (s ∷ ss) =
    let d : (n + length s.words) - n ≡ length s.words = omega arith in
    rw (d, take-append_seam, drop-append_seam, spans-entries (n + length s.words) ss)

-- ---- what ends_ok says of a first entry

pub record EndOk (rows n : ℕ) (e : Entry) (es : List Entry) : Type 0 where
  pub low : n ≤ e.end
  pub rises : eqb e.mark 1 || ltb n e.end ≡ true
  pub rest : ends_ok rows e.end es ≡ true

pub end-ok : (rows n : ℕ) (e : Entry) (es : List Entry) → ends_ok rows n (e ∷ es) ≡ true → EndOk rows n e es
unfolding ends_ok
end-ok rows n e es h = let a = leb n e.end in let b = eqb e.mark 1 || ltb n e.end in
    let c = ends_ok rows e.end es in
    let ab = and_left (a && b) c h in
    record { low = leb-true n e.end (and_left a b ab); rises = and_right a b ab; rest = and_right (a && b) c h }

-- no entry begins above the row count
pub ends_ok-le : (rows n : ℕ) (es : List Entry) → ends_ok rows n es ≡ true → n ≤ rows
unfolding ends_ok
ends_ok-le rows n [] h = let g = eqb-true n rows h in omega arith
ends_ok-le rows n (e ∷ es) h = let c = end-ok rows n e es h in let ih = ends_ok-le rows e.end es c.rest in
    omega arith

-- ---- entries and words of spans; a delete whose end lies above the end before it has the rows between

pub entries-spans : (rows n : ℕ) (es : List Entry) (ws : List ℕ) → ends_ok rows n es ≡ true → length ws ≡ rows - n
    → entries_of n (spans n es ws) ≡ es
unfolding spans entries_of
entries-spans rows n [] ws h l = refl
entries-spans rows n (e ∷ es) ws h l =
    let c = end-ok rows n e es h in let g = ends_ok-le rows e.end es c.rest in
    let k : length (take (e.end - n) ws) ≡ e.end - n = length-take-le (e.end - n) ws (omega arith) in
    let d : n + (e.end - n) ≡ e.end = omega arith in
    let ih = entries-spans rows e.end es (drop (e.end - n) ws) c.rest (simp length-drop (omega arith)) in
    rw (k, d, ih)

pub words-spans : (rows n : ℕ) (es : List Entry) (ws : List ℕ) → ends_ok rows n es ≡ true → length ws ≡ rows - n
    → words_of (spans n es ws) ≡ ws
unfolding spans words_of ends_ok
words-spans rows n [] [] h l = refl
words-spans rows n [] (w ∷ ws) h l = let g = eqb-true n rows h in absurd (omega arith)
words-spans rows n (e ∷ es) ws h l =
    let c = end-ok rows n e es h in let g = ends_ok-le rows e.end es c.rest in
    let ih = words-spans rows e.end es (drop (e.end - n) ws) c.rest (simp length-drop (omega arith)) in
    rw ih (take-append-drop (e.end - n) ws)
