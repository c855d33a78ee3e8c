-- Rows copied entry by entry. Definitions: specs/Copied.antt.
-- In order: two areas apart; the words of a first entry; Copied, the rows of the entries up to an index.
-- Assumes nothing.
use mathlib.Core.Path.{◌≡◌, refl, sym, ap, ◌∙◌}
use mathlib.Core.Bool.{true, ◌&&◌, ◌||◌, cond}
use mathlib.Core.Logic.{◌⊎◌, inl, inr, ⊎_elim}
use mathlib.Core.List.{List, [], ◌∷◌, ◌++◌, append_assoc, append-nil}
use Prim.Native.Nat.{ℕ, ◌+◌, ◌-◌, ◌≤◌, ◌<◌}
use native.Mathlib.Omega.{arith}
use lib.Dec.{leb, eqb}
use lib.ListN.{length, take, drop, get_or, length-append, length-drop}
use Rattle.std.proofs.lemmas.List.{drop_more, drop_all}
use lib.Seq.{drop-drop, length-take-le}
use borrow.Author.Tests.{leb-true, le-leb, lt-leb}
use Rattle.lists.specs.Lists.{part, over}
use Rattle.lists.proofs.Laws.Bools.{split, and_left, and_right, or_cases}
use Rattle.lists.proofs.Laws.Over.{over-nil, over-append, part_apart, part-part}
use Rattle.lists.proofs.Laws.Parts.{length_part}
use Rattle.rules.specs.Limits.{rows_max}
use Rattle.rules.specs.Span.{spans, words_of}
use Rattle.rules.specs.declared.Entry.{Entry}
use Rattle.lent.specs.Entries.{none}
use Rattle.rewrite.specs.Kept.{kept, ends_fit}
use Rattle.rewrite.specs.Copied.{kept_words, areas_apart}
use Rattle.rewrite.proofs.Laws.Ends.{end_low, ends-rest, ends-high}
use Rattle.rewrite.proofs.Laws.Kept.{kept-nil}

-- ---- two areas apart

module _ (from to n : ℕ) where
  module _ (l : rows_max ≤ n) (f : from ≤ n - rows_max) (t : to ≤ n - rows_max) where
    pub apart-before : from + rows_max ≤ to → areas_apart from to n ≡ true
    apart-before h = rw (
      le-leb (from + rows_max) n (omega arith),
      le-leb (to + rows_max) n (omega arith),
      le-leb (from + rows_max) to h,
    )

    pub apart-after : to < from + rows_max → areas_apart from to n ≡ leb (to + rows_max) from
    apart-after h = rw (
      le-leb (from + rows_max) n (omega arith),
      le-leb (to + rows_max) n (omega arith),
      lt-leb
          (from + rows_max) to h,
    )

  pub record AreasApart : Type 0 where
    pub from_in : from + rows_max ≤ n
    pub to_in : to + rows_max ≤ n
    pub apart : (from + rows_max ≤ to) ⊎ (to + rows_max ≤ from)

  pub areas-apart : areas_apart from to n ≡ true → AreasApart
  areas-apart h =
      let a = leb (from + rows_max) n in let b = leb (to + rows_max) n in
      let c = leb (from + rows_max) to in let d = leb (to + rows_max) from in
      let bc = and_right a (b && (c || d)) h in
      record {
        from_in = leb-true (from + rows_max) n (and_left a (b && (c || d)) h);
        to_in = leb-true (to + rows_max) n (and_left b (c || d) bc);
        apart = or_cases c d (and_right b (c || d) bc) (λ t. inl (leb-true (from + rows_max) to t))
            (λ f t. inr (leb-true (to + rows_max) from t));
      }

-- ---- the words of a first entry

abbrev pub run_of : ℕ → ℕ → Entry → ℕ
run_of p start e = cond (eqb p 0) 0 (e.end - start)

words-first : (p start : ℕ) (ps : List ℕ) (e : Entry) (es : List Entry) (ws : List ℕ) → start ≤ e.end
    → words_of (kept (p ∷ ps) (spans start (e ∷ es) (drop start ws)))
    ≡ take (run_of p start e) (drop start ws) ++ words_of (kept ps (spans e.end es (drop e.end ws)))
unfolding kept spans words_of
words-first p start ps e es ws h = let d : start + (e.end - start) ≡ e.end = omega arith in
    split (eqb p 0) (λ t. rw (t, drop-drop (e.end - start) start ws, d))
    (λ f. rw (f, drop-drop (e.end - start) start ws, d))

run-le : (p start : ℕ) (e : Entry) → run_of p start e ≤ e.end - start
run-le p start e = split (eqb p 0) (λ t. rw t (omega arith)) (λ f. rw f (omega arith))

-- ---- the rows of the entries before k are copied, and the next begins at row `start`; the areas are apart, and there
-- are no more entries than a plan has places

pub record Copied (ps : List ℕ) (es : List Entry) (from to : ℕ) (lent : List ℕ) (k start done : ℕ)
    (rows : List ℕ) : Type 0 where
  pub areas : AreasApart from to (length lent)
  pub planned : length es ≤ length ps
  pub words : List ℕ
  pub long : length words ≡ done
  pub low : done ≤ start
  pub ends : ends_fit start (drop k es) ≡ true
  pub rest : kept_words ps es (part from rows_max lent)
      ≡ words ++ words_of (kept (drop k ps) (spans start (drop k es) (drop start (part from rows_max lent))))
  pub holds : rows ≡ over to words lent

-- the turn of entry e, of which n rows are copied
pub record Turn (ps : List ℕ) (es : List Entry) (from to : ℕ) (lent : List ℕ) (k start done : ℕ)
    (rows : List ℕ) (e : Entry) (n : ℕ) : Type 0 where
  pub begins : start ≤ e.end
  pub done_in : done + n ≤ rows_max
  pub src_in : from + start + n ≤ length lent
  pub dst_in : to + done + n ≤ length lent
  pub next : (rows' : List ℕ) → rows' ≡ over (to + done) (part (from + start) n rows) rows
      → Copied ps es from to lent (k + 1) e.end (done + n) rows'

module _ (ps : List ℕ) (es : List Entry) (from to : ℕ) (lent : List ℕ) where
  pub copied_none : length es ≤ length ps → ends_fit 0 es ≡ true
      → areas_apart from to (length lent) ≡ true → Copied ps es from to lent 0 0 0 lent
  unfolding kept_words
  copied_none few h a = record {
    areas = areas-apart from to (length lent) a;
    planned = few;
    words = [];
    long = refl;
    low = omega arith;
    ends = h;
    rest = refl;
    holds = sym (over-nil to lent);
  }

module _ {ps : List ℕ} {es : List Entry} {from to : ℕ} {lent : List ℕ} {k start done : ℕ} {rows : List ℕ}
    (m : Copied ps es from to lent k start done rows) where
  module _ (p : ℕ) (e : Entry) (dp : drop k ps ≡ p ∷ drop (k + 1) ps) (de : drop k es ≡ e ∷ drop (k + 1) es)
    where
      fits : ends_fit start (e ∷ drop (k + 1) es) ≡ true
      fits = rw de at m.ends

      begins : start ≤ e.end
      begins = end_low start e (drop (k + 1) es) fits

      within : e.end ≤ rows_max
      within = ends-high e.end (drop (k + 1) es) (ends-rest start e (drop (k + 1) es) fits)

      abbrev n : ℕ
      n = run_of p start e

      abbrev ws : List ℕ
      ws = part from rows_max lent

      -- what is read is as it was
      read : part (from + start) n rows ≡ take n (drop start ws)
      read = let a = run-le p start e in let b = begins in let w = within in let l = m.low in let g = m.long
          in
          let t = m.areas.to_in in
          ap (part (from + start) n) m.holds
          ∙ (part_apart to m.words lent (omega arith) (from + start) n
          (⊎_elim (λ h. inl (omega arith)) (λ h. inr (omega arith)) m.areas.apart)
          ∙ sym (part-part from rows_max start n lent (omega arith)))

      copied_next : (rows' : List ℕ) → rows' ≡ over (to + done) (part (from + start) n rows) rows
          → Copied ps es from to lent (k + 1) e.end (done + n) rows'
      copied_next rows' w =
          let a = run-le p start e in let b = begins in let i = within in let l = m.low in let t = m.areas.to_in
          in
          let T = take n (drop start ws) in
          let lw : length ws ≡ rows_max = length_part from rows_max lent m.areas.from_in in
          let lT : length T ≡ n = length-take-le n (drop start ws) (omega (arith, length-drop start ws)) in
          record {
            areas = m.areas;
            planned = m.planned;
            words = m.words ++ T;
            long = length-append m.words T ∙ omega (arith, m.long);
            low = omega arith;
            ends = ends-rest start e (drop (k + 1) es) fits;
            rest = m.rest ∙ (rw (dp, de, words-first p start (drop (k + 1) ps) e (drop (k + 1) es) ws b)
                (sym (append_assoc m.words T (words_of (kept (drop (k + 1) ps)
                (spans e.end (drop (k + 1) es) (drop e.end ws)))))));
            holds = w ∙ (ap (λ (v : List ℕ). over (to + done) v rows) read
                ∙ (ap (λ (x : List ℕ). over (to + done) T x) m.holds
                ∙ (ap (λ (d : ℕ). over (to + d) T (over to m.words lent)) (sym m.long)
                ∙ sym (over-append to m.words T lent (omega (arith, m.long))))));
          }

      turn : (run : ℕ) → run ≡ run_of p start e → Turn ps es from to lent k start done rows e run
      turn run h = let a = run-le p start e in let b = begins in let w = within in let l = m.low in
          let f = m.areas.from_in in let t = m.areas.to_in in rw h (record {
            begins = begins;
            done_in = omega arith;
            src_in = omega arith;
            dst_in = omega arith;
            next = copied_next;
          })

  pub copied-turn : k < length es → let e = get_or es k none in
      (run : ℕ) → run ≡ run_of (get_or ps k 0) start e → Turn ps es from to lent k start done rows e run
  copied-turn h = let g = m.planned in
      turn (get_or ps k 0) (get_or es k none) (drop_more ps k 0 (omega arith)) (drop_more es k none h)

  pub copied_all : length es ≤ k → rows ≡ over to (kept_words ps es (part from rows_max lent)) lent
  unfolding spans words_of
  copied_all h = let d = drop_all k es h in
      let e : kept_words ps es (part from rows_max lent) ≡ m.words =
      m.rest ∙ rw (d, kept-nil (drop k ps), append-nil m.words) in
      m.holds ∙ ap (λ (v : List ℕ). over to v lent) (sym e)
