-- The entries of an area kept up to an index. Definitions: specs/Kept.antt; a step: Laws/Keep.antt.
-- In order: nothing to keep; Kept; no entry yet; one more; all.
-- Assumes nothing.
use mathlib.Core.Path.{◌≡◌, refl, sym, ap, ◌∙◌}
use mathlib.Core.Bool.{true}
use mathlib.Core.List.{List, [], ◌∷◌, ◌++◌, append-nil}
use Prim.Native.Nat.{ℕ, ◌+◌, ◌-◌, ◌≤◌, ◌<◌}
use native.Mathlib.Omega.{arith}
use lib.Dec.{eqb}
use lib.ListN.{length, drop, get_or, set}
use Rattle.std.proofs.lemmas.List.{drop_more, drop_all}
use Rattle.lists.specs.Lists.{pad}
use Rattle.lists.proofs.Laws.Bools.{split}
use Rattle.rules.specs.Limits.{rows_max, entries_max}
use Rattle.rules.specs.Span.{Span}
use Rattle.rules.specs.Rewrite.{joined}
use Rattle.rules.specs.declared.Entry.{Entry}
use Rattle.laws.proofs.Laws.Rewrite.{Apart, joined-apart}
use Rattle.rules.specs.Bare.{bare_span, bare}
use Rattle.lent.specs.Entries.{none}
use Rattle.rewrite.specs.Kept.{renewed, kept, ends_fit, kept_of}
use Rattle.rewrite.specs.Passes.{stepped}
use Rattle.rewrite.specs.declared.keep.Last.{Last}
use Rattle.rewrite.specs.declared.Rewritten.{Rewritten}
use Rattle.rewrite.proofs.Laws.Ends.{end_low, ends-rest, ends-high}
use Rattle.rewrite.proofs.Laws.Back.{back, joined-push, apart-push}
use Rattle.rewrite.proofs.Laws.Keep.{size, entries_back, last_of, length_back}
use Rattle.rewrite.proofs.Laws.Keep.{size_back, entries-back, count-last}
use Rattle.rewrite.proofs.Laws.Keep.{rows_last, place-last, next, size-next}
use Rattle.rewrite.proofs.Laws.Keep.{length-next, step_is, array-next}

-- ---- nothing to keep

pub kept-nil : (ps : List ℕ) → kept ps [] ≡ []
unfolding kept
kept-nil [] = refl
kept-nil (p ∷ ps) = refl

-- ---- the entries before k are kept, as r holds them the last first; the next begins at row `from`; there are no more
-- entries than a plan and an area have places

pub record Kept (ps : List ℕ) (es : List Entry) (k from : ℕ) (last : Last) (out : List Entry) : Type 0 where
  pub planned : length es ≤ length ps
  pub fit : length es ≤ entries_max
  pub r : List Span
  pub is_last : last ≡ last_of r
  pub is-out : out ≡ pad entries_max none (entries_back r)
  pub apart : Apart (back r)
  pub few : length r ≤ k
  pub low : size r ≤ from
  pub ends : ends_fit from (drop k es) ≡ true
  pub rest : joined (kept ps (bare 0 es)) ≡ joined (back r ++ kept (drop k ps) (bare from (drop k es)))

-- the turn of entry e, with its new epoch p
pub record Turn (ps : List ℕ) (es : List Entry) (k from : ℕ) (last : Last) (out : List Entry) (p : ℕ) (e : Entry)
    : Type 0 where
  pub count : last.count < entries_max
  pub begins : from ≤ e.end
  pub rows : last.rows + (e.end - from) ≤ rows_max
  pub place : (stepped last p e from).place < entries_max
  pub next : Kept ps es (k + 1) e.end (stepped last p e from)
      (set out (stepped last p e from).place (stepped last p e from).entry)

module _ (ps : List ℕ) (es : List Entry) where
  pub kept-none : length ps ≡ entries_max → length es ≤ entries_max → (out : List Entry) → out ≡ pad entries_max none []
      → ends_fit 0 es ≡ true
      → Kept ps es 0 0 (record { place = 0; count = 0; rows = 0; entry = none }) out
  unfolding back size entries_back last_of
  kept-none n m out o h = record {
    planned = omega arith;
    fit = m;
    r = [];
    is_last = refl;
    is-out = o;
    apart = tt;
    few = omega arith;
    low = omega
        arith;
    ends = h;
    rest = refl;
  }

module _ {ps : List ℕ} {es : List Entry} {k from : ℕ} {last : Last} {out : List Entry}
    (m : Kept ps es k from last out) where
  module _ (p : ℕ) (e : Entry) (dp : drop k ps ≡ p ∷ drop (k + 1) ps) (de : drop k es ≡ e ∷ drop (k + 1) es)
    where
      fits : ends_fit from (e ∷ drop (k + 1) es) ≡ true
      fits = rw de at m.ends

      begins : from ≤ e.end
      begins = end_low from e (drop (k + 1) es) fits

      abbrev r' : List Span
      r' = next p e from m.r

      step-last : stepped last p e from ≡ last_of r'
      step-last = ap (λ (o : Last). stepped o p e from) m.is_last ∙ step_is p e from m.r

      rest-next : joined (back m.r ++ kept (p ∷ drop (k + 1) ps) (bare from (e ∷ drop (k + 1) es)))
          ≡ joined (back r' ++ kept (drop (k + 1) ps) (bare e.end (drop (k + 1) es)))
      unfolding kept bare next
      rest-next = split (eqb p 0) (λ t. rw t)
          (λ f. rw f (sym (joined-push (renewed p (bare_span (e.end - from) e)) m.r
          (kept (drop (k + 1) ps) (bare e.end (drop (k + 1) es))))))

      apart_next : Apart (back r')
      unfolding next
      apart_next = split (eqb p 0) (λ t. rw t m.apart) (λ f. rw f
          (apart-push (renewed p (bare_span (e.end - from) e)) m.r m.apart))

      turn : k < entries_max → Turn ps es k from last out p e
      turn h = let g = ends-high e.end (drop (k + 1) es) (ends-rest from e (drop (k + 1) es) fits) in
          let few = m.few in record {
            count = rw (m.is_last, count-last m.r) (omega arith);
            begins = begins;
            rows = rw (m.is_last, rows_last m.r) (omega (arith, m.low, begins));
            place = rw step-last (place-last r' (omega (arith, length-next p e from m.r)));
            next = record {
              planned = m.planned;
              fit = m.fit;
              r = r';
              is_last = step-last;
              is-out = rw (step-last, m.is-out) (array-next p e from m.r (omega arith));
              apart = apart_next;
              few = omega (arith, length-next p e from m.r);
              low = omega (arith, size-next p e from m.r, m.low, begins);
              ends = ends-rest from e (drop (k + 1) es) fits;
              rest = m.rest ∙ (rw (dp, de) rest-next);
            };
          }

  pub kept-turn : k < length es → Turn ps es k from last out (get_or ps k 0) (get_or es k none)
  kept-turn h = let g = m.planned in let f = m.fit in
      turn (get_or ps k 0) (get_or es k none) (drop_more ps k 0 (omega arith)) (drop_more es k none h) (omega arith)

  pub kept-all : length es ≤ k
      → ◌≡◌ {A = Rewritten} (record { area = record { at = out; count = last.count }; rows = last.rows })
      (kept_of ps es)
  unfolding kept_of bare
  kept-all h = let d = drop_all k es h in
      let j : joined (kept ps (bare 0 es)) ≡ back m.r =
      m.rest ∙ (rw (d, kept-nil (drop k ps), append-nil (back m.r))
      (joined-apart (back m.r) m.apart)) in
      rw (
        j,
        m.is-out,
        m.is_last,
        count-last m.r,
        rows_last m.r,
        entries-back m.r,
        length_back
            m.r,
        size_back m.r,
      )
