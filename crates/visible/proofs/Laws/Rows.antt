-- Flags laid row by row. Definitions: specs/Flags.antt, specs/Passes.antt, and rules' flags_by.
-- In order: how many flags are true; the flags of an entry; entries one by one.
-- Assumes nothing.
use mathlib.Core.Path.{◌≡◌, refl, sym, ap, ◌∙◌}
use mathlib.Core.Bool.{Bool, true, false, not, ◌&&◌, cond}
use mathlib.Core.List.{List, ◌∷◌, ◌++◌, append_assoc, append-nil}
use Prim.Native.Nat.{ℕ, zero, suc, ◌+◌, ◌-◌, ◌≤◌, ◌<◌}
use native.Mathlib.Numerals.{add-one}
use native.Mathlib.Omega.{arith}
use lib.ListN.{length, take, drop, get_or, replicate, length-replicate}
use lib.Seq.{take-length}
use borrow.Author.Tests.{eqb-true}
use Rattle.std.proofs.lemmas.List.{drop_more, drop_all}
use Rattle.lists.specs.Lists.{over, ones}
use Rattle.lists.proofs.Laws.Parts.{length_over, take-over}
use Rattle.rules.specs.declared.Entry.{Entry}
use Rattle.rules.specs.WellFormed.{ends_ok}
use Rattle.laws.proofs.Laws.Span.{EndOk, end-ok, ends_ok-le}
use Rattle.rules.specs.Top.{Top, covers, flags_by}
use Rattle.rules.specs.Bare.{bare}
use Rattle.lent.specs.Entries.{none}

-- ---- how many flags are true

ones_fill : (k : ℕ) (b : Bool) (bs : List Bool) → ones (replicate k b ++ bs) ≡ cond b k 0 + ones bs
ones_fill zero true bs = omega arith
ones_fill zero false bs = omega arith
ones_fill (suc k) true bs = let ih = ones_fill k true bs in omega arith
ones_fill (suc k) false bs = ones_fill k false bs

cond-le : (b : Bool) (k : ℕ) → cond b k 0 ≤ k
cond-le true k = omega arith
cond-le false k = omega arith

-- ---- the flags of an entry

abbrev pub shown_at : (ℕ → Bool) → Top → ℕ → Entry → Bool
shown_at s top i e = s e.epoch && not (covers top i e.epoch)

flags-next : (s : ℕ → Bool) (top : Top) (i n : ℕ) (e : Entry) (es : List Entry) → flags_by s top i (bare n (e ∷ es))
    ≡ replicate (e.end - n) (shown_at s top i e) ++ flags_by s top (i + 1) (bare e.end es)
unfolding flags_by bare
flags-next s top i n e es = rw (add-one i, length-replicate {A = ℕ} (e.end - n) 0)

-- ---- entries one by one: those before i are laid, up to row `from`, and count of their flags are true

module _ (s : ℕ → Bool) (top : Top) (es : List Entry) where
  pub record Laid (i from count : ℕ) (shown : List Bool) : Type 0 where
    pub ends : ends_ok (length shown) from (drop i es) ≡ true
    pub few : count ≤ from
    pub counted : ones (flags_by s top 0 (bare 0 es)) ≡ count + ones (flags_by s top i (bare from (drop i es)))
    pub laid : flags_by s top 0 (bare 0 es) ≡ take from shown ++ flags_by s top i (bare from (drop i es))

  -- the turn of entry e: b says whether its rows are shown, n flags are true after it
  pub record Turn (i from count : ℕ) (shown : List Bool) (e : Entry) : Type 0 where
    pub low : from ≤ e.end
    pub high : e.end ≤ length shown
    pub next : (b : Bool) (n : ℕ) (next : List Bool) → b ≡ shown_at s top i e → n ≡ count + cond b (e.end - from) 0
        → next ≡ over from (replicate (e.end - from) b) shown → Laid (i + 1) e.end n next

  pub laid_none : (shown : List Bool) → ends_ok (length shown) 0 es ≡ true → Laid 0 0 0 shown
  laid_none shown h = record { ends = h; few = omega arith; counted = omega arith; laid = refl }

module _ {s : ℕ → Bool} {top : Top} {es : List Entry} {i from count : ℕ} {shown : List Bool}
    (o : Laid s top es i from count shown) where
  module _ (e : Entry) (d : drop i es ≡ e ∷ drop (i + 1) es) where
    entry-ok : EndOk (length shown) from e (drop (i + 1) es)
    entry-ok = end-ok (length shown) from e (drop (i + 1) es) (rw d at o.ends)

    entry-within : e.end ≤ length shown
    entry-within = ends_ok-le (length shown) e.end (drop (i + 1) es) entry-ok.rest

    laid_next : (b : Bool) (n : ℕ) (next : List Bool) → b ≡ shown_at s top i e → n ≡ count + cond b (e.end - from) 0
        → next ≡ over from (replicate (e.end - from) b) shown → Laid s top es (i + 1) e.end n next
    laid_next b m next eb em en =
        let k = e.end - from in let low = entry-ok.low in let high = entry-within in
        let rest = flags_by s top (i + 1) (bare e.end (drop (i + 1) es)) in
        let here : flags_by s top i (bare from (drop i es)) ≡ replicate k b ++ rest =
        rw (d, eb) (flags-next s top i from e (drop (i + 1) es)) in
        let n = length-replicate k b in let fits : from + length (replicate k b) ≤ length shown = omega arith in
        let end : e.end ≡ from + length (replicate k b) = omega arith in
        let front : take e.end next ≡ take from shown ++ replicate k b =
        ap (λ (j : ℕ). take j next) end ∙ rw en (take-over from (replicate k b) shown fits) in
        record {
          ends = rw (en, length_over from (replicate k b) shown fits) entry-ok.rest;
          few = omega (arith, cond-le b k, em, o.few, low);
          counted = o.counted ∙ rw (here, ones_fill k b rest, em) (omega arith);
          laid = o.laid ∙ rw (here, front) (sym (append_assoc (take from shown) (replicate k b) rest));
        }

  pub laid-turn : i < length es → Turn s top es i from count shown (get_or es i none)
  laid-turn h = let e = get_or es i none in let d = drop_more es i none h in
      record { low = (entry-ok e d).low; high = entry-within e d; next = laid_next e d }

  pub laid-all : length es ≤ i
      → (count ≡ ones (flags_by s top 0 (bare 0 es))) × (shown ≡ flags_by s top 0 (bare 0 es))
  unfolding ends_ok bare flags_by
  laid-all h = let d = drop_all i es h in
      let all : from ≡ length shown = eqb-true from (length shown) (rw d at o.ends) in
      (sym (o.counted ∙ rw d (omega arith)), sym (o.laid ∙ rw (d, all, take-length shown, append-nil shown)))
