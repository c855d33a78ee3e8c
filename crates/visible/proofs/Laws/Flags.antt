-- The flags of entries are those of their spans over any words. Definitions: specs/Flags.antt.
-- In order: flags go by the words' number alone; bare entries; the law; the count of flags; the flags by the
-- greatest delete.
-- Assumes nothing.
use mathlib.Core.Path.{◌≡◌, refl}
use mathlib.Core.Bool.{Bool, true}
use mathlib.Core.List.{List, [], ◌∷◌, map}
use Prim.Native.Nat.{ℕ, ◌-◌}
use native.Mathlib.Omega.{arith}
use lib.ListN.{length, take, drop, replicate, length-drop, length-replicate}
use lib.Seq.{length-take-le}
use Rattle.lists.proofs.Laws.Filter.{any_of-map}
use Rattle.rules.specs.declared.Entry.{Entry}
use Rattle.rules.specs.Span.{Span, spans}
use Rattle.rules.specs.Hides.{hidden, flags_in, flags}
use Rattle.rules.specs.WellFormed.{ends_ok}
use Rattle.laws.proofs.Laws.Span.{end-ok, ends_ok-le, words-spans}
use Rattle.laws.proofs.Laws.Hides.{length-flags}
use Rattle.rules.specs.Top.{top_delete, flags_by}
use Rattle.laws.proofs.Laws.TopDelete.{flags-top}
use Rattle.rules.specs.Bare.{bare}
use Rattle.visible.specs.Flags.{flags_of}

-- ---- flags go by the words' number alone

-- as many rows, all 0
abbrev pub blank : Span → Span
blank s = record { epoch = s.epoch; mark = s.mark; words = replicate (length s.words) 0 }

pub hidden-blank : (a : ℕ → Bool) (all rest : List Span) (j : ℕ)
    → hidden a (map blank all) (map blank rest) j ≡ hidden a all rest j
unfolding hidden
hidden-blank a all rest j = rw (any_of-map _ blank all, any_of-map _ blank rest)

module _ (s a : ℕ → Bool) where
  flags_in-blank : (all ss : List Span) → flags_in s a (map blank all) (map blank ss) ≡ flags_in s a all ss
  unfolding flags_in
  flags_in-blank all [] = refl
  flags_in-blank all (t ∷ ss) =
      rw (
        length-replicate {A = ℕ} (length t.words) 0,
        hidden-blank a all (t ∷ ss) t.epoch,
        flags_in-blank all ss,
      )

  flags-blank : (ss : List Span) → flags s a (map blank ss) ≡ flags s a ss
  unfolding flags
  flags-blank ss = flags_in-blank ss ss

-- ---- bare entries

pub bare-blank : (rows n : ℕ) (es : List Entry) (ws : List ℕ) → ends_ok rows n es ≡ true → length ws ≡ rows - n
    → bare n es ≡ map blank (spans n es ws)
unfolding bare spans
bare-blank rows n [] ws h l = refl
bare-blank rows n (e ∷ es) ws h l =
    let c = end-ok rows n e es h in let g = ends_ok-le rows e.end es c.rest in
    let k : length (take (e.end - n) ws) ≡ e.end - n = length-take-le (e.end - n) ws (omega arith) in
    rw (k, bare-blank rows e.end es (drop (e.end - n) ws) c.rest (simp length-drop (omega arith)))

module _ (s a : ℕ → Bool) (rows : ℕ) (es : List Entry) (ends : ends_ok rows 0 es ≡ true) where
  -- the flags of a partition's spans are those of its entries
  pub flags-entries : (ws : List ℕ) → length ws ≡ rows → flags_of s a es ≡ flags s a (spans 0 es ws)
  unfolding flags_of
  flags-entries ws l = rw (bare-blank rows 0 es ws ends (omega arith)) (flags-blank s a (spans 0 es ws))

  -- one flag a row
  pub length-flags_of : length (flags_of s a es) ≡ rows
  length-flags_of = let ws : List ℕ = replicate rows 0 in let l = length-replicate {A = ℕ} rows 0 in
      rw (flags-entries ws l, length-flags s a (spans 0 es ws), words-spans rows 0 es ws ends (omega arith)) l

-- ---- by the greatest delete

pub flags_of-top : (s a : ℕ → Bool) (es : List Entry)
    → flags_of s a es ≡ flags_by s (top_delete a (bare 0 es)) 0 (bare 0 es)
unfolding flags_of
flags_of-top s a es = flags-top s a (bare 0 es)
