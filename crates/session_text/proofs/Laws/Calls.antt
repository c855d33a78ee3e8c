-- Laws of a call made from its letter and numbers. Definitions: specs/Calls.antt, specs/Grammar.antt.
-- In order: the numbers of a call, the same letter with other numbers; a line with its numbers; a line's parts.
-- Assumes nothing.
use mathlib.Core.Path.{◌≡◌, refl, sym, ◌∙◌, ap}
use mathlib.Core.Bool.{Bool, true, false, cond}
use mathlib.Core.List.{List, [], ◌∷◌}
use Prim.Native.Nat.{ℕ, suc, ◌+◌, ◌-◌, ◌≤◌, ◌<◌}
use native.Mathlib.Omega.{arith}
use lib.ListN.{length, take, drop, get_or}
use lib.Seq.{take-append_seam}
use lib.Dec.{leb, eqb}
use borrow.Author.Tests.{le-leb, lt-leb, ne_eqb, lt-ltb, le-ltb}
use Rattle.lists.specs.Lists.{over}
use Rattle.lists.proofs.Laws.Bools.{split}
use Rattle.rules.specs.declared.Command.TheVariants.{Manage}
use Rattle.rules.specs.declared.ManagerCall.TheVariants.{Begin}
use Rattle.std.specs.Prelude.{Option, None, Some}
use Rattle.session_text.specs.declared.Call.{Call}
use Rattle.session_text.specs.Grammar.{bare, with_one, with_two, with_more, with_numbers, scan_by, is_call}
use Rattle.session_text.specs.Grammar.{are_numbers, numbers_of, numbers_in, parsed_short, parsed, line_max}
use Rattle.session_text.proofs.Laws.Numbers.{length-numbers}
use Rattle.session_text.specs.Calls.{call_by, call_on, numbers_call, from_of, in_room, if_call}

pub call-numbers : (letter who : ℕ) (ns : List ℕ) → 1 ≤ length ns
    → call_by letter who (length ns) (get_or ns 0 0) (get_or ns 1 0) ≡ call_on letter who ns
unfolding with_numbers scan_by
call-numbers letter who [] h = absurd (omega arith)
call-numbers letter who (a ∷ []) h = refl
call-numbers letter who (a ∷ b ∷ []) h = refl
call-numbers letter who (a ∷ b ∷ r ∷ rs) h = let n = length rs in let e : suc (suc (suc n)) - 2 ≡ suc n = omega arith in
    rw (ne_eqb (suc (suc (suc n))) 2 (λ z. omega arith), ne_eqb (suc (suc (suc n))) 1 (λ z. omega arith), e)

pub call-one : (letter who : ℕ) (ns : List ℕ) → length ns ≡ 1
    → call_by letter who 1 (get_or ns 0 0) 0 ≡ call_on letter who ns
call-one letter who [] h = absurd (omega arith)
call-one letter who (a ∷ []) h = call-numbers letter who (a ∷ []) (omega arith)
call-one letter who (a ∷ b ∷ ns) h = absurd (omega arith)

is_call-cond : (t : Bool) (p q : Option Call) → is_call (cond t p q) ≡ cond t (is_call p) (is_call q)
is_call-cond true p q = refl
is_call-cond false p q = refl

-- whether it is a call does not depend on the values
pub call_same : (letter who n a b a' b' : ℕ) → is_call (call_by letter who n a b) ≡ is_call (call_by letter who n a' b')
unfolding with_one with_two with_more scan_by
call_same letter who n a b a' b' = simp is_call-cond

pub not_call : (p : Option Call) → is_call p ≡ false → p ≡ None
not_call (Some c) h = cc
not_call None h = refl

-- ---- a line's numbers, counted

pub none-counted : (bs : List ℕ) → None ≡ cond (are_numbers bs) (Some (length (numbers_of bs))) None
    → are_numbers bs ≡ false
none-counted bs h = split (are_numbers bs)
    (λ t. let e : None ≡ Some (length (numbers_of bs)) = rw t at h in cc) (λ f. f)

module _ (bs : List ℕ) (n : ℕ) (counts : Some n ≡ cond (are_numbers bs) (Some (length (numbers_of bs))) None) where
  pub some-numbers : are_numbers bs ≡ true
  some-numbers = split (are_numbers bs) (λ t. t) (λ f. let e : Some n ≡ None = rw f at counts in cc)

  pub some-counted : n ≡ length (numbers_of bs)
  some-counted = let e : Some n ≡ Some (length (numbers_of bs)) = rw some-numbers at counts in cc

  pub some-count : 1 ≤ n
  some-count = omega (arith, some-counted, length-numbers bs)

-- ---- a line with a buffer for its numbers

cond_same : {A : Type 0} (t : Bool) (x : A) → x ≡ cond t x x
cond_same true x = refl
cond_same false x = refl

module _ (letter who : ℕ) (bs buffer : List ℕ) where
  pub no-numbers : are_numbers bs ≡ false → None ≡ in_room (numbers_of bs) buffer (numbers_call letter who bs)
  no-numbers h = rw h (cond_same (leb (length (numbers_of bs)) (length buffer)) None)

  pub short_buffer : length buffer < length (numbers_of bs)
      → None ≡ in_room (numbers_of bs) buffer (numbers_call letter who bs)
  short_buffer h = rw (lt-leb (length (numbers_of bs)) (length buffer) h)

  module _ (n : ℕ) (numbers : are_numbers bs ≡ true) (count : n ≡ length (numbers_of bs)) where
    some : 1 ≤ length (numbers_of bs)
    some = omega (arith, length-numbers bs)

    kind : is_call (call_by letter who n 0 0) ≡ is_call (call_on letter who (numbers_of bs))
    kind = let ns = numbers_of bs in rw count
        (call_same letter who (length ns) 0 0 (get_or ns 0 0) (get_or ns 1 0)
        ∙ ap is_call (call-numbers letter who ns some))

    pub other_letter : is_call (call_by letter who n 0 0) ≡ false
        → None ≡ in_room (numbers_of bs) buffer (numbers_call letter who bs)
    other_letter h = rw (numbers, not_call (call_on letter who (numbers_of bs)) (sym kind ∙ h))
        (cond_same (leb (length (numbers_of bs)) (length buffer)) None)

    pub call_line : (r : Option Call) (w : List ℕ) → length (numbers_of bs) ≤ length buffer
        → is_call (call_by letter who n 0 0) ≡ true
        → w ≡ over 0 (numbers_of bs) buffer → r ≡ call_on letter who (take n w)
        → (r ≡ in_room (numbers_of bs) buffer (numbers_call letter who bs)) × (w ≡ if_call r (numbers_of bs) buffer)
    call_line r w fits h q p = let ns = numbers_of bs in
        let e : r ≡ call_on letter who ns = p ∙ ap (call_on letter who)
        (rw (q, count) (take-append_seam ns (drop (0 + length ns) buffer))) in
        (rw (le-leb (length ns) (length buffer) fits, numbers) e, rw (e, ← kind, h) q)

-- ---- a line by its bytes

pub long-line : (line : List ℕ) → line_max < length line → parsed line ≡ None
unfolding parsed
long-line line h = rw (lt-ltb line_max (length line) h)

fit_line : (line : List ℕ) → length line ≤ line_max → parsed line ≡ parsed_short line
unfolding parsed
fit_line line h = rw (le-ltb line_max (length line) h)

pub bad-line : (line buffer : List ℕ) → parsed line ≡ None → None ≡ in_room (numbers_in line) buffer (parsed line)
bad-line line buffer h = rw h (cond_same (leb (length (numbers_in line)) (length buffer)) None)

-- of fewer than three bytes

pub no_bytes : (line : List ℕ) → length line < 3 → (length line ≡ 1 → ⊥) → None ≡ parsed_short line
unfolding parsed_short
no_bytes [] h n = refl
no_bytes (a ∷ []) h n = absurd (n refl)
no_bytes (a ∷ b ∷ []) h n = refl
no_bytes (a ∷ b ∷ d ∷ bs) h n = absurd (omega arith)

pub one_byte : (line : List ℕ) → length line ≡ 1 → cond (eqb (get_or line 0 0) 66) (bare (Manage Begin)) None ≡
    parsed_short line
unfolding parsed_short
one_byte [] h = absurd (omega arith)
one_byte (a ∷ []) h = refl
one_byte (a ∷ b ∷ bs) h = absurd (omega arith)

short-numbers : (line : List ℕ) → length line < 3 → numbers_in line ≡ []
unfolding numbers_in
short-numbers [] h = refl
short-numbers (a ∷ []) h = refl
short-numbers (a ∷ b ∷ []) h = refl
short-numbers (a ∷ b ∷ d ∷ bs) h = absurd (omega arith)

pub short-line : (line buffer : List ℕ) (r : Option Call) → length line < 3 → r ≡ parsed_short line
    → (r ≡ in_room (numbers_in line) buffer (parsed line)) × (buffer ≡ if_call r (numbers_in line) buffer)
short-line line buffer r h e = (
  rw (short-numbers line h, le-leb 0 (length buffer) (omega arith)) (e ∙ sym (fit_line line (omega arith))),
  rw (short-numbers line h) (cond_same (is_call r) buffer),
)

-- of more

pub from_le : (letter : ℕ) → from_of letter ≤ 3
from_le letter = split (eqb letter 83) (λ t. rw t (omega arith)) (λ f. rw f (omega arith))

abbrev Numbers : List ℕ → List ℕ
Numbers line = drop (from_of (get_or line 0 0)) line

long-numbers : (line : List ℕ) → 3 ≤ length line → numbers_in line ≡ numbers_of (Numbers line)
unfolding numbers_in
long-numbers [] h = absurd (omega arith)
long-numbers (a ∷ []) h = absurd (omega arith)
long-numbers (a ∷ b ∷ []) h = absurd (omega arith)
long-numbers (a ∷ b ∷ d ∷ bs) h = split (eqb a 83) (λ t. rw t) (λ f. rw f)

pub no-blank : (line : List ℕ) → 3 ≤ length line → (get_or line 1 0 ≡ 32 → ⊥) → parsed_short line ≡ None
unfolding parsed_short
no-blank [] h n = absurd (omega arith)
no-blank (a ∷ []) h n = absurd (omega arith)
no-blank (a ∷ b ∷ []) h n = absurd (omega arith)
no-blank (a ∷ b ∷ d ∷ bs) h n = rw (ne_eqb b 32 n)

long-parsed : (line : List ℕ) → 3 ≤ length line → get_or line 1 0 ≡ 32
    → parsed_short line ≡ numbers_call (get_or line 0 0) (get_or line 2 0) (Numbers line)
unfolding parsed_short
long-parsed [] h e = absurd (omega arith)
long-parsed (a ∷ []) h e = absurd (omega arith)
long-parsed (a ∷ b ∷ []) h e = absurd (omega arith)
long-parsed (a ∷ b ∷ d ∷ bs) h e = split (eqb a 83) (λ t. rw (e, t)) (λ f. rw (e, f))

pub unblank-line : (line : List ℕ) → length line ≤ line_max → 3 ≤ length line → (get_or line 1 0 ≡ 32 → ⊥)
    → parsed line ≡ None
unblank-line line f h n = fit_line line f ∙ no-blank line h n

pub whole-line : (line buffer w : List ℕ) (r : Option Call) (from : ℕ)
    → length line ≤ line_max → 3 ≤ length line → get_or line 1 0 ≡ 32 → from ≡ from_of (get_or line 0 0)
    → r ≡ in_room (numbers_of (drop from line)) buffer (numbers_call (get_or line 0 0) (get_or line 2 0)
    (drop from line))
    → w ≡ if_call r (numbers_of (drop from line)) buffer
    → (r ≡ in_room (numbers_in line) buffer (parsed line)) × (w ≡ if_call r (numbers_in line) buffer)
whole-line line buffer w r from f h e s p q =
    (rw (long-numbers line h, fit_line line f ∙ long-parsed line h e, ← s) p, rw (long-numbers line h, ← s) q)
