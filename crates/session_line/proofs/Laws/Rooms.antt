-- So much room is always enough. Definitions: specs/Rooms.antt, session_text's Grammar and Print.
-- In order: the numbers of a line and its rows; the rows shown; the bytes of an answer.
-- Assumes nothing.
use mathlib.Core.Path.{◌≡◌, refl, sym, ◌∙◌}
use mathlib.Core.Bool.{Bool, true, false, cond}
use mathlib.Core.List.{List, [], ◌∷◌}
use Prim.Native.Nat.{ℕ, suc, ◌+◌, ◌-◌, ◌*◌, ◌^◌, ◌≤◌, ◌<◌}
use native.Mathlib.Omega.{arith}
use lib.Dec.{leb, ltb, eqb}
use lib.ListN.{length, take, drop, length-append, length-take}
use lib.Seq.{take-append_seam}
use borrow.Author.Tests.{ltb-true, ltb-false, le-leb, eqb-true, eqb-false}
use Rattle.lists.specs.Lists.{over, gather, part}
use Rattle.lists.proofs.Laws.Bools.{split, and_left, and_right}
use Rattle.lists.proofs.Laws.Tests.{no_proof}
use Rattle.rules.specs.Answers.{reply_of, first_value}
use Rattle.rules.specs.Claim.{bit_at, words_at_ones}
use Rattle.rules.specs.Limits.{rows_max}
use Rattle.rules.specs.Step.{scan, step}
use Rattle.rules.specs.Store.{Store, partition_at}
use Rattle.rules.specs.declared.Answer.{Answer}
use Rattle.rules.specs.declared.Command.{Command}
use Rattle.rules.specs.declared.Command.TheVariants.{Create, Scan}
use Rattle.laws.proofs.Laws.Step.{scan-or}
use Rattle.laws.proofs.Laws.Answers.{values-few}
use Rattle.session_text.specs.Grammar.{are_numbers, numbers_of, numbers_in, parsed, parsed_short, line_max, is_digit}
use Rattle.session_text.specs.Grammar.{bare, with_one, with_two, with_more, with_numbers, scan_by}
use Rattle.session_text.specs.Numbers.{grown_by}
use Rattle.session_text.specs.Grammar.{letter_of}
use Rattle.session_text.specs.Print.{spaced, line_of, printed}
use Rattle.std.specs.Prelude.{Option, None, Some}
use Rattle.session_text.specs.declared.Call.{Call}
use Rattle.session_text.proofs.Laws.Grammar.{ok_from, later_in, ok-start, ok-nil, ok-blank, ok-digit, ok-other, ok-wide}
use Rattle.session_text.proofs.Laws.Grammar.{later-nil, later-blank, later-other}
use Rattle.session_text.proofs.Laws.Numbers.{length-numbers}
use Rattle.session_text.proofs.Laws.Lines.{length-line}
use Rattle.session_text.proofs.Laws.Print.{decimal-few}
use Rattle.session_line.specs.Session.{bits, rows_shown, answer_is, answer_to}
use Rattle.session_line.specs.Rooms.{numbers_max, answer_max}

-- ---- the numbers of a line: each takes a digit at least, and a blank between two

few : (some : Bool) (v : ℕ) (bs : List ℕ) → v < 2 ^ 64 → ok_from some v bs ≡ true
    → 2 * later_in bs + cond some 0 1 ≤ length bs
few some v [] l h = rw (later-nil, sym (ok-nil some v l) ∙ h) (omega arith)
few some v (b ∷ bs) l h = split (eqb b 32)
    (λ t. let e = eqb-true b 32 t in let g = sym (ok-blank some v bs l) ∙ (rw e at h) in
    let ih = few false 0 bs (omega arith) (sym (ok-start bs) ∙ and_right some (are_numbers bs) g) in
    rw (e, later-blank bs, and_left some (are_numbers bs) g) (omega arith))
    (λ f. let n = eqb-false b 32 f in split (is_digit b)
    (λ d. let g = sym (ok-digit some v b bs d) ∙ h in split (ltb (grown_by v b) (2 ^ 64))
    (λ s. let ih = few true (grown_by v b) bs (ltb-true (grown_by v b) (2 ^ 64) s) g in
    rw (later-other b bs n) (omega (arith, small some)))
    (λ w. no_proof (sym (ok-wide true (grown_by v b) bs (ltb-false (grown_by v b) (2 ^ 64) w)) ∙ g)))
    (λ o. no_proof (sym (ok-other some v b bs n o) ∙ h)))
  where
    small : (some : Bool) → cond some 0 1 ≤ 1
    small true = omega arith
    small false = omega arith

numbers-few : (bs : List ℕ) → are_numbers bs ≡ true → length bs ≤ line_max → length (numbers_of bs) ≤ numbers_max
numbers-few bs h l = omega (arith, length-numbers bs, few false 0 bs (omega arith) (sym (ok-start bs) ∙ h))

-- of a call with m numbers, all but the first two are rows, and m is small
abbrev pub Fit : ℕ → Option Call → Type 0
Fit m (Some c) = (c.rows ≡ m - 2) × (m ≤ numbers_max)
Fit m None = Unit

fit-cond : (m : ℕ) (t : Bool) (p q : Option Call) → Fit m p → Fit m q → Fit m (cond t p q)
fit-cond m true p q f g = f
fit-cond m false p q f g = g

fit-one : (letter a : ℕ) → Fit 1 (with_one letter a)
unfolding with_one
fit-one letter a = let f : Fit 1 (bare (Create 0)) = (refl, omega arith) in
    fit-cond 1 (eqb letter 67) _ _ f (fit-cond 1 (eqb letter 88) _ _ f (fit-cond 1 (eqb letter 82) _ _ f
    (fit-cond 1 (eqb letter 69) _ _ f (fit-cond 1 (eqb letter 76) _ _ f (fit-cond 1 (eqb letter 80) _ _ f tt)))))

fit-numbers : (letter : ℕ) (ns : List ℕ) → length ns ≤ numbers_max → Fit (length ns) (with_numbers letter ns)
unfolding with_numbers with_two with_more
fit-numbers letter [] h = tt
fit-numbers letter (a ∷ []) h = fit-one letter a
fit-numbers letter (a ∷ b ∷ []) h = let f : Fit 2 (bare (Create 0)) = (refl, omega arith) in
    fit-cond 2 (eqb letter 65) _ _ f (fit-cond 2 (eqb letter 68) _ _ f tt)
fit-numbers letter (a ∷ b ∷ r ∷ rs) h = fit-cond (length (a ∷ b ∷ r ∷ rs)) (eqb letter 65) _ _ (omega arith, h) tt

fit-scan : (who : ℕ) (ns : List ℕ) → Fit (length ns) (scan_by who ns)
unfolding scan_by
fit-scan who [] = tt
fit-scan who (a ∷ []) = tt
fit-scan who (a ∷ b ∷ []) = let f : Fit 2 (bare (Create 0)) = (refl, omega arith) in
    fit-cond 2 (eqb who 108) _ _ f (fit-cond 2 (eqb who 112) _ _ f tt)
fit-scan who (a ∷ b ∷ c ∷ rs) = tt

fit-short : (line : List ℕ) → length line ≤ line_max → Fit (length (numbers_in line)) (parsed_short line)
unfolding parsed_short numbers_in
fit-short [] h = tt
fit-short (letter ∷ []) h = fit-cond 0 (eqb letter 66) _ _ (refl, omega arith) tt
fit-short (letter ∷ b ∷ []) h = tt
fit-short (letter ∷ b ∷ c ∷ bs) h = fit-cond _ (eqb b 32) _ _ (split (eqb letter 83)
    (λ t. rw t (fit-cond _ (are_numbers bs) _ _ (fit-scan c (numbers_of bs)) tt))
    (λ f. rw f (split (are_numbers (c ∷ bs))
    (λ t. rw t (fit-numbers letter (numbers_of (c ∷ bs)) (numbers-few (c ∷ bs) t (omega arith))))
    (λ n. rw n tt)))) tt

pub fit_line : (line : List ℕ) → Fit (length (numbers_in line)) (parsed line)
unfolding parsed
fit_line line = split (ltb line_max (length line)) (λ t. rw t tt)
    (λ f. rw f (fit-short line (ltb-false line_max (length line) f)))

-- so a buffer of numbers_max words never makes a line bad
pub room-parsed : (m k : ℕ) (p : Option Call) → Fit m p → numbers_max ≤ k → cond (leb m k) p None ≡ p
room-parsed m k (Some c) f h = rw (le-leb m k (omega arith))
room-parsed m k None f h = split (leb m k) (λ t. rw t) (λ f. rw f)

-- the rows of an append in the buffer
pub rows-batch : (ns buffer : List ℕ) → take (length ns - 2) (drop 2 (over 0 ns buffer)) ≡ drop 2 ns
rows-batch [] buffer = refl
rows-batch (a ∷ []) buffer = refl
rows-batch (a ∷ b ∷ rs) buffer = let e : suc (suc (length rs)) - 2 ≡ length rs = omega arith in
    rw e (take-append_seam rs (drop (0 + suc (suc (length rs))) buffer))

-- ---- the rows shown

ones-few : (bytes : List ℕ) (n : ℕ) (ws : List ℕ) → length (words_at_ones bytes n ws) ≤ length ws
unfolding words_at_ones
ones-few bytes n [] = omega arith
ones-few bytes n (w ∷ ws) = let ih = ones-few bytes (suc n) ws in
    split (bit_at bytes n) (λ t. rw t (omega arith)) (λ f. rw f (omega arith))

pub words-few : (bytes : List ℕ) (n i : ℕ) (rows : List ℕ)
    → length (words_at_ones bytes 0 (take n (part i rows_max rows))) ≤ rows_max
words-few bytes n i rows = let l = part i rows_max rows in
    omega (arith, ones-few bytes 0 (take n l), length-take n l, length-take rows_max (drop i rows))

pub shown-few : (c : Command) (st : Store) → length (rows_shown c st) ≤ rows_max
shown-few c st = scan-or (λ c. length (rows_shown c st) ≤ rows_max)
    (λ r p. let out = step (scan r p bits) st in
    words-few out.bytes (first_value (reply_of out.answer)) (rows_max * (partition_at p st).area) st.rows)
    (λ c o. rw (o _ _ _) (omega arith)) c

-- ---- the bytes of an answer

spaced-few : (vs : List ℕ) → length (gather spaced vs) ≤ 21 * length vs
spaced-few [] = omega arith
spaced-few (v ∷ vs) = let ih = spaced-few vs in
    rw (length-append (spaced v) (gather spaced vs)) (omega (arith, decimal-few v))

pub printed-few : (c : Command) (a : Answer) (shown : List ℕ) → length shown ≤ rows_max
    → length (printed c a shown) ≤ answer_max
unfolding printed
printed-few c a shown h = scan-or (λ c. length (printed c a shown) ≤ answer_max)
    (λ r p. fits (letter_of (Scan r p)) shown h)
    (λ c o. rw (o _ _ _) (fits (letter_of c) (reply_of a).values (omega (arith, values-few a)))) c
  where
    fits : (letter : ℕ) (vs : List ℕ) → length vs ≤ rows_max
        → length (line_of letter (reply_of a).number vs) ≤ answer_max
    fits letter vs g = let n = (reply_of a).number in
        omega (arith, length-line letter n vs, decimal-few n, spaced-few vs)

-- the answer to a line always fits
pub answer-few : (line : List ℕ) (st : Store) → length (answer_to line st) ≤ answer_max
unfolding answer_to
answer-few line st = by (parsed line)
  where
    by : (p : Option Call) → length (answer_is line p st) ≤ answer_max
    by (Some c) = printed-few c.command _ (rows_shown c.command st) (shown-few c.command st)
    by None = omega arith
