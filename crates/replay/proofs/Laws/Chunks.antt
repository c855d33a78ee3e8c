-- Input in chunks of any size has the answers of the whole input. Definitions: specs/Chunks.antt, specs/Lines.antt.
-- In order: lines of an input in two parts; the front of a line, cut where it is too long; all chunks.
-- Assumes nothing.
use mathlib.Core.Path.{◌≡◌, refl, sym, ◌∙◌, ap}
use mathlib.Core.Bool.{false}
use mathlib.Core.List.{List, [], ◌∷◌, ◌++◌, append_assoc, append-nil}
use Prim.Native.Nat.{ℕ, zero, suc, ◌+◌, ◌≤◌, ◌<◌}
use native.Mathlib.Omega.{arith}
use lib.Dec.{leb, eqb}
use lib.ListN.{length, take, drop, length-append}
use lib.Seq.{length-take-le, take-nil, take_all, take-append-le, drop-append-le, drop-append-add, drop-drop}
use borrow.Author.Tests.{leb-true, leb-false}
use Rattle.lists.specs.Lists.{gather}
use Rattle.lists.proofs.Laws.Bools.{split}
use Rattle.rules.specs.Store.{Store}
use Rattle.session_text.specs.Grammar.{line_max}
use Rattle.session_text.specs.Print.{question}
use Rattle.session_text.proofs.Laws.Calls.{long-line}
use Rattle.session_line.specs.Session.{after_line, answer_to, after_lines, answers_to}
use Rattle.session_line.specs.Rest.{kept_max}
use Rattle.replay.specs.Lines.{on_line, lines_in, bytes_of}
use Rattle.replay.specs.Chunks.{rest_in, last_line, session_lines, fed}
use Rattle.session_line.proofs.Laws.Session.{answers-append}
use Rattle.replay.proofs.Laws.Lines.{bytes-lines, bytes-append}

-- ---- an input in two parts: after the whole lines of the first, its rest goes before the second

lines-on : (a : ℕ) (xs bs : List ℕ) (ls : List (List ℕ)) → eqb a 10 ≡ false
    → lines_in (xs ++ bs) ≡ ls ++ lines_in (drop (bytes_of ls) xs ++ bs)
    → on_line a (lines_in (xs ++ bs)) ≡ on_line a ls ++ lines_in (drop (bytes_of (on_line a ls)) (a ∷ xs) ++ bs)
unfolding lines_in bytes_of
lines-on a xs bs [] f ih = rw f
lines-on a xs bs (l ∷ ls) f ih =
    let e : suc (length l) + 1 + bytes_of ls ≡ suc (length l + 1 + bytes_of ls) = omega arith in rw (ih, e)

lines-append : (xs bs : List ℕ) → lines_in (xs ++ bs) ≡ lines_in xs ++ lines_in (rest_in xs ++ bs)
unfolding lines_in bytes_of
lines-append [] bs = refl
lines-append (a ∷ xs) bs = let ih = lines-append xs bs in split (eqb a 10)
    (λ t. let e : 0 + 1 + bytes_of (lines_in xs) ≡ suc (bytes_of (lines_in xs)) = omega arith in
    rw (t, e) (ap (λ (ls : List (List ℕ)). [] ∷ ls) ih))
    (λ f. rw f (lines-on a xs bs (lines_in xs) f ih))

rest-append : (xs bs : List ℕ) → rest_in (xs ++ bs) ≡ rest_in (rest_in xs ++ bs)
rest-append xs bs = let n = bytes_of (lines_in xs) in let m = bytes_of (lines_in (rest_in xs ++ bs)) in
    ap (λ (k : ℕ). drop k (xs ++ bs)) (ap bytes_of (lines-append xs bs)
    ∙ bytes-append (lines_in xs) (lines_in (rest_in xs ++ bs)))
    ∙ (sym (drop-drop m n (xs ++ bs)) ∙ ap (drop m) (drop-append-le n xs bs (bytes-lines xs)))

-- the lines of an input in two parts
session-append : (xs bs : List ℕ) → session_lines (xs ++ bs) ≡ lines_in xs ++ session_lines (rest_in xs ++ bs)
session-append xs bs = (λ i. lines-append xs bs i ++ last_line (rest-append xs bs i))
    ∙ append_assoc (lines_in xs) (lines_in (rest_in xs ++ bs)) (last_line (rest_in (rest_in xs ++ bs)))

none_of : (ls : List (List ℕ)) → length ls ≡ 0 → ls ≡ []
none_of [] h = refl
none_of (l ∷ ls) h = absurd (omega arith)

-- the rest of an input has no line
rest_lines : (xs : List ℕ) → lines_in (rest_in xs) ≡ []
rest_lines xs = let e : lines_in xs ≡ lines_in xs ++ lines_in (rest_in xs) =
    (rw (append-nil xs, append-nil (rest_in xs)) at (lines-append xs [])) in
    none_of (lines_in (rest_in xs)) (omega (arith, ap length e, length-append (lines_in xs) (lines_in (rest_in xs))))

-- ---- a front of a line goes to the first line after it

abbrev before : List ℕ → List (List ℕ) → List (List ℕ)
before q [] = []
before q (l ∷ ls) = (q ++ l) ∷ ls

before-nil : (ls : List (List ℕ)) → ls ≡ before [] ls
before-nil [] = refl
before-nil (l ∷ ls) = refl

on-before : (a : ℕ) (q : List ℕ) (ls : List (List ℕ)) → on_line a (before q ls) ≡ before (a ∷ q) ls
on-before a q [] = refl
on-before a q (l ∷ ls) = refl

on_none : (a : ℕ) (ls : List (List ℕ)) → on_line a ls ≡ [] → ls ≡ []
on_none a [] h = refl
on_none a (l ∷ ls) h = cc

-- a front: bytes without a line end
front-tail : (a : ℕ) (q : List ℕ) → lines_in (a ∷ q) ≡ [] → (eqb a 10 ≡ false) × (lines_in q ≡ [])
unfolding lines_in
front-tail a q h = split (eqb a 10)
    (λ t. let z : ◌≡◌ {A = List (List ℕ)} ([] ∷ lines_in q) [] = (rw t at h) in
    absurd (omega (arith, ap length z)))
    (λ f. (f, on_none a (lines_in q) (rw f at h)))

front-take : (n : ℕ) (q : List ℕ) → lines_in q ≡ [] → lines_in (take n q) ≡ []
unfolding lines_in
front-take zero q h = refl
front-take (suc n) [] h = refl
front-take (suc n) (a ∷ q) h = let g = front-tail a q h in rw (g.0, front-take n q g.1)

lines-before : (q bs : List ℕ) → lines_in q ≡ [] → lines_in (q ++ bs) ≡ before q (lines_in bs)
unfolding lines_in
lines-before [] bs h = before-nil (lines_in bs)
lines-before (a ∷ q) bs h = let g = front-tail a q h in
    rw (g.0, lines-before q bs g.1) (on-before a q (lines_in bs))

-- ---- a line that is too long is `?`, however it goes on

long-answer : (q l : List ℕ) (st : Store) → line_max < length q
    → (answer_to (q ++ l) st ≡ question) × (after_line (q ++ l) st ≡ st)
unfolding answer_to after_line
long-answer q l st h = rw (long-line (q ++ l) (omega (arith, length-append q l))) (refl, refl)

-- two fronts that are too long, before the same lines
module _ (q r : List ℕ) (long-q : line_max < length q) (long-r : line_max < length r) where
  answers-long : (ls : List (List ℕ)) (st : Store) → answers_to (before q ls) st ≡ answers_to (before r ls) st
  unfolding answers_to
  answers-long [] st = refl
  answers-long (l ∷ ls) st = let a = long-answer q l st long-q in let b = long-answer r l st long-r in
      rw (a.0, a.1, b.0, b.1)

  after-long : (ls : List (List ℕ)) (st : Store) → after_lines (before q ls) st ≡ after_lines (before r ls) st
  unfolding after_lines
  after-long [] st = refl
  after-long (l ∷ ls) st = ap (after_lines ls) ((long-answer q l st long-q).1 ∙ sym (long-answer r l st long-r).1)

-- what is left after lines that a front begins does not depend on the front
rest-before : (q bs l : List ℕ) (ls : List (List ℕ))
    → drop (bytes_of (before q (l ∷ ls))) (q ++ bs) ≡ drop (bytes_of (l ∷ ls)) bs
unfolding bytes_of
rest-before q bs l ls = let n = length l + 1 + bytes_of ls in
    let e : length (q ++ l) + 1 + bytes_of ls ≡ length q + n = omega (arith, length-append q l) in
    rw e (drop-append-add q bs n)

last-long : (q : List ℕ) (st : Store) → line_max < length q → answers_to (last_line q) st ≡ question
unfolding answers_to
last-long [] st h = absurd (omega arith)
last-long (b ∷ q) st h = rw (append-nil (answer_to (b ∷ q) st))
    (ap (λ (l : List ℕ). answer_to l st) (sym (append-nil (b ∷ q)))
    ∙ (long-answer (b ∷ q) [] st h).0)

-- ---- the front as it is held, cut

kept_more : line_max < kept_max
unfolding kept_max
kept_more = omega arith

module _ (r : List ℕ) (front : lines_in r ≡ []) where
  abbrev cut : List ℕ
  cut = take kept_max r

  -- the lines, and what is held after them, as if it were not cut
  pub record Uncut (bs : List ℕ) : Type 0 where
    pub answers : (st : Store) → answers_to (lines_in (cut ++ bs)) st ≡ answers_to (lines_in (r ++ bs)) st
    pub store : (st : Store) → after_lines (lines_in (cut ++ bs)) st ≡ after_lines (lines_in (r ++ bs)) st
    pub held : take kept_max (rest_in (cut ++ bs)) ≡ take kept_max (rest_in (r ++ bs))

  held-long : kept_max ≤ length r → (bs : List ℕ) (ls : List (List ℕ))
      → take kept_max (drop (bytes_of (before cut ls)) (cut ++ bs))
      ≡ take kept_max (drop (bytes_of (before r ls)) (r ++ bs))
  unfolding bytes_of
  held-long h bs [] = let n = length-take-le kept_max r h in
      take-append-le kept_max cut bs (omega (arith, n)) ∙ (take_all kept_max cut (omega (arith, n))
      ∙ sym (take-append-le kept_max r bs h))
  held-long h bs (l ∷ ls) = ap (take kept_max) (rest-before cut bs l ls ∙ sym (rest-before r bs l ls))

  uncut : (bs : List ℕ) → Uncut bs
  uncut bs = split (leb (length r) kept_max)
      (λ t. let e = take_all kept_max r (leb-true (length r) kept_max t) in record {
        answers = λ st. ap (λ (q : List ℕ). answers_to (lines_in (q ++ bs)) st) e;
        store = λ st. ap (λ (q : List ℕ). after_lines (lines_in (q ++ bs)) st) e;
        held = ap (λ (q : List ℕ). take kept_max (rest_in (q ++ bs))) e;
      })
      (λ f. let h = leb-false (length r) kept_max f in let n = length-take-le kept_max r (omega arith) in
      let a = lines-before cut bs (front-take kept_max r front) in let b = lines-before r bs front in
      let lc : line_max < length cut = omega (arith, n, kept_more) in
      let lr : line_max < length r = omega (arith, kept_more) in
      record {
        answers = λ st. rw (a, b) (answers-long cut r lc lr (lines_in bs) st);
        store = λ st. rw (a, b) (after-long cut r lc lr (lines_in bs) st);
        held = rw (a, b) (held-long (omega arith) bs (lines_in bs));
      })

  last-cut : (st : Store) → answers_to (last_line cut) st ≡ answers_to (last_line r) st
  last-cut st = split (leb (length r) kept_max)
      (λ t. ap (λ (q : List ℕ). answers_to (last_line q) st) (take_all kept_max r (leb-true (length r) kept_max t)))
      (λ f. let h = leb-false (length r) kept_max f in let n = length-take-le kept_max r (omega arith) in
      let lc : line_max < length cut = omega (arith, n, kept_more) in
      let lr : line_max < length r = omega (arith, kept_more) in
      last-long cut st lc ∙ sym (last-long r st lr))

-- ---- all chunks: the answers are those to the lines of the whole input

joined : List (List ℕ) → List ℕ
joined cs = gather (λ (c : List ℕ). c) cs

fed-front : (cs : List (List ℕ)) (r : List ℕ) (st : Store) → lines_in r ≡ []
    → fed (take kept_max r) cs st ≡ answers_to (session_lines (r ++ joined cs)) st
unfolding fed bytes_of joined
fed-front [] r st h = rw (append-nil r, h) (last-cut r h st)
fed-front (c ∷ cs) r st h = let u = uncut r h c in let ls = lines_in (r ++ c) in let rest = rest_in (r ++ c) in
    let next = after_lines ls st in
    rw (
      u.answers st,
      u.store st,
      u.held,
      fed-front cs rest next (rest_lines (r ++ c)),
      ← append_assoc r c (joined cs),
      session-append (r ++ c) (joined cs),
    )
    (sym (answers-append ls (session_lines (rest ++ joined cs)) st))

pub chunks-joined : (cs : List (List ℕ)) (st : Store) → fed [] cs st
    ≡ answers_to (session_lines (gather (λ (c : List ℕ). c) cs)) st
unfolding joined lines_in
chunks-joined cs st = rw (take-nil kept_max) at (fed-front cs [] st refl)
