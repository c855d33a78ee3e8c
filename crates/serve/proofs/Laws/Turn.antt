-- Laws of a session's turn. Definitions: specs/Turn.antt, and replay's Lines and Chunks.
-- In order: bytes without a line end; a line end put behind them; some lines answered; a front of a line cut; what
-- answering leaves; where the bytes held lie; a read taken in; a turn.
-- Assumes nothing.
use mathlib.Core.Path.{◌≡◌, refl, sym, ◌∙◌, ap}
use mathlib.Core.Bool.{true, false}
use mathlib.Core.List.{List, [], ◌∷◌, ◌++◌, append_assoc, append-nil}
use Prim.Native.Nat.{ℕ, zero, suc, ◌+◌, ◌-◌, ◌≤◌, ◌<◌}
use native.Mathlib.Omega.{arith}
use lib.Dec.{eqb}
use native.Mathlib.Numerals.{add-one}
use lib.ListN.{length, take, drop, set, length-append, length-take, drop_of_length-le}
use lib.Seq.{length-take-le, take-nil, take-take, take-add, take-append_seam, take-suc-set, drop-drop}
use borrow.Author.Tests.{eqb-true}
use Rattle.lists.specs.Lists.{over}
use Rattle.lists.proofs.Laws.Bools.{split}
use Rattle.lists.proofs.Laws.Tests.{no_proof}
use Rattle.lists.proofs.Laws.Parts.{drop-take, length_part, length_over}
use Rattle.rules.specs.Store.{Store}
use Rattle.session_line.specs.Session.{after_lines, answers_to}
use Rattle.session_line.specs.Rest.{kept_max, kept}
use Rattle.replay.specs.Lines.{on_line, lines_in, bytes_of, replayed}
use Rattle.replay.specs.Chunks.{rest_in, last_line, session_lines, fed}
use Rattle.replay.proofs.Laws.Chunks.{chunks-joined}
use Rattle.replay.proofs.Laws.Flushes.{flush-answers, flush-after, flush-bytes, flush-none}
use Rattle.replay.proofs.Laws.Lines.{used-within, written-within}
use Rattle.session_line.proofs.Laws.Rest.{kept-within}
use Rattle.serve.specs.Turn.{
  Roomy,
  held_in,
  came_in,
  is_over,
  ended_by,
  closed,
  taken_in,
  owed,
  Standing,
  Opened,
  Answered,
  Turned,
}
use Rattle.serve.specs.declared.turn.Session.{Session}

-- ---- bytes without a line end

on_none : (a : ℕ) (ls : List (List ℕ)) → on_line a ls ≡ [] → ls ≡ []
on_none a [] h = refl
on_none a (l ∷ ls) h = cc

front-tail : (a : ℕ) (q : List ℕ) → lines_in (a ∷ q) ≡ [] → (eqb a 10 ≡ false) × (lines_in q ≡ [])
unfolding lines_in
front-tail a q h = split (eqb a 10)
    (λ t. let z : ◌≡◌ {A = List (List ℕ)} ([] ∷ lines_in q) [] = (rw t at h) in absurd (omega (arith, ap length z)))
    (λ f. (f, on_none a (lines_in q) (rw f at h)))

pub front-take : (n : ℕ) (q : List ℕ) → lines_in q ≡ [] → lines_in (take n q) ≡ []
unfolding lines_in
front-take zero q h = refl
front-take (suc n) [] h = refl
front-take (suc n) (a ∷ q) h = let g = front-tail a q h in rw (g.0, front-take n q g.1)

pub front_rest : (q : List ℕ) → lines_in q ≡ [] → rest_in q ≡ q
unfolding bytes_of
front_rest q h = rw h

-- ---- a line end put behind them

line-closed : (q : List ℕ) → lines_in q ≡ [] → lines_in (q ++ 10 ∷ []) ≡ q ∷ []
unfolding lines_in
line-closed [] h = refl
line-closed (a ∷ q) h = let g = front-tail a q h in rw (g.0, line-closed q g.1)

rest-closed : (q : List ℕ) → lines_in q ≡ [] → rest_in (q ++ 10 ∷ []) ≡ []
unfolding bytes_of
rest-closed q h = rw (line-closed q h)
    (drop_of_length-le (q ++ 10 ∷ []) {i = length q + 1 + 0} (omega (arith, length-append q (10 ∷ []))))

pub closed-rest : (q : List ℕ) → lines_in q ≡ [] → rest_in (closed q) ≡ []
unfolding bytes_of lines_in
closed-rest [] h = refl
closed-rest (b ∷ q) h = rest-closed (b ∷ q) h

pub closed-lines : (q : List ℕ) → lines_in q ≡ [] → session_lines (closed q) ≡ session_lines q
closed-lines [] h = refl
closed-lines (b ∷ q) h = (λ i. line-closed (b ∷ q) h i ++ last_line (rest-closed (b ∷ q) h i))
    ∙ sym (λ i. h i ++ last_line (front_rest (b ∷ q) h i))

closed_some : (q : List ℕ) → (length q ≡ 0 → ⊥) → closed q ≡ q ++ 10 ∷ []
closed_some [] h = absurd (h refl)
closed_some (b ∷ q) h = refl

-- as the code does it
pub closed-put : (input : List ℕ) (end : ℕ) → end < length input → (end ≡ 0 → ⊥)
    → (take (end + 1) (set input end 10) ≡ closed (take end input)) × (end + 1 ≡ length (closed (take end input)))
closed-put input end h some = let q = take end input in
    let n : length q ≡ end = length-take-le end input (omega arith) in
    let e = closed_some q (λ z. some (sym n ∙ z)) in
    (rw (add-one end) (take-suc-set input end 10 h ∙ sym e), rw e (omega (arith, length-append q (10 ∷ []), n)))

-- ---- some lines answered: what is owed is what is written, then what is owed after it

-- what is owed, by the whole lines and the rest
owed-parts : (bs more : List ℕ) (st : Store) → owed bs more st
    ≡ answers_to (lines_in bs) st ++ fed (take kept_max (rest_in bs)) (more ∷ []) (after_lines (lines_in bs) st)
unfolding fed
owed-parts bs more st = sym (rw (append-nil more) at (chunks-joined (bs ∷ more ∷ []) st))

module _ (numbers out bs : List ℕ) (st : Store) where
  abbrev ls : List (List ℕ)
  ls = replayed numbers out bs st

  abbrev left : List ℕ
  left = drop (bytes_of ls) bs

  pub rest-left : rest_in bs ≡ rest_in left
  rest-left = ap (λ (k : ℕ). drop k bs) (flush-bytes numbers out bs st)
      ∙ sym (drop-drop (bytes_of (lines_in left)) (bytes_of ls) bs)

  pub owed-some : (more : List ℕ) → owed bs more st ≡ answers_to ls st ++ owed left more (after_lines ls st)
  owed-some more = let next = after_lines ls st in
      let f : List ℕ = fed (take kept_max (rest_in left)) (more ∷ []) (after_lines (lines_in left) next) in
      owed-parts bs more st
      ∙ (rw (flush-answers numbers out bs st, flush-after numbers out bs st, rest-left)
      (append_assoc (answers_to ls st) (answers_to (lines_in left) next) f)
      ∙ ap (λ (o : List ℕ). answers_to ls st ++ o) (sym (owed-parts left more next)))

-- ---- a front of a line cut where it is too long

pub owed-cut : (q more : List ℕ) (st : Store) → lines_in q ≡ [] → owed q more st ≡ owed (take kept_max q) more st
unfolding answers_to after_lines bytes_of
owed-cut q more st h = let cut = take kept_max q in let g = front-take kept_max q h in
    let a : owed q more st ≡ fed (take kept_max q) (more ∷ []) st = rw h at (owed-parts q more st) in
    let b : owed cut more st ≡ fed (take kept_max cut) (more ∷ []) st = rw g at (owed-parts cut more st) in
    a ∙ sym (rw (take-take kept_max kept_max q (omega arith)) at b)

-- ---- bytes written at the front of a buffer

at_front : (a l buffer : List ℕ) (n : ℕ) → n ≡ length a → buffer ≡ over 0 a l → take n buffer ≡ a
at_front a l buffer n e b = rw (b, e) (take-append_seam a (drop (0 + length a) l))

-- ---- what answering leaves of the bytes from `from` to `end` of a buffer

module _ (numbers out input : List ℕ) (st : Store) (from end : ℕ) (order : from ≤ end) (within : end ≤ length input)
  where
    -- as the code lends them
    abbrev lent : List ℕ
    lent = take (end - from) (drop from input)

    abbrev held : List ℕ
    held = drop from (take end input)

    held-lent : held ≡ lent
    held-lent = let e : from + (end - from) ≡ end = omega arith in rw e at (drop-take from (end - from) input)

    abbrev lines : List (List ℕ)
    lines = replayed numbers out lent st

    module _ (used written : ℕ) (wrote : List ℕ) (after : Store) (is-used : used ≡ bytes_of lines)
        (is-written : written ≡ length (answers_to lines st)) (is-wrote : wrote ≡ over 0 (answers_to lines st) out)
        (is-after : after ≡ after_lines lines st) where
      owing : (more : List ℕ) → owed held more st ≡ take written wrote ++ owed (drop used held) more after
      owing more = let a = answers_to lines st in
          rw (held-lent, at_front a out wrote written is-written is-wrote, is-used, is-after)
          (owed-some numbers out lent st more)

      fits : written ≤ length wrote
      fits = let w = written-within numbers out lent st in
          omega (arith, is-written, w, ap length is-wrote, length_over 0 (answers_to lines st) out (omega (arith, w)))

      pub used-end : from + used ≤ end
      used-end = omega (
        arith,
        is-used,
        used-within numbers out lent st,
        length_part from (end - from) input (omega arith),
      )

      -- lines are left, or may be
      pub answered-some : (r : Session) → r.from ≡ from + used → r.end ≡ end → r.written ≡ written
          → r.reads ≡ false → Answered held st r input wrote after
      answered-some r f e w d = let h : held_in r input ≡ drop used held = rw (f, e) (sym (drop-drop used from
          (take end input))) in
          record {
            owing = λ more. rw (w, h) (owing more);
            size = rw w fits;
            order = omega (arith, f, e, used-end);
            within = omega (arith, e);
            front = λ t. no_proof (sym d ∙ t);
            lines = λ t. no_proof (sym d ∙ t);
            last = λ n. rw h (ap (λ (l : List ℕ). rest_in (drop used l)) held-lent
                ∙ (ap (λ (k : ℕ). rest_in (drop k lent)) is-used
                ∙ (sym (rest-left numbers out lent st) ∙ (ap rest_in (sym held-lent) ∙ n))));
          }

      -- no line is left, and the rest is moved to the front
      module _ (room : Roomy numbers input out) (none : used ≡ 0) (moved : List ℕ) (n : ℕ)
          (is-n : n ≡ length (kept input from end)) (is-moved : moved ≡ over 0 (kept input from end) input) where
        front : lines_in held ≡ []
        front = rw held-lent (flush-none numbers out lent st room.for-numbers room.for-answer
            (sym is-used ∙ none))

        cut : take n moved ≡ take kept_max held
        cut = at_front (kept input from end) input moved n is-n is-moved ∙ ap (take kept_max) (sym held-lent)

        pub answered-none : (r : Session) → r.from ≡ 0 → r.end ≡ n → r.written ≡ written → Answered held st r moved
            wrote after
        answered-none r f e w = let h : held_in r moved ≡ take kept_max held = rw (f, e) cut in
            let g = front-take kept_max held front in
            record {
              owing = λ more. rw (w, h) (rw none at (owing more)
                  ∙ ap (λ (l : List ℕ). take written wrote ++ l) (owed-cut held more after front));
              size = rw w fits;
              order = omega (arith, f);
              within = omega (
                arith,
                e,
                is-n,
                kept-within input from end,
                ap length is-moved,
                length_over 0 (kept input from end) input (omega (arith, kept-within input from end)),
              );
              front = λ t. (f, omega (arith, e, is-n, length-take kept_max lent));
              lines = λ t. rw h g;
              last = λ z. rw h (front_rest (take kept_max held) g
                  ∙ (ap (take kept_max) (sym (front_rest held front) ∙ z) ∙ take-nil kept_max));
            }

-- ---- where the bytes held lie

pub opened-none : (s : Session) (input : List ℕ) → Opened s → held_in s input ≡ []
opened-none s input o = rw (o.from, o.end)

pub opened-stands : (s : Session) (input : List ℕ) → Opened s → Standing s input
unfolding lines_in
opened-stands s input o = record {
  order = omega (arith, o.from);
  within = omega (arith, o.end);
  front = λ _. (o.from, omega (arith, o.end));
  lines = λ _. rw (opened-none s input o);
  last = λ y. no_proof (sym o.ended ∙ y);
}

-- what lies behind them does not matter
pub stands_same : (s : Session) (input next : List ℕ) → length next ≡ length input
    → take s.end next ≡ take s.end input → Standing s input → Standing s next
stands_same s input next n e k = record {
  order = k.order;
  within = omega (arith, k.within, n);
  front = k.front;
  lines = λ t. ap (λ (l : List ℕ). lines_in (drop s.from l)) e ∙ k.lines t;
  last = λ y. ap (λ (l : List ℕ). rest_in (drop s.from l)) e ∙ k.last y;
}

-- ---- a read taken in

module _ (s : Session) (n : ℕ) (input : List ℕ) (stands : Standing s input) where
  abbrev front_of : List ℕ
  front_of = taken_in s.reads (is_over n) n s.end input

  abbrev taken : List ℕ
  taken = drop s.from front_of

  pub record Taken : Type 0 where
    pub owing : (more : List ℕ) → (ended_by s n ≡ true → more ≡ []) → (st : Store)
        → owed (held_in s input ++ came_in s n input) more st ≡ owed taken more st
    pub last : ended_by s n ≡ true → rest_in taken ≡ []
    pub order : s.from ≤ length front_of

  -- nothing was wanted
  taken_not : s.reads ≡ false → Taken
  taken_not f = record {
    owing = λ more _ st. rw (f, append-nil (held_in s input));
    last = λ t. rw f (stands.last (rw f at t));
    order = rw f (omega (arith, length-take-le s.end input stands.within, stands.order));
  }

  module _ (t : s.reads ≡ true) where
    abbrev whole : List ℕ
    whole = take s.end input

    is_front : held_in s input ≡ whole
    is_front = rw (stands.front t).0

    no_lines : lines_in whole ≡ []
    no_lines = rw is_front at (stands.lines t)

    -- nothing came
    taken-end : is_over n ≡ true → Taken
    taken-end e = let z = eqb-true n 0 e in record {
      owing = λ more m st. let no = m (rw (t, e)) in
          rw (no, t, e, z, (stands.front t).0, append-nil whole, append-nil whole, append-nil (closed whole))
          (ap (λ (l : List (List ℕ)). answers_to l st) (sym (closed-lines whole no_lines)));
      last = λ _. rw (t, e, (stands.front t).0) (closed-rest whole no_lines);
      order = omega (arith, (stands.front t).0);
    }

    taken_more : is_over n ≡ false → Taken
    taken_more e = record {
      owing = λ more _ st. rw (t, e, (stands.front t).0, take-add s.end n input);
      last = λ y. no_proof (sym (rw (t, e)) ∙ y);
      order = omega (arith, (stands.front t).0);
    }

  pub take-taken : Taken
  take-taken = split s.reads (λ t. split (is_over n) (taken-end t) (taken_more t)) taken_not

  -- ---- a turn

  pub turned : (st : Store) (r : Session) (now out : List ℕ) (after : Store) (held : List ℕ) → held ≡ taken
      → r.ended ≡ ended_by s n → Answered held st r now out after → Turned s n input st r now out after
  turned st r now out after held is e a = let k = take-taken in record {
    ended = e;
    owing = λ more m. k.owing more (rw e at m) st ∙ (ap (λ (l : List ℕ). owed l more st) (sym is) ∙ a.owing more);
    size = a.size;
    stands = record {
      order = a.order;
      within = a.within;
      front = a.front;
      lines = a.lines;
      last = λ y. a.last (ap rest_in is ∙ k.last (sym e ∙ y));
    };
  }
