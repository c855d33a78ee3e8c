-- The pass that weighs, as a sum over a sound partition's entries. Definitions: specs/Weighed.antt;
-- rules/specs/Weight.antt.
-- In order: weight; the rows between two; the pass; what lands beside it.
-- Assumes nothing.
use mathlib.Core.Path.{◌≡◌, refl, ◌∙◌}
use mathlib.Core.Bool.{true, false, cond}
use mathlib.Core.List.{List, [], ◌∷◌, ◌++◌, foldl}
use Prim.Native.Nat.{ℕ, ◌+◌, ◌-◌, ◌*◌, ◌≤◌}
use native.Mathlib.Omega.{arith}
use lib.Dec.{leb}
use lib.ListN.{length, take, drop, length-take}
use lib.Seq.{take-add, drop-drop}
use borrow.Author.Tests.{leb-true, le-leb}
use Rattle.lists.specs.Lists.{part}
use Rattle.lists.proofs.Laws.Bools.{split}
use Rattle.lists.proofs.Laws.Parts.{take_part, drop-take}
use Rattle.rules.specs.Limits.{rows_max}
use Rattle.rules.specs.Weight.{weight}
use Rattle.rules.specs.WellFormed.{ends_ok}
use Rattle.rules.specs.declared.Entry.{Entry}
use Rattle.laws.proofs.Laws.Span.{end-ok, ends_ok-le}
use Rattle.laws.proofs.Laws.Weight.{weight_most}
use Rattle.totals.specs.Reach.{shows}
use Rattle.totals.specs.Weighed.{weighed, room, plus, closed_of, landed_of, tally_turn}
use Rattle.totals.specs.declared.Cut.{Cut}
use Rattle.totals.specs.declared.Cuts.{Cuts}
use Rattle.totals.specs.declared.Tally.{Tally}

-- ---- weight

pub weight-append : (xs ys : List ℕ) → weight (xs ++ ys) ≡ weight xs + weight ys
unfolding weight
weight-append [] ys = omega arith
weight-append (x ∷ xs) ys = let ih = weight-append xs ys in omega arith

-- ---- the rows from a up to b

abbrev pub rows_from : List ℕ → ℕ → ℕ → ℕ → List ℕ
rows_from rs base a b = part (base + a) (b - a) rs

module _ (rs : List ℕ) (base a b d : ℕ) (ab : a ≤ b) (bd : b ≤ d) where
  pub rows_split : rows_from rs base a d ≡ rows_from rs base a b ++ rows_from rs base b d
  rows_split = let x : d - a ≡ (b - a) + (d - b) = omega arith in
      let y : (base + a) + (b - a) ≡ base + b = omega arith in
      rw (x, take-add (b - a) (d - b) (drop (base + a) rs), drop-drop (b - a) (base + a) rs, y)

  pub rows_take : take (b - a) (rows_from rs base a d) ≡ rows_from rs base a b
  rows_take = take_part (base + a) (d - a) (b - a) rs (omega arith)

  pub rows_drop : drop (b - a) (rows_from rs base a d) ≡ rows_from rs base b d
  rows_drop = let x : d - a ≡ (b - a) + (d - b) = omega arith in
      let y : (base + a) + (b - a) ≡ base + b = omega arith in
      rw (x, drop-take (b - a) (d - b) (drop (base + a) rs), drop-drop (b - a) (base + a) rs, y)

rows_most : (rs : List ℕ) (base a b : ℕ) → weight (rows_from rs base a b) ≤ 4294967295 * (b - a)
rows_most rs base a b = let m = weight_most (rows_from rs base a b) in
    let l = length-take (b - a) (drop (base + a) rs) in omega arith

pub weighed-rows : (rs : List ℕ) (base a b : ℕ) → a ≤ b → b ≤ rows_max → base + b ≤ length rs
    → weighed rs base a b ≡ weight (rows_from rs base a b)
unfolding weighed
weighed-rows rs base a b h k l = rw (le-leb a b h, le-leb b rows_max k, le-leb (base + b) (length rs) l)

-- ---- the pass

-- of the entries that begin at row k, the rows that a cut shows
unfoldable pub shown_rows : List ℕ → Cut → ℕ → List Entry → List ℕ
shown_rows rs c k [] = []
shown_rows rs c k (e ∷ es) =
    cond (shows c k e.epoch) (rows_from rs c.base k e.end) [] ++ shown_rows rs c e.end es

-- what they weigh
unfoldable pub shown_sum : List ℕ → Cut → ℕ → List Entry → ℕ
shown_sum rs c k [] = 0
shown_sum rs c k (e ∷ es) =
    cond (shows c k e.epoch) (weight (rows_from rs c.base k e.end)) 0 + shown_sum rs c e.end es

pub rows-weigh : (rs : List ℕ) (c : Cut) (k : ℕ) (es : List Entry) → weight (shown_rows rs c k es) ≡ shown_sum rs c k es
unfolding shown_rows shown_sum weight
rows-weigh rs c k [] = refl
rows-weigh rs c k (e ∷ es) = let b = shows c k e.epoch in let ws = rows_from rs c.base k e.end in
    weight-append (cond b ws []) (shown_rows rs c e.end es)
    ∙ rw (rows-weigh rs c e.end es) (split b (λ y. rw y) (λ f. rw f))

-- a tally as the pass makes it: no row weighs more than 4,294,967,295
pub record Small (t : Tally) : Type 0 where
  pub ends : t.from ≤ t.end
  pub sums : t.sum ≤ 4294967295 * t.from

module _ (rs : List ℕ) (c : Cuts) (n : ℕ) (few : n ≤ rows_max) where
  abbrev base : ℕ
  base = c.shown.base

  end-turn : (t : Tally) (e : Entry) → (tally_turn rs c t e).end ≡ e.end
  end-turn t e = split (shows c.shown t.end e.epoch) (λ y. rw y) (λ f. rw f)

  module _ (fits : base + n ≤ length rs) where
    closed-rows : (t : Tally) → Small t → t.end ≤ n
        → closed_of rs base t ≡ t.sum + weight (rows_from rs base t.from t.end)
    unfolding closed_of plus weight
    closed-rows t s k = split (leb t.end t.from)
        (λ y. let g = leb-true t.end t.from y in let z : t.end - t.from ≡ 0 = let w = s.ends in omega arith in
        rw (y, z) (omega arith))
        (λ f. let m = rows_most rs base t.from t.end in let p = s.ends in let q = s.sums in
        rw (
          f,
          weighed-rows rs base t.from t.end p (omega arith) (omega arith),
          le-leb t.sum room (omega arith),
          le-leb (weight (rows_from rs base t.from t.end)) room (omega arith),
        ))

    small-turn : (t : Tally) (e : Entry) → Small t → t.end ≤ e.end → e.end ≤ n → Small (tally_turn rs c t e)
    small-turn t e s h k = let p = s.ends in let q = s.sums in split (shows c.shown t.end e.epoch)
        (λ y. rw y (record { ends = omega arith; sums = omega arith }))
        (λ f. let m = rows_most rs base t.from t.end in
        rw (f, closed-rows t s (omega arith)) (record { ends = omega arith; sums = omega arith }))

    closed-turn : (t : Tally) (e : Entry) → Small t → t.end ≤ e.end → e.end ≤ n
        → closed_of rs base (tally_turn rs c t e) ≡ closed_of rs base t
        + cond (shows c.shown t.end e.epoch) (weight (rows_from rs base t.end e.end)) 0
    closed-turn t e s h k = closed-rows (tally_turn rs c t e) (small-turn t e s h k) (rw (end-turn t e) k)
        ∙ split (shows c.shown t.end e.epoch)
        (λ y. let p = s.ends in rw (
          y,
          closed-rows t s (omega arith),
          rows_split rs base t.from t.end e.end p h,
          weight-append (rows_from rs base t.from t.end) (rows_from rs base t.end e.end),
        )
        (omega arith))
        (λ f. let z : e.end - e.end ≡ 0 = omega arith in rw (f, z) (unfold weight in refl))

    pub tally-sum : (es : List Entry) (t : Tally) → Small t → ends_ok n t.end es ≡ true
        → closed_of rs base (foldl (tally_turn rs c) t es) ≡ closed_of rs base t + shown_sum rs c.shown t.end es
    unfolding shown_sum
    tally-sum [] t s h = omega arith
    tally-sum (e ∷ es) t s h = let o = end-ok n t.end e es h in let g = ends_ok-le n e.end es o.rest in
        let u = tally_turn rs c t e in
        let ih = tally-sum es u (small-turn t e s o.low g) (rw (end-turn t e) o.rest) in
        ih ∙ rw (end-turn t e, closed-turn t e s o.low g) (omega arith)

  -- ---- what lands: of no entry whose rows are shown
  module _ (fits : c.lands.base + n ≤ length rs)
      (other : (k j : ℕ) → k ≤ n → shows c.lands k j ≡ true → shows c.shown k j ≡ false) where
    abbrev lands_sum : Tally → Entry → ℕ
    lands_sum t e =
        cond (shows c.lands t.end e.epoch) (weight (rows_from rs c.lands.base t.end e.end)) 0

    lands_most : (t : Tally) (e : Entry) → lands_sum t e ≤ 4294967295 * (e.end - t.end)
    lands_most t e = let m = rows_most rs c.lands.base t.end e.end in
        split (shows c.lands t.end e.epoch) (λ y. rw y m) (λ f. rw f (omega arith))

    more_turn : (t : Tally) (e : Entry) → t.more ≤ 4294967295 * t.end → t.end ≤ e.end → e.end ≤ n
        → (tally_turn rs c t e).more ≡ t.more + lands_sum t e
    unfolding landed_of plus
    more_turn t e s h k = let m = rows_most rs c.lands.base t.end e.end in
        split (shows c.lands t.end e.epoch)
        (λ y. rw (
          other t.end e.epoch (omega arith) y,
          y,
          weighed-rows rs c.lands.base t.end e.end h (omega arith) (omega arith),
          le-leb t.more room (omega arith),
          le-leb (weight (rows_from rs c.lands.base t.end e.end)) room (omega arith),
        ))
        (λ f. split (shows c.shown t.end e.epoch) (λ y. rw (y, f) (omega arith)) (λ z. rw (z, f) (omega arith)))

    pub more-sum : (es : List Entry) (t : Tally) → t.more ≤ 4294967295 * t.end → ends_ok n t.end es ≡ true
        → (foldl (tally_turn rs c) t es).more ≡ t.more + shown_sum rs c.lands t.end es
    unfolding shown_sum
    more-sum [] t s h = omega arith
    more-sum (e ∷ es) t s h = let o = end-ok n t.end e es h in let g = ends_ok-le n e.end es o.rest in
        let u = tally_turn rs c t e in let m = more_turn t e s o.low g in let w = lands_most t e in
        let low = o.low in let d = end-turn t e in
        let ih = more-sum es u (rw (end-turn t e, m) (omega arith)) (rw (end-turn t e) o.rest) in
        ih ∙ rw (end-turn t e, m) (omega arith)
