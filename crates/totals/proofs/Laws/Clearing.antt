-- The greatest clearing in reach, by the pass over a partition's entries. Definitions: specs/Reach.antt.
-- In order: epochs in reach; it is the greatest; it is in reach; where it stands; whether there is one.
-- Assumes nothing.
use mathlib.Core.Path.{◌≡◌, refl, sym, ◌∙◌, ap}
use mathlib.Core.Bool.{Bool, true, false, not, ◌&&◌, ◌||◌, or_assoc}
use mathlib.Core.Logic.{◌⊎◌, inl, inr, ⊎_elim}
use mathlib.Core.List.{List, [], ◌∷◌, foldl}
use Prim.Native.Nat.{ℕ, ◌-◌, ◌≤◌, ◌<◌}
use native.Mathlib.Omega.{arith}
use lib.Dec.{ltb, leb, eqb}
use lib.ListN.{take, drop}
use borrow.Author.Tests.{ltb-true, ltb-false, leb-true, leb-false, eqb-true, eqb-false, lt-ltb, le-ltb, lt-leb, eq-eqb}
use borrow.Author.Tests.{ne_eqb}
use Rattle.lists.specs.Lists.{any_of}
use Rattle.lists.proofs.Laws.All.{All}
use Rattle.lists.proofs.Laws.Bools.{split, and_left, and_right, and_assoc, or_right, or-false, or-false_right}
use Rattle.lists.proofs.Laws.Filter.{any_of-same}
use Rattle.lists.proofs.Laws.Tests.{and_comm}
use Rattle.rules.specs.Span.{Span, is_delete, spans}
use Rattle.rules.specs.WellFormed.{ends_ok}
use Rattle.rules.specs.declared.Entry.{Entry}
use Rattle.laws.proofs.Laws.Span.{end-ok}
use Rattle.totals.specs.Reach.{in_reach, no_top, top_turn}
use Rattle.totals.specs.declared.Reach.{Reach}
use Rattle.totals.specs.declared.Top.{Top}

-- ---- epochs in reach

-- the test that hidden makes of a span, of the epochs in reach
abbrev pub hides : Reach → (ℕ → Bool) → Span → Bool
hides r q s = is_delete s && (in_reach r s.epoch && q s.epoch)

-- an entry that is a clearing in reach
abbrev clears : Reach → Entry → Bool
clears r e = eqb e.mark 1 && in_reach r e.epoch

pub reach-over : (r : Reach) (j : ℕ) → in_reach r j ≡ true → r.over < j
unfolding in_reach
reach-over r j h = ltb-true r.over j (and_left (ltb r.over j) (leb j r.high)
    (and_left (ltb r.over j && leb j r.high) (not (eqb j r.gone)) h))

pub reach-last : (r : Reach) (j : ℕ) → in_reach r j ≡ leb j r.high && not (eqb j r.gone) && ltb r.over j
unfolding in_reach
reach-last r j = and_assoc (ltb r.over j) (leb j r.high) (not (eqb j r.gone))
    ∙ and_comm (ltb r.over j) (leb j r.high && not (eqb j r.gone))

-- an empty reach
pub reach-none : (r : Reach) → r.high ≡ r.over → (j : ℕ) → in_reach r j ≡ false
unfolding in_reach
reach-none r e j = split (ltb r.over j)
    (λ t. let g = ltb-true r.over j t in rw (t, lt-leb j r.high (omega arith)))
    (λ f. rw f)

-- ---- the greatest

module _ (r : Reach) where
  abbrev pub top_of : Top → List Entry → Top
  top_of t es = foldl (top_turn r) t es

  top-turn : (t : Top) (e : Entry) (j : ℕ) → ltb j (top_turn r t e).epoch
      ≡ ltb j t.epoch || (eqb e.mark 1 && (in_reach r e.epoch && ltb j e.epoch))
  top-turn t e j = split (eqb e.mark 1)
      (λ m. split (in_reach r e.epoch)
      (λ i. rw (m, i) (split (leb t.epoch e.epoch)
      (λ y. let g = leb-true t.epoch e.epoch y in rw y (split (ltb j t.epoch)
      (λ u. let v = ltb-true j t.epoch u in rw (u, lt-ltb j e.epoch (omega arith)))
      (λ u. rw u)))
      (λ f. let g = leb-false t.epoch e.epoch f in rw f (split (ltb j t.epoch)
      (λ u. rw u)
      (λ u. let v = ltb-false j t.epoch u in rw (u, le-ltb j e.epoch (omega arith)))))))
      (λ i. rw (m, i) (sym (or-false (ltb j t.epoch)))))
      (λ m. rw m (sym (or-false (ltb j t.epoch))))

  top_from : (t : Top) (n : ℕ) (es : List Entry) (ws : List ℕ) (j : ℕ)
      → ltb j (top_of t es).epoch ≡ ltb j t.epoch || any_of (hides r (ltb j)) (spans n es ws)
  unfolding spans
  top_from t n [] ws j = sym (or-false (ltb j t.epoch))
  top_from t n (e ∷ es) ws j = let ss = spans e.end es (drop (e.end - n) ws) in
      top_from (top_turn r t e) e.end es (drop (e.end - n) ws) j
      ∙ rw (top-turn t e j) (or_assoc (ltb j t.epoch)
      (eqb e.mark 1 && (in_reach r e.epoch && ltb j e.epoch)) (any_of (hides r (ltb j)) ss))

  -- behind the pass no clearing in reach is greater
  pub none_greater : (t : Top) (n : ℕ) (es : List Entry) (ws : List ℕ)
      → any_of (hides r (ltb (top_of t es).epoch)) (spans n es ws) ≡ false
  none_greater t n es ws = let u = top_of t es in
      or-false_right (ltb u.epoch t.epoch) (any_of (hides r (ltb u.epoch)) (spans n es ws))
      (sym (top_from t n es ws u.epoch) ∙ le-ltb u.epoch u.epoch (omega arith))

  pub top-greatest : (n : ℕ) (es : List Entry) (ws : List ℕ) (j : ℕ)
      → any_of (hides r (ltb j)) (spans n es ws) ≡ ltb j (top_of no_top es).epoch
  top-greatest n es ws j = sym (top_from no_top n es ws j ∙ rw (le-ltb j 0 (omega arith)))

  -- ---- in reach, where there is one

  abbrev pub Reached : Top → Type 0
  Reached t = (t.epoch ≡ 0) ⊎ (in_reach r t.epoch ≡ true)

  pub top_reached : (es : List Entry) (t : Top) → Reached t → Reached (top_of t es)
  top_reached [] t h = h
  top_reached (e ∷ es) t h = top_reached es (top_turn r t e) (split (clears r e && leb t.epoch e.epoch)
      (λ y. rw y (inr (and_right (eqb e.mark 1) (in_reach r e.epoch)
      (and_left (clears r e) (leb t.epoch e.epoch) y))))
      (λ f. rw f h))

  -- ---- where it stands

  -- of u after the spans ss, t before them: one of its epoch stands there and ends from n on, or t is the one
  abbrev pub Stands : Top → Top → ℕ → List Span → Type 0
  Stands t u n ss = ((any_of (hides r (eqb u.epoch)) ss ≡ true) × (n ≤ u.edge))
      ⊎ ((any_of (hides r (eqb u.epoch)) ss ≡ false) × (u ≡ t))

  -- a clearing that is smaller
  skipped : (t : Top) (e : Entry) → clears r e && leb t.epoch e.epoch ≡ false
      → eqb e.mark 1 && (in_reach r e.epoch && eqb t.epoch e.epoch) ≡ false
  skipped t e f = split (eqb e.mark 1)
      (λ m. split (in_reach r e.epoch)
      (λ i. let g = leb-false t.epoch e.epoch (rw (m, i) at f) in
      rw (m, i) (ne_eqb t.epoch e.epoch (λ q. omega arith)))
      (λ i. rw (m, i)))
      (λ m. rw m)

  stands-turn : (t u : Top) (e : Entry) (ws : List ℕ) (ss : List Span) → Stands (top_turn r t e) u e.end ss
      → Stands t u e.end (record { epoch = e.epoch; mark = e.mark; words = ws } ∷ ss)
  stands-turn t u e ws ss (inl p) =
      inl (
        or_right (eqb e.mark 1 && (in_reach r e.epoch && eqb u.epoch e.epoch))
            (any_of (hides r (eqb u.epoch)) ss) p.0,
        p.1,
      )
  stands-turn t u e ws ss (inr p) = split (clears r e && leb t.epoch e.epoch)
      (λ y. let q : u ≡ record { epoch = e.epoch; edge = e.end } = p.1 ∙ rw y in
      let v = and_left (clears r e) (leb t.epoch e.epoch) y in
      inl (
        rw (
          and_left (eqb e.mark 1) (in_reach r e.epoch) v,
          and_right (eqb e.mark 1) (in_reach r e.epoch) v,
          q,
          eq-eqb e.epoch e.epoch refl,
        ),
        rw q (omega arith),
      ))
      (λ f. let q : u ≡ t = p.1 ∙ rw f in inr (rw (q, skipped t e f) p.0, q))

  top-stands : (rows n : ℕ) (es : List Entry) (ws : List ℕ) (t : Top) → ends_ok rows n es ≡ true
      → Stands t (top_of t es) n (spans n es ws)
  unfolding spans
  top-stands rows n [] ws t h = inr (refl, refl)
  top-stands rows n (e ∷ es) ws t h = let o = end-ok rows n e es h in let vs = drop (e.end - n) ws in
      let ih = top-stands rows e.end es vs (top_turn r t e) o.rest in
      ⊎_elim (λ p. inl (p.0, omega (arith, o.low, p.1))) (λ p. inr p)
      (stands-turn t (top_of t (e ∷ es)) e (take (e.end - n) ws) (spans e.end es vs) ih)

  pub stands-first : (rows n : ℕ) (e : Entry) (es : List Entry) (ws : List ℕ) (t : Top) → ends_ok rows n (e ∷ es) ≡ true
      → Stands t (top_of t (e ∷ es)) e.end (spans n (e ∷ es) ws)
  unfolding spans
  stands-first rows n e es ws t h = let vs = drop (e.end - n) ws in
      stands-turn t (top_of t (e ∷ es)) e (take (e.end - n) ws) (spans e.end es vs)
      (top-stands rows e.end es vs (top_turn r t e) (end-ok rows n e es h).rest)

  pub edge-turn : (t : Top) (e : Entry) → t.edge ≤ e.end → (top_turn r t e).edge ≤ e.end
  edge-turn t e h = split (clears r e && leb t.epoch e.epoch) (λ y. rw y (omega arith)) (λ f. rw f h)

-- ---- 0 exactly where none is in reach

pub top-none : (r : Reach) (es : List Entry) (ws : List ℕ) → eqb (foldl (top_turn r) no_top es).epoch 0
    ≡ not (any_of (λ s. is_delete s && in_reach r s.epoch) (spans 0 es ws))
top-none r es ws = let t = foldl (top_turn r) no_top es in
    zero-not t.epoch ∙ ap not (sym (top-greatest r 0 es ws 0)
    ∙ any_of-same (hides r (ltb 0)) (λ s. is_delete s && in_reach r s.epoch) (spans 0 es ws) (λ s m. above s))
  where
    zero-not : (x : ℕ) → eqb x 0 ≡ not (ltb 0 x)
    zero-not x = split (eqb x 0)
        (λ y. let g = eqb-true x 0 y in rw (y, le-ltb 0 x (omega arith)))
        (λ f. let g = eqb-false x 0 f in rw (f, lt-ltb 0 x (omega arith)))

    above : (s : Span) → hides r (ltb 0) s ≡ is_delete s && in_reach r s.epoch
    above s = split (in_reach r s.epoch)
        (λ y. let g = reach-over r s.epoch y in rw (y, lt-ltb 0 s.epoch (omega arith)))
        (λ f. rw f)

-- with no clearing in reach the pass leaves what was
pub top-still : (r : Reach) (t : Top) (es : List Entry) → All (λ e. eqb e.mark 1 && in_reach r e.epoch ≡ false) es
    → foldl (top_turn r) t es ≡ t
top-still r t [] h = refl
top-still r t (e ∷ es) h = rw h.0 (top-still r t es h.1)
