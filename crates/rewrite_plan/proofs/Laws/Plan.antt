-- Plans, entry by entry. Definitions: specs/Plan.antt.
-- In order: how many places a plan has; lengths; the epoch at an index; rows hidden by the greatest delete; one more
-- place of a plan.
-- Assumes nothing.
use mathlib.Core.Path.{◌≡◌, refl, sym, ap, ◌∙◌}
use mathlib.Core.Bool.{Bool}
use mathlib.Core.List.{List, [], ◌∷◌}
use Prim.Native.Nat.{ℕ, zero, suc, ◌+◌, ◌≤◌, ◌<◌}
use native.Mathlib.Omega.{arith}
use mir.Val.{Val}
use denote.Laws.{Is}
use denote.Struct.Declared.{row}
use lib.ListN.{length, take, drop, get_or, set}
use lib.Seq.{take_all}
use Rattle.lists.specs.Lists.{pad}
use Rattle.lists.proofs.Laws.Places.{pad-next}
use Rattle.rules.specs.Limits.{entries_max}
use Rattle.rules.specs.Span.{Span}
use Rattle.rules.specs.Sees.{up_to}
use Rattle.rules.specs.Hides.{hidden}
use Rattle.rules.specs.declared.Entry.{Entry}
use Rattle.rules.specs.Top.{Top, top_delete, covers}
use Rattle.laws.proofs.Laws.TopDelete.{hidden-top}
use Rattle.rules.specs.Bare.{bare_span, bare}
use Rattle.lent.specs.Entries.{none}
use Rattle.rewrite_plan.specs.declared.Plan.{Plan}
use Rattle.rewrite_plan.specs.contracts.Plan as plan-type
use Rattle.rewrite_plan.specs.Plan.{roll_epoch, roll_epochs, purge_epoch, purge_epochs}

pub plan-length : (p : Plan) (vs : List Val) → Is (row plan-type.the_type) p vs → length p.at ≡ entries_max
plan-length p vs g = g.1.1.0.1.0.1

-- ---- lengths

length-bare : (m : ℕ) (es : List Entry) → length (bare m es) ≡ length es
unfolding bare
length-bare m [] = refl
length-bare m (e ∷ es) = ap suc (length-bare e.end es)

pub length-roll : (i : ℕ) (ss : List Span) → length (roll_epochs i ss) ≡ length ss
unfolding roll_epochs
length-roll i [] = refl
length-roll i (s ∷ ss) = ap suc (length-roll i ss)

pub length-purge : (l : ℕ) (all ss : List Span) → length (purge_epochs l all ss) ≡ length ss
unfolding purge_epochs
length-purge l all [] = refl
length-purge l all (s ∷ ss) = ap suc (length-purge l all ss)

-- ---- the epoch at an index

pub roll-at : (i m : ℕ) (es : List Entry) (k : ℕ) → k < length es
    → get_or (roll_epochs i (bare m es)) k 0 ≡ roll_epoch i (bare_span 0 (get_or es k none))
unfolding bare roll_epochs
roll-at i m [] k h = absurd (omega arith)
roll-at i m (e ∷ es) zero h = refl
roll-at i m (e ∷ es) (suc k) h = roll-at i e.end es k (omega arith)

pub purge-at : (l : ℕ) (all : List Span) (m : ℕ) (es : List Entry) (k : ℕ) → k < length es
    → get_or (purge_epochs l all (bare m es)) k 0
    ≡ purge_epoch l (hidden (up_to l) all (drop k (bare m es)) (get_or es k none).epoch)
    (bare_span 0 (get_or es k none))
unfolding bare purge_epochs
purge-at l all m [] k h = absurd (omega arith)
purge-at l all m (e ∷ es) zero h = refl
purge-at l all m (e ∷ es) (suc k) h = purge-at l all e.end es k (omega arith)

-- ---- rows hidden by the greatest delete

pub purge-top : (l : ℕ) (es : List Entry) (k : ℕ) → k < length es
    → let all = bare 0 es in let e = get_or es k none in
    get_or (purge_epochs l all all) k 0
    ≡ purge_epoch l (covers (top_delete (up_to l) all) k e.epoch) (bare_span 0 e)
purge-top l es k h = purge-at l (bare 0 es) 0 es k h
    ∙ ap (λ (b : Bool). purge_epoch l b (bare_span 0 (get_or es k none)))
    (hidden-top (up_to l) (bare 0 es) k (get_or es k none).epoch)

-- ---- a plan of entries that fit in an area, place by place

module _ (es : List Entry) (few : length es ≤ entries_max) where
  pub plan-next : (ps : List ℕ) → length ps ≡ length (bare 0 es) → (k v : ℕ) → k < length es → get_or ps k 0 ≡ v
      → set (pad entries_max 0 (take k ps)) k v ≡ pad entries_max 0 (take (k + 1) ps)
  plan-next ps each k v h e = let n = length-bare 0 es in
      rw (← e) (pad-next entries_max 0 0 ps k (omega arith) (omega arith))

  pub roll-next : (i k : ℕ) → k < length es → let ps = roll_epochs i (bare 0 es) in
      set (pad entries_max 0 (take k ps)) k (roll_epoch i (bare_span 0 (get_or es k none)))
      ≡ pad entries_max 0 (take (k + 1) ps)
  roll-next i k h = plan-next (roll_epochs i (bare 0 es)) (length-roll i (bare 0 es)) k _ h (roll-at i 0 es k h)

  pub purge-next : (l k : ℕ) → k < length es → (top : Top) → top ≡ top_delete (up_to l) (bare 0 es) →
      let ps = purge_epochs l (bare 0 es) (bare 0 es) in let e = get_or es k none in
      set (pad entries_max 0 (take k ps)) k (purge_epoch l (covers top k e.epoch) (bare_span 0 e))
      ≡ pad entries_max 0 (take (k + 1) ps)
  purge-next l k h top t = let ss = bare 0 es in let e = get_or es k none in
      plan-next (purge_epochs l ss ss) (length-purge l ss ss) k _ h
      (purge-top l es k h ∙ ap (λ (o : Top). purge_epoch l (covers o k e.epoch) (bare_span 0 e)) (sym t))

module _ (es : List Entry) (k : ℕ) (all : length es ≤ k) where
  pub roll-all : (i : ℕ) → take k (roll_epochs i (bare 0 es)) ≡ roll_epochs i (bare 0 es)
  roll-all i = let n = length-bare 0 es in let m = length-roll i (bare 0 es) in
      take_all k (roll_epochs i (bare 0 es)) (omega arith)

  pub purge-all : (l : ℕ) → let ss = bare 0 es in take k (purge_epochs l ss ss) ≡ purge_epochs l ss ss
  purge-all l = let ss = bare 0 es in let n = length-bare 0 es in let m = length-purge l ss ss in
      take_all k (purge_epochs l ss ss) (omega arith)
