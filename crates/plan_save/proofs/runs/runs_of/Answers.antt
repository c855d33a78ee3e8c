-- `plan_save::runs::runs_of` meets its contract. A turn of the outer loop finds where partition p lies, from where on
-- it
-- is gone over, and its greatest clearing; one of the inner takes the entry at i to the pending run, and stores the
-- word
-- of that at its place.
-- Assumes nothing.
use Rattle.std.proofs.Common.{◌≡◌, ◌+◌, ◌-◌, ◌<◌, refl, ap, suc, add-one, arith, ltb-true}
use Rattle.std.specs.Prelude.{ltb}
use Rattle.lists.proofs.Laws.Bools.{split}
use Rattle.lent.specs.Shapes.{turned}
use Rattle.plan_save.specs.declared.runs.Pending.{Pending}
use Rattle.plan_save.specs.Runs.{Laid, words_max, place_in, laid_below}
use Rattle.plan_save.proofs.runs.runs_of.Goals as goal

-- a pending run goes to one of the places
place-below : (s : Pending) → place_in s < words_max
unfolding place_in
place-below s = split (ltb s.at words_max) (λ y. rw y (ltb-true s.at words_max y)) (λ f. rw f (omega arith))

pub loop-p-init : goal.loop-p-init
unfolding laid_below
loop-p-init c = c.no_words-a.ensures

pub loop-i-init : goal.loop-i-init
unfolding turned
loop-i-init c = let f = c.sought_from-from.result in let z : f - f ≡ 0 = omega arith in
    (omega arith, rw (z, c.first_of-s.ensures) refl)

pub offset_bounds-a-place_in : goal.offset_bounds-a-place_in
offset_bounds-a-place_in c = let b = place-below c.step-s.result in let e = c.place_in.ensures in
    record { fits = omega (arith, b, e) }

pub bounds-a-place_in : goal.bounds-a-place_in
bounds-a-place_in c = let b = place-below c.step-s.result in let e = c.place_in.ensures in omega (arith, b, e)

pub loop-i-preserved : goal.loop-i-preserved
unfolding turned
loop-i-preserved c = let l = c.loop-i in let f = c.sought_from-from.result in
    let next : l.i + 1 - f ≡ suc (l.i - f) = omega arith in
    let here : f + (l.i - f) ≡ l.i = omega arith in (
      omega arith,
      rw (
        next,
        here,
        ← l.invariant.1,
        c.place_in.ensures,
        c.word_of.ensures,
        c.step-s.ensures,
        c.read_entry-x.ensures,
      ) refl,
    )

pub loop-p-preserved : goal.loop-p-preserved
unfolding laid_below
loop-p-preserved c = let l = c.loop-i in let f = c.sought_from-from.result in
    let all : l.i - f ≡ c.to_of-to.result - f = omega arith in
    rw (
      ap (λ (x : Laid). x.words) l.invariant.1,
      all,
      add-one c.loop-p.p,
      c.loop-p.invariant,
      c.cut_of-cut.ensures,
      c.find-top.ensures,
      c.sought_from-from.ensures,
      c.to_of-to.ensures,
      c.partition_at-q.ensures,
      c.no_top-none.ensures,
      c.page_at-reach.ensures,
    ) refl
