-- The runs of a partition (01: lot) as a list that its entries make, and the rows that they hold. Definitions:
-- specs/Runs.antt; totals/proofs/Laws/Tallied.antt.
-- In order: closed, joined; they are well; their rows, and how many these are.
-- Elsewhere: that the words laid are these runs (Laid.antt).
-- Assumes nothing.
use mathlib.Core.Path.{◌≡◌, refl, ◌∙◌}
use mathlib.Core.Bool.{true, cond}
use mathlib.Core.List.{List, [], ◌∷◌, ◌++◌, append_assoc}
use Prim.Native.Nat.{ℕ, ◌+◌, ◌-◌, ◌≤◌, ◌<◌}
use native.Mathlib.Omega.{arith}
use lib.ListN.{length, length-append}
use lib.Dec.{ltb}
use borrow.Author.Tests.{ltb-true, ltb-false}
use Rattle.lists.specs.Lists.{gather}
use Rattle.lists.proofs.Laws.All.{All}
use Rattle.lists.proofs.Laws.Bools.{split}
use Rattle.lists.proofs.Laws.Parts.{length_part}
use Rattle.rules.specs.Limits.{rows_max}
use Rattle.rules.specs.WellFormed.{ends_ok}
use Rattle.rules.specs.declared.Entry.{Entry}
use Rattle.laws.proofs.Laws.Span.{end-ok, ends_ok-le}
use Rattle.totals.specs.Reach.{shows}
use Rattle.totals.specs.declared.Cut.{Cut}
use Rattle.totals.proofs.Laws.Tallied.{rows_from, rows_split, shown_rows}
use Rattle.plan_save.specs.Runs.{Run, size_of}

-- the run from up to end before others, where it has rows
abbrev pub closed : ℕ → ℕ → List Run → List Run
closed from end rs = cond (ltb from end) (record { from = from; end = end } ∷ rs) rs

-- those that the pending run, from up to end, and the entries behind it make
unfoldable pub joined : Cut → ℕ → ℕ → List Entry → List Run
joined c from end [] = closed from end []
joined c from end (e ∷ es) =
    cond (shows c end e.epoch) (joined c from e.end es) (closed from end (joined c e.end e.end es))

-- ---- of entries that end well they have rows of a partition

pub record RunOk (r : Run) : Type 0 where
  pub some : r.from < r.end
  pub few : r.end ≤ rows_max

closed-ok : (from end : ℕ) (rs : List Run) → end ≤ rows_max → All RunOk rs → All RunOk (closed from end rs)
closed-ok from end rs h k = split (ltb from end)
    (λ y. rw y (record { some = ltb-true from end y; few = h }, k)) (λ f. rw f k)

pub joined-ok : (c : Cut) (n from end : ℕ) (es : List Entry) → n ≤ rows_max → ends_ok n end es ≡ true
    → All RunOk (joined c from end es)
unfolding joined
joined-ok c n from end [] f h = let g = ends_ok-le n end [] h in closed-ok from end [] (omega arith) tt
joined-ok c n from end (e ∷ es) f h =
    let o = end-ok n end e es h in let low = o.low in let g = ends_ok-le n e.end es o.rest in
    let more = joined-ok c n from e.end es f o.rest in
    let rest = joined-ok c n e.end e.end es f o.rest in split (shows c end e.epoch)
    (λ y. rw y more) (λ z. rw z (closed-ok from end (joined c e.end e.end es) (omega arith) rest))

-- ---- their rows, of a partition whose rows stand from row base on

abbrev pub run_rows : List ℕ → ℕ → Run → List ℕ
run_rows rows base r = rows_from rows base r.from r.end

closed-rows : (rows : List ℕ) (base from end : ℕ) (rs : List Run) → from ≤ end
    → gather (run_rows rows base) (closed from end rs)
    ≡ rows_from rows base from end ++ gather (run_rows rows base) rs
closed-rows rows base from end rs h = split (ltb from end) (λ y. rw y)
    (λ f. let g = ltb-false from end f in let z : end - from ≡ 0 = omega arith in rw (f, z))

-- d shows what c does
module _ (rows : List ℕ) (c d : Cut) (same : (n j : ℕ) → shows c n j ≡ shows d n j) where
  abbrev from-to : ℕ → ℕ → List ℕ
  from-to a b = rows_from rows d.base a b

  pub joined-rows : (n from end : ℕ) (es : List Entry) → from ≤ end → ends_ok n end es ≡ true
      → gather (run_rows rows d.base) (joined c from end es) ≡ from-to from end ++ shown_rows rows d end es
  unfolding joined shown_rows
  joined-rows n from end [] h k = closed-rows rows d.base from end [] h
  joined-rows n from end (e ∷ es) h k =
      let o = end-ok n end e es k in let low = o.low in let s = same end e.epoch in
      let more = joined-rows n from e.end es (omega arith) o.rest in
      let rest = joined-rows n e.end e.end es (omega arith) o.rest in
      let z : e.end - e.end ≡ 0 = omega arith in split (shows d end e.epoch)
      (λ y. rw (s, y, more, rows_split rows d.base from end e.end h low)
      (append_assoc (from-to from end) (from-to end e.end) (shown_rows rows d e.end es)))
      (λ f. rw (s, f) (closed-rows rows d.base from end (joined c e.end e.end es) h ∙ rw (rest, z)))

-- ---- how many these are

pub size-rows : (rows : List ℕ) (base : ℕ) → base + rows_max ≤ length rows → (rs : List Run) → All RunOk rs
    → size_of rs ≡ length (gather (run_rows rows base) rs)
unfolding size_of
size-rows rows base l [] h = refl
size-rows rows base l (r ∷ rs) h = let s = h.0.some in let f = h.0.few in
    rw (
      size-rows rows base l rs h.1,
      length-append (run_rows rows base r) (gather (run_rows rows base) rs),
      length_part (base + r.from) (r.end - r.from) rows (omega arith),
    )
