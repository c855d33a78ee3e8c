-- What purge decides by value is what step leaves. Definitions: plan_purge/specs/Purge.antt.
-- In order: carried out, a partition's area, a rewrite of it, purge.
-- Assumes nothing.
use mathlib.Core.Path.{◌≡◌, refl, sym, ap, ◌∙◌, subst}
use mathlib.Core.Bool.{true}
use mathlib.Core.List.{List}
use Prim.Native.Nat.{ℕ, ◌+◌, ◌*◌, ◌≤◌, ◌<◌}
use native.Mathlib.Omega.{arith}
use lib.ListN.{length, drop}
use lib.Seq.{take-take}
use lib.Dec.{ltb, leb}
use Rattle.std.specs.Prelude.{Result, Ok, Err}
use borrow.Author.Tests.{lt-ltb, le-leb, ltb-true, ltb-false, leb-false}
use Rattle.lists.specs.Lists.{over}
use Rattle.lists.proofs.Laws.All.{All}
use Rattle.lists.proofs.Laws.Bools.{split, split-eq}
use Rattle.rules.specs.Manager.{manager_in}
use Rattle.rules.specs.Limits.{partitions_max, areas_max, rows_max, entries_max}
use Rattle.rules.specs.Span.{Span, spans, entries_of, words_of}
use Rattle.rules.specs.Rewrite.{purged_in, purged, skips}
use Rattle.rules.specs.Store.{with_partitions_in, entries_at, rows_at, spans_at, laid, laid_in_spare}
use Rattle.rules.specs.Store.{purged_store}
use Rattle.rules.specs.WellFormed.{ends_ok, sound}
use Rattle.rules.specs.Calls.{purge_answer}
use Rattle.rules.specs.Step.{Outcome, purge_outcome, step, purge}
use Rattle.rules.specs.declared.Answer.TheVariants.{Rewritten, Skipped, Refused}
use Rattle.rules.specs.declared.Refusal.{Refusal}
use Rattle.rules.specs.declared.Entry.{Entry}
use Rattle.rules.specs.declared.State.{State}
use Rattle.laws.proofs.Laws.Rewrite.{length-joined, length-purged_in}
use Rattle.laws.proofs.Laws.WellFormed.{StoreOk}
use Rattle.laws.proofs.Laws.Totals.{sound-facts}
use Rattle.rewrite_plan.specs.Plan.{spans_in}
use Rattle.rewrite.specs.Kept.{as_rewritten, rewritten_of}
use Rattle.rewrite.specs.Copied.{areas_apart, rows_copied}
use Rattle.rewrite.specs.Move.{move_to_spare, entries_moved, rows_moved}
use Rattle.rewrite.specs.declared.moves.Move.{Move}
use Rattle.rewrite.specs.declared.Rewritten.{Rewritten as Kept}
use Rattle.rewrite.proofs.Laws.Move.{put-kept}
use Rattle.rewrite.proofs.Laws.Store.{Dated, dated, area-entries, skips-same, purged-area, purged-copied}
use Rattle.rewrite.proofs.Laws.Copied.{apart-before, apart-after}
use Rattle.area.specs.Area.{entries_in, base_of, area_at}
use Rattle.area.specs.Load.{loaded_area}
use Rattle.area.proofs.Laws.Area.{base-fits}
use Rattle.area.proofs.Laws.Load.{loaded-area}
use Rattle.partition.specs.Areas.{moved_to}
use Rattle.admit.specs.Admit.{partition_of}
use Rattle.plan_purge.specs.Purge.{plan_at, rewrite_at, purge_plan}
use Rattle.plan_purge.specs.declared.Purge.{Purge}
use Rattle.plan_purge.specs.declared.Purge.TheVariants.{Skip, Rewrite}
use Rattle.store.specs.Kept.{store_of, Left}
use Rattle.store.specs.Done.{done_rewrite}
use Rattle.store.proofs.Laws.Kept.{rest_in, sound-is}
use Rattle.store.proofs.Laws.Scan.{entries-facts, words}

-- ---- a purge carried out

abbrev pub Carried : State → List Entry → List ℕ → Outcome → Result Purge Refusal → Type 0
Carried s es rs out (Err why) = Left out (record { state = s; answer = Refused why }) rs es
Carried s es rs out (Ok (Skip n)) = Left out (record { state = s; answer = Skipped n }) rs es
Carried s es rs out (Ok (Rewrite p n w)) =
    Left out (done_rewrite s (moved_to p n w.new.count s.partitions) (Rewritten n)) (rows_moved w rs)
    (entries_moved w es)

length-purged : (l : ℕ) (ss : List Span) → length (purged l ss) ≤ length ss
unfolding purged
length-purged l ss = let a = length-joined (purged_in l ss ss) in let b = length-purged_in l ss ss in omega arith

-- ---- the area of partition p

module _ (s : State) (es : List Entry) (rs : List ℕ) (ok : StoreOk (store_of s rs es)) (p : ℕ)
    (h : p < partitions_max) where
  in_use : entries_in (area_at es (partition_of p s)) ≡ entries_at p (store_of s rs es)
  unfolding area_at
  in_use = let q = partition_of p s in let part = ok.partition p h in let n = part.entry-count in
      let f = part.spans-ok.entries_fit in
      rw (lt-ltb q.area areas_max (ok.areas.inside p h))
      (take-take q.entries entries_max (drop (entries_max * q.area) es) (omega arith))

  spans-are : spans 0 (entries_in (area_at es (partition_of p s))) (rows_at p (store_of s rs es))
      ≡ spans_at p (store_of s rs es)
  unfolding spans_at
  spans-are = rw in_use

  ends : ends_ok (partition_of p s).rows 0 (entries_in (area_at es (partition_of p s))) ≡ true
  ends = rw in_use (entries-facts s es rs ok p h).ends

  epochs : All Dated (spans 0 (entries_in (area_at es (partition_of p s))) (rows_at p (store_of s rs es)))
  epochs = rw spans-are (dated (manager_in s) (spans_at p (store_of s rs es)) (ok.partition p h).spans-ok.epochs)

  skips-are : (l : ℕ) → skips l (spans_in (area_at es (partition_of p s))) ≡ skips l (spans_at p (store_of s rs es))
  skips-are l = let q = partition_of p s in
      skips-same (area_at es q) q.rows (entries-facts s es rs ok p h).rows_fit ends (rows_at p (store_of s rs es))
      (words s es rs ok p h) l
      ∙ ap (skips l) spans-are

  done-is : (l : ℕ) → rewritten_of (area_at es (partition_of p s)) (plan_at l (area_at es (partition_of p s)))
      ≡ as_rewritten (purged l (spans_at p (store_of s rs es)))
  done-is l = let q = partition_of p s in
      purged-area (area_at es q) q.rows (entries-facts s es rs ok p h).rows_fit ends (rows_at p (store_of s rs es))
      (words s es rs ok p h) l epochs
      ∙ ap (λ (ss : List Span). as_rewritten (purged l ss)) spans-are

  apart : areas_apart (rows_max * (partition_of p s).area) (rows_max * s.partitions.spare) (length rs) ≡ true
  apart = let a = (partition_of p s).area in let b = s.partitions.spare in let n = ok.rows-length in
      let i = ok.areas.inside p h in let j = ok.areas.spare-inside in
      let from = rows_max * a in let to = rows_max * b in
      split (ltb a b)
      (λ t. let g = ltb-true a b t in
      apart-before from to (length rs) (omega arith) (omega arith) (omega arith) (omega arith))
      (λ f. let g = ltb-false a b f in split-eq a b (λ e. absurd (ok.areas.spare-apart p h e))
      (λ ne. apart-after from to (length rs) (omega arith) (omega arith) (omega arith) (omega arith)
      ∙ le-leb (to + rows_max) from (omega arith)))

  -- ---- a rewrite of it

  base-is : (k area : ℕ) → area < areas_max → base_of k area ≡ k * area
  base-is k area i = rw (lt-ltb area areas_max i)

  rows_are : (l : ℕ) → rows_copied (area_at es (partition_of p s)) (plan_at l (area_at es (partition_of p s)))
      (base_of rows_max (partition_of p s).area) (base_of rows_max s.partitions.spare) rs
      ≡ over (rows_max * s.partitions.spare) (words_of (purged l (spans_at p (store_of s rs es)))) rs
  rows_are l = let q = partition_of p s in let to = rows_max * s.partitions.spare in
      rw (
        base-is rows_max q.area (ok.areas.inside p h),
        base-is rows_max s.partitions.spare ok.areas.spare-inside,
      )
      (purged-copied (area_at es q) q.rows (entries-facts s es rs ok p h).rows_fit ends (rows_max * q.area) to rs
      apart l epochs
      ∙ ap (λ (ss : List Span). over to (words_of (purged l ss)) rs) spans-are)

  abbrev move_of : ℕ → Move
  move_of l = let a = area_at es (partition_of p s) in let plan = plan_at l a in
      move_to_spare a plan (rewritten_of a plan).area (partition_of p s).area s.partitions.spare

  entries-are : (l : ℕ)
      → entries_moved (move_of l) es
      ≡ over (entries_max * s.partitions.spare) (entries_of 0 (purged l (spans_at p (store_of s rs es)))) es
  entries-are l = let ss = spans_at p (store_of s rs es) in let spare = s.partitions.spare in
      let b = base-is entries_max spare ok.areas.spare-inside in let n = ok.entries-length in
      let c = length-purged l ss in let f = (ok.partition p h).spans-ok.entries_fit in
      let d = ap (λ (w : Kept). w.area.count) (done-is l) in
      put-kept (move_of l) es (omega arith) (base-fits spare) n
      ∙ (ap (λ (xs : List Entry). over (base_of entries_max spare) xs es)
      (ap (λ (w : Kept). entries_in w.area) (done-is l) ∙ area-entries (purged l ss))
      ∙ ap (λ (k : ℕ). over k (entries_of 0 (purged l ss)) es) b)

  rewrite-left : (l : ℕ)
      → Carried s es rs (purge_outcome p (Rewritten (length (words_of (purged l (spans_at p (store_of s rs es))))))
      (laid_in_spare p (purged l (spans_at p (store_of s rs es))) (store_of s rs es)) (store_of s rs es))
      (Ok (rewrite_at (area_at es (partition_of p s)) s.partitions.spare l p (partition_of p s)))
  unfolding laid_in_spare laid moved_to
  rewrite-left l = let ts = purged l (spans_at p (store_of s rs es)) in
      let ps : moved_to p (length (words_of ts)) (length ts) s.partitions
      ≡ (laid_in_spare p ts (store_of s rs es)).state.partitions = rw (lt-ltb p partitions_max h) in (
        ap (λ d. Rewritten d.rows) (done-is l),
        λ j. store_of (with_partitions_in
            ((ap (λ d. moved_to p d.rows d.area.count s.partitions) (done-is l) ∙ ps) j) s)
            (rows_are l j) (entries-are l j),
      )

-- ---- purge

planned-left : (s : State) → length s.partitions.at ≡ partitions_max → (es : List Entry) (rs : List ℕ) (p : ℕ)
    → Carried s es rs (step (purge p) (store_of s rs es))
    (purge_plan s (rest_in s es rs) (loaded_area es s.partitions p) p)
unfolding step purge_answer purged_store purge_plan
planned-left s n es rs p =
    let st = store_of s rs es in let l = s.clock.lse in
    rw (sound-is s es rs) (split (sound st)
    (λ t. let ok = (sound-facts st n t).shape in rw (t, loaded-area es ok.entries-length s.partitions p)
    (split (leb partitions_max p)
    (λ u. rw u (refl, refl))
    (λ u. let h = leb-false partitions_max p u in split (skips l (spans_at p st))
    (λ k. rw (u, skips-are s es rs ok p h l, k) (refl, refl))
    (λ k. rw (u, skips-are s es rs ok p h l, k) (rewrite-left s es rs ok p h l)))))
    (λ f. rw f (refl, refl)))

-- the same of what was handed back
pub purge-left : (s : State) → length s.partitions.at ≡ partitions_max → (es : List Entry) (rs : List ℕ) (p : ℕ)
    → {w : Result Purge Refusal} → w ≡ purge_plan s (rest_in s es rs) (loaded_area es s.partitions p) p
    → Carried s es rs (step (purge p) (store_of s rs es)) w
purge-left s n es rs p e = subst (Carried s es rs (step (purge p) (store_of s rs es))) (sym e)
    (planned-left s n es rs p)
