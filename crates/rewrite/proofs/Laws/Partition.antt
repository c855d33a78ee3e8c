-- A partition of a sound store, as its area holds it: what a rewrite is told of it.
-- In order: its entries, its words, its spans with their epochs and marks; the spare area lies apart.
-- Assumes nothing.
use mathlib.Core.Path.{◌≡◌, sym, ap, ◌∙◌}
use mathlib.Core.Bool.{true}
use Prim.Native.Nat.{ℕ, ◌+◌, ◌*◌, ◌<◌}
use native.Mathlib.Omega.{arith}
use lib.ListN.{length, drop}
use lib.Seq.{take-take}
use lib.Dec.{ltb}
use borrow.Author.Tests.{lt-ltb, le-leb, ltb-true, ltb-false}
use Rattle.lists.proofs.Laws.All.{All}
use Rattle.lists.proofs.Laws.Bools.{split}
use Rattle.rules.specs.Limits.{partitions_max, areas_max, rows_max, entries_max}
use Rattle.rules.specs.Span.{spans}
use Rattle.rules.specs.Store.{Store, manager_of, partition_at, entries_at, rows_at, spans_at}
use Rattle.laws.proofs.Laws.SpansOk.{MarkOk}
use Rattle.laws.proofs.Laws.SpansTest.{EntriesOk, entries-ok}
use Rattle.laws.proofs.Laws.WellFormed.{StoreOk}
use Rattle.area.specs.Area.{entries_in, area_at}
use Rattle.rewrite.specs.Copied.{areas_apart}
use Rattle.rewrite.proofs.Laws.Copied.{apart-before, apart-after}
use Rattle.rewrite.proofs.Laws.Store.{Dated, dated}

module _ (st : Store) (ok : StoreOk st) (p : ℕ) (h : p < partitions_max) where
  pub entries-are : entries_in (area_at st.entries (partition_at p st)) ≡ entries_at p st
  unfolding area_at
  entries-are = let q = partition_at p st in let part = ok.partition p h in let n = part.entry-count in
      let f = part.spans-ok.entries_fit in
      rw (lt-ltb q.area areas_max (ok.areas.inside p h))
      (take-take q.entries entries_max (drop (entries_max * q.area) st.entries) (omega arith))

  pub entries-facts : EntriesOk (manager_of st) (partition_at p st).rows
      (entries_in (area_at st.entries (partition_at p st)))
  entries-facts = let part = ok.partition p h in
      rw entries-are (rw (part.entries-are, ← part.row_count)
      at (entries-ok (manager_of st) (spans_at p st) part.spans-ok))

  pub words : length (rows_at p st) ≡ (partition_at p st).rows
  words = let part = ok.partition p h in ap length (sym part.words_are) ∙ sym part.row_count

  pub spans-are : spans 0 (entries_in (area_at st.entries (partition_at p st))) (rows_at p st) ≡ spans_at p st
  unfolding spans_at
  spans-are = rw entries-are

  pub epochs-are : All Dated (spans 0 (entries_in (area_at st.entries (partition_at p st))) (rows_at p st))
  epochs-are = rw spans-are (dated (manager_of st) (spans_at p st) (ok.partition p h).spans-ok.epochs)

  pub marks-are : All MarkOk (spans 0 (entries_in (area_at st.entries (partition_at p st))) (rows_at p st))
  marks-are = rw spans-are (ok.partition p h).spans-ok.marks

  pub spare-apart : areas_apart (rows_max * (partition_at p st).area) (rows_max * st.state.partitions.spare)
      (length st.rows) ≡ true
  spare-apart = let a = (partition_at p st).area in let s = st.state.partitions.spare in
      let n = ok.rows-length in let l = ok.areas.inside p h in let m = ok.areas.spare-inside in
      let ne = ok.areas.spare-apart p h in split (ltb a s)
      (λ t. let g = ltb-true a s t in apart-before (rows_max * a) (rows_max * s) (length st.rows)
      (omega arith) (omega arith) (omega arith) (omega arith))
      (λ f. let g = ltb-false a s f in apart-after (rows_max * a) (rows_max * s) (length st.rows)
      (omega arith) (omega arith) (omega arith) (omega arith)
      ∙ le-leb (rows_max * s + rows_max) (rows_max * a) (omega arith))
