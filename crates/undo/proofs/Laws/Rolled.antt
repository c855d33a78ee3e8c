-- Entries, places and rows after the roll back of one partition are those of rules' rolled_back_at. Definitions:
-- specs/Rolled.antt.
-- In order: a store's entries and places; one partition of a sound store, its entries and places, its rows.
-- Assumes nothing.
use mathlib.Core.Path.{◌≡◌, ap, ◌∙◌}
use mathlib.Core.List.{List}
use Prim.Native.Nat.{ℕ, ◌*◌, ◌<◌}
use borrow.Author.Tests.{lt-ltb}
use Rattle.lists.specs.Lists.{over}
use Rattle.lists.proofs.Laws.Bools.{split}
use Rattle.rules.specs.Limits.{partitions_max, areas_max, rows_max}
use Rattle.rules.specs.Span.{Span, words_of}
use Rattle.rules.specs.Rewrite.{has_epoch, rolled_back}
use Rattle.rules.specs.Store.{Store, manager_of, partition_at, rows_at, spans_at, laid, laid_in_spare}
use Rattle.rules.specs.Store.{rolled_back_at}
use Rattle.laws.proofs.Laws.SpansTest.{EntriesOk}
use Rattle.laws.proofs.Laws.WellFormed.{StoreOk}
use Rattle.area.specs.Area.{entries_in}
use Rattle.rewrite.specs.Kept.{as_rewritten}
use Rattle.rewrite.specs.Copied.{rows_copied}
use Rattle.rewrite.proofs.Laws.Store.{area-entries, has_same, rolled-area, rolled-copied}
use Rattle.rewrite.proofs.Laws.Partition.{entries-facts, words, spans-are, epochs-are, marks-are}
use Rattle.rewrite.proofs.Laws.Partition.{spare-apart}
use Rattle.partition.specs.Areas.{moved_to}
use Rattle.undo.specs.Rolled.{rolled_of, area_in, plan_in, kept_in, concerns, rewritten_at, rolled_at}
use Rattle.undo.specs.Rolled.{Rolled, rows_rolled_at}

-- the entries and places of a store
abbrev pub as_rolled : Store → Rolled
as_rolled st = rolled_of st.entries st.state.partitions

-- ---- partition p of a sound store

module _ (st : Store) (ok : StoreOk st) (p : ℕ) (h : p < partitions_max) where
  facts : EntriesOk (manager_of st) (partition_at p st).rows (entries_in (area_in p (as_rolled st)))
  facts = entries-facts st ok p h

  module _ (i : ℕ) where
    has-is : concerns i p (as_rolled st) ≡ has_epoch i (spans_at p st)
    has-is = has_same (area_in p (as_rolled st)) (partition_at p st).rows facts.rows_fit
        facts.ends (rows_at p st) (words st ok p h) i
        ∙ ap (has_epoch i) (spans-are st ok p h)

    -- ---- entries and places

    pub kept-is : kept_in i p (as_rolled st) ≡ as_rewritten (rolled_back i (spans_at p st))
    kept-is = rolled-area (area_in p (as_rolled st)) (partition_at p st).rows facts.rows_fit
        facts.ends (rows_at p st) (words st ok p h) i (epochs-are st ok p h) (marks-are st ok p h)
        ∙ ap (λ (ss : List Span). as_rewritten (rolled_back i ss)) (spans-are st ok p h)

    rewritten-is : rewritten_at i p (as_rolled st) ≡ as_rolled (laid_in_spare p (rolled_back i (spans_at p st)) st)
    unfolding rewritten_at moved_to laid_in_spare laid
    rewritten-is = rw (
      kept-is,
      area-entries (rolled_back i (spans_at p st)),
      lt-ltb st.state.partitions.spare areas_max ok.areas.spare-inside,
      lt-ltb p partitions_max h,
    )

    pub rolled-step : rolled_at i p (as_rolled st) ≡ as_rolled (rolled_back_at i p st)
    unfolding rolled_at rolled_back_at
    rolled-step = split (has_epoch i (spans_at p st)) (λ t. rw (has-is ∙ t, t) rewritten-is) (λ f. rw (has-is ∙ f, f))

    -- ---- rows

    copied_is : rows_copied (area_in p (as_rolled st)) (plan_in i p (as_rolled st))
        (rows_max * (partition_at p st).area)
        (rows_max * st.state.partitions.spare) st.rows
        ≡ over (rows_max * st.state.partitions.spare) (words_of (rolled_back i (spans_at p st))) st.rows
    copied_is = rolled-copied (area_in p (as_rolled st)) (partition_at p st).rows facts.rows_fit
        facts.ends (rows_max * (partition_at p st).area) (rows_max * st.state.partitions.spare) st.rows
        (spare-apart st ok p h) i (epochs-are st ok p h) (marks-are st ok p h)
        ∙ ap (λ (ss : List Span). over (rows_max * st.state.partitions.spare) (words_of (rolled_back i ss))
        st.rows) (spans-are st ok p h)

    pub rows_step : rows_rolled_at i (area_in p (as_rolled st)) (partition_at p st).area st.state.partitions.spare
        st.rows ≡ (rolled_back_at i p st).rows
    unfolding rows_rolled_at rolled_back_at laid_in_spare laid
    rows_step = split (has_epoch i (spans_at p st))
        (λ t. rw (
          has-is ∙ t,
          t,
          lt-ltb (partition_at p st).area areas_max (ok.areas.inside p h),
          lt-ltb st.state.partitions.spare areas_max ok.areas.spare-inside,
        ) copied_is)
        (λ f. rw (has-is ∙ f, f))
