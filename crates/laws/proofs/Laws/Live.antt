-- The part that purge returns: the rows in force of the store after it, and nothing where it is refused.
-- In order: refused, accepted. Definition: rules/specs/Step.antt.
-- Assumes nothing.
use mathlib.Core.Path.{◌≡◌}
use mathlib.Core.Bool.{false}
use mathlib.Core.List.{List, []}
use Prim.Native.Nat.{ℕ, ◌*◌, ◌≤◌, ◌<◌}
use native.Mathlib.Omega.{arith}
use lib.ListN.{length}
use borrow.Author.Tests.{lt-leb}
use Rattle.lists.proofs.Laws.Bools.{split}
use Rattle.lists.proofs.Laws.Parts.{take_part}
use Rattle.rules.specs.Limits.{partitions_max, rows_max}
use Rattle.rules.specs.Span.{Span, words_of}
use Rattle.rules.specs.Rewrite.{purged_in, purged, skips}
use Rattle.rules.specs.Store.{Store, manager_of, partition_at, rows_at, spans_at, laid_in_spare, purged_store}
use Rattle.rules.specs.Answers.{accepted}
use Rattle.rules.specs.Calls.{purge_answer}
use Rattle.rules.specs.Step.{purge, step}
use Rattle.laws.proofs.Laws.Answers.{refused-part}
use Rattle.laws.proofs.Laws.Rewrite.{words-joined, words-purged_in}
use Rattle.laws.proofs.Laws.Totals.{SoundOk, sound-ok}
use Rattle.laws.proofs.Laws.Laid.{partition_at-laid}

-- ---- refused

pub purge-live-refused : (p : ℕ) (st : Store) → accepted (purge_answer p st) ≡ false → (step (purge p) st).live ≡ []
unfolding step
purge-live-refused p st h = refused-part _ _ (purge_answer p st) h

-- ---- accepted

pub words-purged : (l : ℕ) (ss : List Span) → length (words_of (purged l ss)) ≤ length (words_of ss)
unfolding purged
words-purged l ss = rw (words-joined (purged_in l ss ss)) (words-purged_in l ss ss)

partition-rewritten : (p : ℕ) (ts : List Span) (st : Store) → p < length st.state.partitions.at
    → partition_at p (laid_in_spare p ts st) ≡ record {
      area = st.state.partitions.spare;
      rows = length (words_of ts);
      entries = length ts;
    }
unfolding laid_in_spare
partition-rewritten p ts st l = partition_at-laid p st.state.partitions.spare (partition_at p st).area ts st l

pub purge-live : (p : ℕ) (st : Store) → SoundOk st → p < partitions_max
    → (step (purge p) st).live ≡ rows_at p (step (purge p) st).store
unfolding step purge_answer purged_store
purge-live p st ok h =
    let l = (manager_of st).clock.lse in let ss = spans_at p st in let q = partition_at p st in
    let k = ok.shape.partition p h in let c = k.row_count in let f = k.spans-ok.rows_fit in let w = words-purged
    l ss in
    rw (sound-ok st ok, lt-leb partitions_max p h) (split (skips l ss)
    (λ t. rw t (take_part (rows_max * q.area) rows_max q.rows st.rows (omega arith)))
    (λ u. let ts = purged l ss in let n = ok.shape.places in rw (u, partition-rewritten p ts st (omega arith))
    (take_part (rows_max * st.state.partitions.spare) rows_max (length (words_of ts)) (laid_in_spare p ts st).rows
    (omega arith))))
