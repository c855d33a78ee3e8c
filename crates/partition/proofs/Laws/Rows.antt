-- Laws of put_rows: where the batch fits, where it does not, no batch. Definitions: specs/Rows.antt.
-- Assumes nothing.
use mathlib.Core.Path.{◌≡◌}
use mathlib.Core.List.{List, []}
use Prim.Native.Nat.{ℕ, ◌+◌, ◌≤◌, ◌<◌}
use lib.ListN.{length}
use lib.Dec.{leb}
use borrow.Author.Tests.{le-leb, lt-leb}
use Rattle.lists.specs.Lists.{over}
use Rattle.lists.proofs.Laws.Bools.{split}
use Rattle.lists.proofs.Laws.Over.{over-nil}
use Rattle.partition.specs.Rows.{put_rows}

pub put_rows-fits : (at : ℕ) (vs xs : List ℕ) → at + length vs ≤ length xs → put_rows at vs xs ≡ over at vs xs
unfolding put_rows
put_rows-fits at vs xs h = rw (le-leb (at + length vs) (length xs) h)

pub put_rows-out : (at : ℕ) (vs xs : List ℕ) → length xs < at + length vs → put_rows at vs xs ≡ xs
unfolding put_rows
put_rows-out at vs xs h = rw (lt-leb (at + length vs) (length xs) h)

pub put_rows-none : (at : ℕ) (xs : List ℕ) → put_rows at [] xs ≡ xs
unfolding put_rows
put_rows-none at xs = split (leb (at + 0) (length xs)) (λ t. rw t (over-nil at xs)) (λ f. rw f)
