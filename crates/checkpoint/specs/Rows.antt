-- The header and the rows of a checkpoint (02: round), read from a lent file and written to a lent output. 02 (v). In
-- order: has_room, rows_read, weight_read, header_put, head_of, rows_put, after_rows. Laws: proofs/Laws/Numbers.antt.
-- Assumes nothing.
use Rattle.std.specs.Prelude.{Bool, ◌&&◌, cond, List, ◌++◌, ℕ, ◌+◌, ◌*◌, ◌%◌, length, drop, ltb, leb, eqb}
use Rattle.lists.specs.Lists.{gather, part, over}
use Rattle.rules.specs.Limits.{rows_max}
use Rattle.rules.specs.Weight.{weight}
use Rattle.rules.specs.Checkpoint.{bytes_of, numbers_in, header_size}

-- n elements from index i on are there
abbrev pub has_room : ℕ → ℕ → List ℕ → Bool
has_room i n xs = leb (i + n) (length xs)

-- count rows of a file, from byte from on, written over rows from index at on, where they fit; else nothing is written
unfoldable pub rows_read : ℕ → ℕ → ℕ → List ℕ → List ℕ → List ℕ
rows_read at from count file rows =
    cond (has_room at count rows && has_room from (8 * count) file)
    (over at (numbers_in 8 count (drop from file)) rows) rows

-- what they weigh, 0 where there are no such rows of a partition (01: lot)
unfoldable pub weight_read : ℕ → ℕ → List ℕ → ℕ
weight_read from count file =
    cond (leb count rows_max && has_room from (8 * count) file) (weight (numbers_in 8 count (drop from file))) 0

-- a header at the front of the output, where it fits; else nothing is written
unfoldable pub header_put : ℕ → List ℕ → List ℕ → List ℕ
header_put e counts out =
    cond (has_room 0 header_size out) (over 0 (bytes_of 8 e ++ gather (bytes_of 2) counts) out) out

-- how many of count rows go ahead of the rest, so that the rest begins at a multiple of 16; of fewer than 64 none
unfoldable pub head_of : ℕ → ℕ → ℕ
head_of at count = cond (ltb count 64) 0 (cond (eqb (at % 16) 8) 1 0)

-- the bytes of count rows, from index from on, written over the output from byte at on, where they fit; else nothing is
-- written
unfoldable pub rows_put : ℕ → ℕ → ℕ → List ℕ → List ℕ → List ℕ
rows_put at from count rows out =
    cond (has_room from count rows && has_room at (8 * count) out)
    (over at (gather (bytes_of 8) (part from count rows)) out) out

-- where they end
unfoldable pub after_rows : ℕ → ℕ → ℕ → List ℕ → List ℕ → ℕ
after_rows at from count rows out = cond (has_room from count rows && has_room at (8 * count) out) (at + 8 * count) at
