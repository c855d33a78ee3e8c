-- Saved rounds: a checkpoint (02: round) as bytes, and the last whole one of a file. 02 (v); 004 III-D.
-- It knows nothing of the store. In order: numbers as bytes, Checkpoint, encoded, a header (02: table of contents),
-- Found, checkpoint_in, saved_in.
-- Laws: laws/proofs/Laws/Bytes.antt, laws/proofs/Laws/Checkpoint.antt.
-- Assumes nothing.
use Rattle.std.specs.Prelude.{Bool, true, false, not, ◌&&◌, ◌||◌, cond, List, [], ◌∷◌, ◌++◌, ℕ, zero, suc, ◌+◌, ◌*◌}
use Rattle.std.specs.Prelude.{◌/◌, ◌%◌, length, take, drop, replicate, ltb, leb, eqb}
use Rattle.lists.specs.Lists.{gather, all_of}
use Rattle.rules.specs.Limits.{last_epoch, rows_max, partitions_max}

-- ---- numbers as bytes, low byte first

unfoldable pub bytes_of : ℕ → ℕ → List ℕ
bytes_of zero x = []
bytes_of (suc n) x = x % 256 ∷ bytes_of n (x / 256)

unfoldable pub number_of : List ℕ → ℕ
number_of [] = 0
number_of (b ∷ bs) = b + 256 * number_of bs

-- the numbers of k groups of n bytes
unfoldable pub numbers_in : ℕ → ℕ → List ℕ → List ℕ
numbers_in n zero bs = []
numbers_in n (suc k) bs = number_of (take n bs) ∷ numbers_in n k (drop n bs)

-- ---- a checkpoint: L, and of each partition (01: lot) the rows that a page at L is shown

pub record Checkpoint : Type 0 where
  pub epoch : ℕ
  pub rows : List (List ℕ)

-- where a file has none: the store made new at 1 has epoch 0 and no row
abbrev pub no_checkpoint : Checkpoint
no_checkpoint = record { epoch = 0; rows = replicate partitions_max [] }

-- the header has L in 8 bytes, then eight row counts of 2 bytes; the bodies follow, partition 0 to 7, 8 bytes a row
unfoldable pub encoded : Checkpoint → List ℕ
encoded c =
    bytes_of 8 c.epoch ++ (gather (λ ws. bytes_of 2 (length ws)) c.rows ++ gather (gather (bytes_of 8)) c.rows)

abbrev pub header_size : ℕ
header_size = 24

-- ---- a header, as it is read

abbrev pub sum_of : List ℕ → ℕ
sum_of [] = 0
sum_of (x ∷ xs) = x + sum_of xs

abbrev pub epoch_in : List ℕ → ℕ
epoch_in bs = number_of (take 8 bs)

abbrev pub counts_in : List ℕ → List ℕ
counts_in bs = numbers_in 2 partitions_max (drop 8 bs)

-- the bytes of the bodies
abbrev pub body_size : List ℕ → ℕ
body_size counts = 8 * sum_of counts

-- the rows by these counts
unfoldable pub rows_in : List ℕ → List ℕ → List (List ℕ)
rows_in [] bs = []
rows_in (c ∷ cs) bs = numbers_in 8 c bs ∷ rows_in cs (drop (8 * c) bs)

-- it may follow a checkpoint of epoch `before`: no count above 512, L at most the greatest epoch `last` and not below
-- `before`, no rows at L = 0
unfoldable pub header_ok : ℕ → ℕ → ℕ → List ℕ → Bool
header_ok last before e counts =
    all_of (λ n. leb n rows_max) counts && leb e last && leb before e && (ltb 0 e || eqb (sum_of counts) 0)

-- ---- the last whole checkpoint of a file, or that a whole header of it may not stand there

pub data Found : Type 0 where
  found : Checkpoint → Found
  corrupt : Found

-- after checkpoint c, in the bytes that follow it; n bounds the checkpoints. A header is judged before its bodies are
-- looked for, and what is left of a cut file is no checkpoint.
unfoldable pub last_from : ℕ → ℕ → Checkpoint → List ℕ → Found
last_from last zero c bs = found c
last_from last (suc n) c bs =
    let counts = counts_in bs in let body = drop header_size bs in
    cond (ltb (length bs) header_size) (found c)
    (cond (not (header_ok last c.epoch (epoch_in bs) counts)) corrupt
    (cond (ltb (length body) (body_size counts)) (found c)
    (last_from last n (record { epoch = epoch_in bs; rows = rows_in counts body }) (drop (body_size counts) body))))

abbrev pub checkpoint_in : ℕ → List ℕ → Found
checkpoint_in last file = last_from last (length file) no_checkpoint file

abbrev pub is_corrupt : Found → Bool
is_corrupt (found c) = false
is_corrupt corrupt = true

abbrev pub checkpoint_of : Found → Checkpoint
checkpoint_of (found c) = c
checkpoint_of corrupt = no_checkpoint

-- what a file has, as recovery reads it
abbrev pub corrupt_in : List ℕ → Bool
corrupt_in file = is_corrupt (checkpoint_in last_epoch file)

abbrev pub saved_in : List ℕ → Checkpoint
saved_in file = checkpoint_of (checkpoint_in last_epoch file)
