-- The header (02: table of contents) of the last whole checkpoint (02: round) of a file, and where its bodies begin.
-- 02 (v). In order: no_header, header_at, header_in, the checkpoint that is found. Laws:
-- proofs/Laws/Header.antt.
-- Assumes nothing.
use Rattle.std.specs.Prelude.{not, cond, List, Result, Ok, Err, ℕ, zero, suc, ◌+◌, length, drop, replicate, ltb}
use Rattle.rules.specs.Limits.{partitions_max}
use Rattle.rules.specs.Checkpoint.{Found, found, corrupt, header_size, epoch_in, counts_in, body_size, rows_in}
use Rattle.rules.specs.Checkpoint.{Checkpoint, header_ok}
use Rattle.checkpoint.specs.declared.Header.{Header}
use Rattle.rules.specs.declared.Refusal.{Refusal}
use Rattle.rules.specs.declared.Refusal.TheVariants.{Corrupt}

-- of a file with no checkpoint
abbrev pub no_header : Header
no_header = record { epoch = 0; counts = replicate partitions_max 0; body = 0 }

-- the header at index i of a file
abbrev pub header_at : List ℕ → ℕ → Header
header_at file i = record { epoch = epoch_in (drop i file); counts = counts_in (drop i file); body = i + header_size }

-- where its bodies end
abbrev pub end_of : Header → ℕ
end_of h = h.body + body_size h.counts

-- after header h, from index i of the file on, where the next one would stand; n bounds the headers. A header is judged
-- before its bodies are looked for, and what is left of a cut file is no checkpoint.
unfoldable pub header_from : ℕ → ℕ → Header → List ℕ → ℕ → Result Header Refusal
header_from last zero h file i = Ok h
header_from last (suc n) h file i =
    let g = header_at file i in
    cond (ltb (length file) g.body) (Ok h)
    (cond (not (header_ok last h.epoch g.epoch g.counts)) (Err Corrupt)
    (cond (ltb (length file) (end_of g)) (Ok h)
    (header_from last n g file (end_of g))))

abbrev pub header_in : ℕ → List ℕ → Result Header Refusal
header_in last file = header_from last (length file) no_header file 0

-- the checkpoint of a header, and of what is found
abbrev pub checkpoint_by : List ℕ → Header → Checkpoint
checkpoint_by file h = record { epoch = h.epoch; rows = rows_in h.counts (drop h.body file) }

unfoldable pub found_in : List ℕ → Result Header Refusal → Found
found_in file (Ok h) = found (checkpoint_by file h)
found_in file (Err why) = corrupt
