-- The rows that a scan shows, in a lent buffer. 01 "A session", S.
-- In order: shown_words, fitting, shown_in. Laws: proofs/Laws/Shown.antt.
-- Assumes nothing.
use Rattle.std.specs.Prelude.{List, [], ℕ, ◌*◌, length, take}
use Rattle.lists.specs.Lists.{part}
use Rattle.rules.specs.Answers.{reply_of, first_value}
use Rattle.rules.specs.Claim.{words_at_ones}
use Rattle.rules.specs.Limits.{rows_max}
use Rattle.rules.specs.Step.{on_scan_command}
use Rattle.rules.specs.declared.Answer.{Answer}
use Rattle.rules.specs.declared.Command.{Command}
use Rattle.rules.specs.declared.Partitions.{Partitions}
use Rattle.rules.specs.declared.Reader.{Reader}
use Rattle.area.specs.Load.{partition_in}

-- the words at the ones of a bitmap, of the first n rows of area a
abbrev pub shown_words : List ℕ → ℕ → ℕ → List ℕ → List ℕ
shown_words bitmap a n rows = words_at_ones bitmap 0 (take n (part (rows_max * a) rows_max rows))

-- as many as a buffer has room for
abbrev pub fitting : List ℕ → List ℕ → List ℕ
fitting ws buffer = take (length buffer) ws

-- ---- by what a call answered, and the partitions, the bitmap and the rows after it

abbrev pub shown_in : Command → Answer → Partitions → List ℕ → List ℕ → List ℕ
shown_in c a ps bitmap rows =
    on_scan_command c (λ (r : Reader) (p : ℕ). shown_words bitmap (partition_in ps p).area (first_value (reply_of a))
    rows)
    []
