-- What is kept of a line that is yet to end. 01 "A session"; docs/DECISIONS.md D5.
-- In order: kept_max, kept. Laws: proofs/Laws/Rest.antt.
-- Assumes nothing.
use Rattle.std.specs.Prelude.{List, ℕ, suc, ◌-◌, take}
use Rattle.lists.specs.Lists.{part}
use Rattle.session_text.specs.Grammar.{line_max}

-- its front: one byte more than a line may have makes it `?`
unfoldable pub kept_max : ℕ
kept_max = suc line_max

-- bytes `from` to `to` of a buffer
abbrev pub kept : List ℕ → ℕ → ℕ → List ℕ
kept buffer from to = take kept_max (part from (to - from) buffer)
