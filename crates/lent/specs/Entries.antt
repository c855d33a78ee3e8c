-- Entries as they are lent. 01 "Lots": nine areas of 64 entries.
-- In order: none, an end moved, the entries of nine blank areas.
-- Assumes nothing.
use Rattle.std.specs.Prelude.{ℕ, List, get_or, set, replicate}
use Rattle.rules.specs.declared.Entry.{Entry}

-- what stands past the end of a slice
abbrev pub none : Entry
none = record { epoch = 0; end = 0; mark = 0 }

-- an entry whose end has moved
abbrev pub with_end : ℕ → Entry → Entry
with_end end e = record { epoch = e.epoch; end = end; mark = e.mark }

-- entries of which the one at i has this end; past the end nothing changes
abbrev pub moved_end : List Entry → ℕ → ℕ → List Entry
moved_end es i end = set es i (with_end end (get_or es i none))

unfoldable pub filled0 : List Entry
filled0 = replicate 576 none
