-- What is left is numbers, after what is passed, where all bytes are, and the counts add up.
-- Assumes nothing.
use Rattle.std.proofs.Common.{◌≡◌, ◌+◌, ◌^◌, ◌<◌, ◌≤◌, drop}
use Rattle.std.specs.Option.{unwrap_or}
use Rattle.session_text.specs.Grammar.{are_numbers}
use Rattle.session_text.proofs.Laws.Grammar.{later_in}
use Rattle.session_text.proofs.Laws.Numbers.{ok_after}
use Rattle.session_text.proofs.numbers.count_numbers.Given as goal

abbrev pub invariant-loop-byte : goal.invariant-loop-byte
invariant-loop-byte l = let left = drop l.byte-index l.bytes in
    (l.p.count ≤ l.byte-index) × (unwrap_or l.p.value 0 < 2 ^ 64)
    × (l.p.count + later_in left ≡ later_in l.bytes) × (are_numbers l.bytes ≡ ok_after l.p.value left)
