-- What is left is numbers, and they are left to write, from k on.
-- Assumes nothing.
use Rattle.std.proofs.Common.{◌≡◌, suc, ◌+◌, ◌≤◌, length, drop}
use Rattle.std.specs.Prelude.{true}
use Rattle.lists.specs.Lists.{over}
use Rattle.session_text.specs.Grammar.{numbers_of}
use Rattle.session_text.proofs.Laws.Grammar.{ok_from, values_from, later_in}
use Rattle.session_text.proofs.numbers.put_numbers.Given as goal

abbrev pub invariant-loop-byte : goal.invariant-loop-byte
invariant-loop-byte l = let left = drop l.byte-index l.bytes in
    (l.k + suc (later_in left) ≤ length l.numbers) × (ok_from true l.value left ≡ true)
    × (over 0 (numbers_of l.bytes) l.fn.numbers ≡ over l.k (values_from l.value left) l.numbers)
