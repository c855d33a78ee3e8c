-- What is left after a move. Definitions: specs/Move.antt.
-- In order: one entry more put, its index cut off at one past the end; all put where there is room; those of a move.
-- Assumes nothing.
use mathlib.Core.Path.{◌≡◌, sym, ap, ◌∙◌}
use mathlib.Core.List.{List, [], ◌∷◌}
use Prim.Native.Nat.{ℕ, ◌+◌, ◌*◌, ◌≤◌, ◌<◌, min}
use native.Mathlib.Omega.{arith}
use lib.Dec.{leb}
use lib.ListN.{length, length-set, length-take, drop, get_or, set}
use lib.Seq.{set_out}
use borrow.Author.Tests.{leb-true, leb-false}
use Rattle.std.proofs.lemmas.List.{drop_more}
use Rattle.lists.specs.Lists.{over}
use Rattle.lists.proofs.Laws.Bools.{split}
use Rattle.lists.proofs.Laws.Over.{over-nil, over-cons}
use Rattle.rules.specs.Limits.{areas_max, entries_max}
use Rattle.rules.specs.declared.Entry.{Entry}
use Rattle.lent.specs.Entries.{none}
use Rattle.area.specs.Area.{entries_in}
use Rattle.rewrite.specs.Move.{puts_from, entries_moved}
use Rattle.rewrite.specs.declared.moves.Move.{Move}

set-cut : (es : List Entry) (i top : ℕ) (e : Entry) → length es ≤ top → set es (min i top) e ≡ set es i e
set-cut es i top e h = split (leb i top)
    (λ t. let k = leb-true i top t in let n : min i top ≡ i = omega arith in ap (λ (j : ℕ). set es j e) n)
    (λ f. let k = leb-false i top f in
    set_out es (min i top) e (omega arith) ∙ sym (set_out es i e (omega arith)))

pub puts_next : (i k top : ℕ) (xs es : List Entry) → k < length xs → length es ≤ top
    → puts_from (i + k) (drop k xs) es
    ≡ puts_from (i + (k + 1)) (drop (k + 1) xs) (set es (min (i + k) top) (get_or xs k none))
unfolding puts_from
puts_next i k top xs es h room = let n : i + k + 1 ≡ i + (k + 1) = omega arith in
    rw (drop_more xs k none h, set-cut es (i + k) top (get_or xs k none) room)
    (ap (λ (j : ℕ). puts_from j (drop (k + 1) xs) (set es (i + k) (get_or xs k none))) n)

puts-over : (i : ℕ) (xs es : List Entry) → i + length xs ≤ length es → puts_from i xs es ≡ over i xs es
unfolding puts_from
puts-over i [] es h = sym (over-nil i es)
puts-over i (x ∷ xs) es h =
    puts-over (i + 1) xs (set es i x) (rw (length-set es i x) (omega arith)) ∙ sym (over-cons i x xs es h)

pub put-kept : (w : Move) (es : List Entry) → w.new.count ≤ entries_max
    → w.entry + entries_max ≤ entries_max * areas_max → length es ≡ entries_max * areas_max
    → entries_moved w es ≡ over w.entry (entries_in w.new) es
put-kept w es few low len =
    puts-over w.entry (entries_in w.new) es (omega (arith, length-take w.new.count w.new.at))
