-- The part of the table that starts at the row is lent, as far as the row and the table go.
-- Assumes nothing.
use Rattle.std.proofs.Common.{◌≡◌, ap, ◌∙◌, ◌+◌, ◌-◌, ◌*◌, take, drop, length, arith}
use Rattle.std.specs.Prelude.{min}
use Rattle.lists.proofs.Laws.Parts.{part-least}
use Rattle.rules.specs.Limits.{deps_max}
use Rattle.txn_find.proofs.row_of.Goals as goal

pub returns : goal.returns
returns c = let a = c.args in let from = deps_max * c.min-from.result in
    let k = c.min-2.result in let l : from + k - from ≡ k = omega arith in
    let e : k ≡ min (min a.n deps_max) (length a.deps.now - from) =
    c.min-2.ensures ∙ ap (λ m. min m (length a.deps.now - from)) c.min.ensures in
    rw l (part-least from deps_max a.n k a.deps.now e
    ∙ ap (λ i. take a.n (take deps_max (drop (deps_max * i) a.deps.now))) c.min-from.ensures)
