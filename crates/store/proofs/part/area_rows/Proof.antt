-- `store::part::area_rows` meets its contract, by how much of the area is lent.
-- Assumes nothing.
use mathlib.Core.Path.{◌≡◌, sym, ◌∙◌}
use Prim.Native.Nat.{◌≤◌, ◌+◌, ◌-◌, ◌*◌}
use native.Mathlib.Omega.{arith}
use lib.ListN.{length, drop, length-drop, drop_of_length-le}
use lib.Seq.{take_all}
use borrow.Author.Rules.{rules}
use Rattle.store.proofs.part.area_rows.Statement.{statement}
use Rattle.store.proofs.part.area_rows.Tie as tie

returns : tie.Need-returns-then-n-area
returns c = let a = c.before.before.args in let n = length a.rows.now in let e : n - n ≡ 0 = omega arith in
    let h : n ≤ 512 * a.area = omega (arith, c.before.if-n-area.true) in rw (e, drop_of_length-le a.rows.now h)

returns_2 : tie.Need-returns-then-n-from-lt-ROWS_MAX
returns_2 c = let a = c.before.before.before.args in let l = drop (512 * a.area) a.rows.now in
    let n = length-drop (512 * a.area) a.rows.now in
    take_all (length a.rows.now - 512 * a.area) l (omega arith)
    ∙ sym (take_all 512 l (omega (arith, c.before.if-n-from-lt-ROWS_MAX.true)))

returns_3 : tie.Need-returns
returns_3 c = let i = 512 * c.before.before.before.args.area in let e : (i + 512) - i ≡ 512 = omega arith in rw e

pub area_rows_spec : {M : Type 1} → statement M
area_rows_spec =
    tie.close
    (tie.spec
    (λ c. search rules)
    (λ c. search rules)
    (λ c. search rules)
    (λ c. search rules)
    returns
    (λ c. search rules)
    (λ c. search rules)
    (λ c. search rules)
    (λ c. search rules)
    (λ c. search rules)
    (λ c. search rules)
    returns_2
    (λ c. search rules)
    (λ c. search rules)
    (λ c. search rules)
    (λ c. search rules)
    (λ c. search rules)
    returns_3)
