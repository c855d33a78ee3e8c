-- The place of the transaction; then it is closed there, and LCE is settled.
-- Assumes nothing.
use mathlib.Core.Path.{refl, sym, ap, ◌∙◌}
use Prim.Native.Nat.{◌<◌}
use native.Mathlib.Omega.{arith}
use borrow.Author.Rules.{rules}
use Rattle.txn.specs.Records.{viewed}
use Rattle.txn_find.proofs.Laws.Find.{writer-below}
use Rattle.txn_close.specs.Close.{closed_txns, ended_with}
use Rattle.txn_close.proofs.Laws.Close.{closed-fits, closed-tidy, settled-are}
use Rattle.txn_close.proofs.close_at.Statement.{statement}
use Rattle.txn_close.proofs.close_at.Tie as tie

returns : tie.Need-returns-in_default
returns c = let f = c.before in rw (sym f.find_writer.ensures ∙ c.in_default.is) (refl, refl)

close_requires : tie.Need-close-closed-requires
close_requires c κs =
    let j = c.before in let f = j.before in let s = f.before in let T = s.requires in let r = T.room in
    let w = writer-below s.args.ts _ T.len f.find_writer.ensures j.in-Some.is in
    let l : j.in-Some.j < s.args.ts.count = omega arith in
    (T, l)

settle_requires : tie.Need-settle-next-requires
settle_requires c κs =
    let k = c.before in let j = k.before.before in let s = j.before.before in
    let e = k.close-closed.ensures in
    rw (e.0, e.1) (closed-tidy s.requires s.args.waits j.in-Some.j s.args.i)

returns_2 : tie.Need-returns
returns_2 c =
    let q = c.before.before in let k = q.before.before in let j = k.before.before in
    let f = j.before in let s = f.before in let a = s.args in let e = k.close-closed.ensures in
    let ws = viewed a.ts a.deps.now in let n = j.in-Some.j in
    let is = settled-are a.clock (closed_txns a.waits n a.i ws) (closed-fits s.requires a.waits n a.i) _ _
    _ _ e.0 e.1 q.settle-next.ensures in
    rw (sym f.find_writer.ensures ∙ j.in-Some.is) (ap ended_with is.0, is.1)

pub close_at_spec : {M : Type 1} → statement M
close_at_spec =
    tie.close
    (tie.spec
    (λ c κs. search rules)
    (λ c. search rules)
    (λ c. search rules)
    returns
    close_requires
    settle_requires
    returns_2)
