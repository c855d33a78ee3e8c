-- The record at place j is written anew, and its row is cleared; all else stays.
-- Assumes nothing.
use mathlib.Core.Path.{◌∙◌}
use native.Mathlib.Omega.{arith}
use borrow.Author.Rules.{rules}
use Rattle.rules.specs.Close.{waiting_txn}
use Rattle.txn_close.proofs.Laws.Rows.{set-records, set-table}
use Rattle.txn_close.proofs.close.Books.closed_waiting.Statement.{statement}
use Rattle.txn_close.proofs.close.Books.closed_waiting.Tie as tie

returns : tie.Need-returns
returns c = let z = c.before.before in let s = z.before.before in let a = s.args in
    let w = waiting_txn a.i in let r = set-records s.requires.0 a.j w s.requires.1 in (
      (λ i. record { clock = a.self.clock; writers = r i }),
      z.zero_row.ensures ∙ set-table s.requires.0 a.j w s.requires.1 (omega arith),
    )

pub closed_waiting_spec : {M : Type 1} → statement M
closed_waiting_spec =
    tie.close
    (tie.spec
    (λ c. search rules)
    (λ c κs. search rules)
    (λ c. search rules)
    (λ c. search rules)
    returns)
