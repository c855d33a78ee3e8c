-- Committed it waits, rolled back it goes.
-- Assumes nothing.
use borrow.Author.Rules.{rules}
use Rattle.txn_close.proofs.close.Books.close.Statement.{statement}
use Rattle.txn_close.proofs.close.Books.close.Tie as tie

pub close_spec : {M : Type 1} → statement M
close_spec =
    tie.close
    (tie.spec
    (λ c κs. search rules)
    (λ c. rw c.before.before.if-waits.true (search rules))
    (λ c κs. search rules)
    (λ c. rw c.before.before.if-waits.false (search rules)))
