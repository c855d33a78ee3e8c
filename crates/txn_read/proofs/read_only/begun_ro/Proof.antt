-- `begun_ro` puts the new record after those in use; the places from there on were unused.
-- Assumes nothing.
use native.Mathlib.Numerals.{add-one}
use native.Mathlib.Omega.{arith}
use borrow.Author.Rules.{rules}
use Rattle.lists.proofs.Laws.Places.{pushed}
use Rattle.rules.specs.Limits.{readers_max}
use Rattle.rules.specs.Manager.{no_ro, ro_txn}
use Rattle.laws.proofs.Laws.Limits.{last_ticket-fits}
use Rattle.txn_find.proofs.Laws.Places.{readers_32}
use Rattle.txn_read.proofs.read_only.begun_ro.Statement.{statement}
use Rattle.txn_read.proofs.read_only.begun_ro.Tie as tie

returns : tie.Need-returns
returns c =
    let ps = c.args.readers in
    let p = pushed no_ro ps.at readers_max ps.count (ro_txn ps.next c.args.at)
    (readers_32 ps _ c.well_formed.0) c.requires.1 c.requires.0.0 in
    rw (p.0, p.1, add-one ps.next)

pub begun_ro_spec : {M : Type 1} → statement M
begun_ro_spec =
    tie.close
    (tie.spec
    (λ c. search rules)
    (λ c. search rules)
    (λ c. search rules)
    (λ c. omega (arith, last_ticket-fits))
    returns)
