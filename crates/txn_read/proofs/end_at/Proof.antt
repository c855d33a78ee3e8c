-- The place of the transaction; then it is taken out.
-- Assumes nothing.
use mathlib.Core.Path.{sym, ◌∙◌}
use native.Mathlib.Omega.{arith}
use borrow.Author.Rules.{rules}
use Rattle.txn_find.proofs.Laws.Find.{reader-stands_in}
use Rattle.txn_find.proofs.Laws.Places.{readers_32}
use Rattle.txn_read.specs.End.{ended_at}
use Rattle.txn_read.proofs.end_at.Statement.{statement}
use Rattle.txn_read.proofs.end_at.Tie as tie

returns : tie.Need-returns-in_default
unfolding ended_at
returns c = let f = c.before in rw (sym f.find_reader.ensures ∙ c.in_default.is)

cut-readers_requires : tie.Need-cut_readers-left-requires
cut-readers_requires c κs =
    let j = c in let f = j.before in let s = f.before in let ps = s.args.ps in
    let w = (reader-stands_in ps _ (readers_32 ps _ s.well_formed.0) f.find_reader.ensures j.in-Some.is).below in
    let p = s.requires.0 in
    ((omega arith, omega arith, p), s.requires.1)

returns_2 : tie.Need-returns
unfolding ended_at
returns_2 c =
    let j = c.before in let f = j.before in
    rw (sym f.find_reader.ensures ∙ j.in-Some.is, c.cut_readers-left.ensures)

pub end_at_spec : {M : Type 1} → statement M
unfolding ended_at
end_at_spec =
    tie.close
    (tie.spec
    (λ c κs. search rules)
    (λ c. search rules)
    (λ c. search rules)
    returns
    (λ c. let j = c in let f = j.before in let s = f.before in let ps = s.args.ps in
    omega (
      arith,
      (reader-stands_in ps _ (readers_32 ps _ s.well_formed.0) f.find_reader.ensures j.in-Some.is
          ).below,
    ))
    cut-readers_requires
    returns_2)
