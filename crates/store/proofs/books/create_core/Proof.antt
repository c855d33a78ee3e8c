-- `store::books::create_core` meets its contract: the lengths, then the range of the starting epoch.
-- Assumes nothing.
use mathlib.Core.Path.{sym, ◌∙◌}
use borrow.Author.Tests.{not-true, not-false}
use borrow.Author.Rules.{rules}
use Rattle.rules.specs.Calls.{create_answer}
use Rattle.epoch.proofs.Laws.Epochs.{start-at, start-out}
use Rattle.store.proofs.books.create_core.Statement.{statement}
use Rattle.store.proofs.books.create_core.Tie as tie

returns : tie.Need-returns-then-not-lengths_ok
unfolding create_answer
returns c = rw (sym c.before.lengths_ok.ensures ∙ not-true _ c.if-not-lengths_ok.true-raw)

returns_2 : tie.Need-returns-in_default
unfolding create_answer
returns_2 c =
    let s = c.before.before.before in
    rw (
      sym s.lengths_ok.ensures ∙ not-false _ c.before.before.if-not-lengths_ok.false-raw,
      start-out s.before.args.a (sym c.before.new.ensures ∙ c.in_default.is),
    )

returns_3 : tie.Need-returns
unfolding create_answer
returns_3 c =
    let f = c.before in
    let n = f.before in
    let s = n.before.before in
    let w = start-at s.before.args.a _ (sym n.new.ensures ∙ f.in-Some.is) in
    rw (
      sym s.lengths_ok.ensures ∙ not-false _ n.before.if-not-lengths_ok.false-raw,
      w.0,
      c.new_books-after.ensures,
      w.1,
    )

pub create_core_spec : {M : Type 1} → statement M
create_core_spec =
    tie.close
    (tie.spec
    (λ c κs. search rules)
    returns
    (λ c κs. search rules)
    (λ c. search rules)
    (λ c. search rules)
    returns_2
    (λ c κs. search rules)
    returns_3)
