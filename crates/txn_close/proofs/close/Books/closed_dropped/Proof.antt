-- The record at place j is taken out, and so is its row; all else stays.
-- Assumes nothing.
use mathlib.Core.Path.{ap, ◌∙◌}
use mathlib.Core.List.{List}
use Prim.Native.Nat.{ℕ, ◌+◌}
use native.Mathlib.Numerals.{add-one}
use native.Mathlib.Omega.{arith}
use borrow.Author.Rules.{rules}
use Rattle.rules.specs.Manager.{Writer}
use Rattle.txn.specs.Records.{cut, writers_with, table_with, viewed}
use Rattle.txn.proofs.Laws.Records.{tidy-places, tidy-words}
use Rattle.txn_close.proofs.Laws.Rows.{cut-records, cut-table}
use Rattle.txn_close.proofs.close.Books.closed_dropped.Statement.{statement}
use Rattle.txn_close.proofs.close.Books.closed_dropped.Tie as tie

cut-words_requires : tie.Need-cut_words-requires
cut-words_requires c κs = let T = c.before.requires.0 in let r = T.room in
    ((omega arith, omega arith, omega arith, T.words), tidy-words T)

cut-writers_requires : tie.Need-cut_writers-ts-requires
cut-writers_requires c κs = let T = c.before.before.requires.0 in let r = T.room in
    ((omega arith, omega arith, r), tidy-places T)

returns : tie.Need-returns
returns c =
    let k = c.before in let w = k.before in let s = w.before.before in let a = s.args in let T = s.requires.0 in
    let e = cut-records T a.j (a.j + 1) k.cut_writers-ts.ensures.0 k.cut_writers-ts.ensures.1 in
    let left : ℕ → List Writer = λ b. cut a.j b (viewed a.self.writers a.deps.now) in
    let n = add-one a.j in (
      (λ i. record { clock = a.self.clock; writers = (e ∙ ap (λ b. writers_with (left b)) n) i }),
      c.before.before.before.cut_words.ensures ∙ cut-table T a.j (a.j + 1) ∙ ap (λ b. table_with (left b)) n,
    )

pub closed_dropped_spec : {M : Type 1} → statement M
closed_dropped_spec =
    tie.close
    (tie.spec
    (λ c. search rules)
    (λ c. search rules)
    (λ c. search rules)
    (λ c. search rules)
    cut-words_requires
    (λ c. search rules)
    cut-writers_requires
    returns)
