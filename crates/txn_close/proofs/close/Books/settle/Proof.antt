-- LCE is the last epoch passed before the first open record, which is told; the records passed go, with their rows.
-- Assumes nothing.
use mathlib.Core.Path.{◌≡◌, sym, ap, ◌∙◌}
use Prim.Native.Nat.{◌≤◌}
use native.Mathlib.Omega.{arith}
use borrow.Author.Rules.{rules}
use Rattle.txn.specs.Records.{viewed}
use Rattle.txn.proofs.Laws.Records.{viewed-length, tidy-places, tidy-words}
use Rattle.rules.specs.Manager.{with_lce}
use Rattle.txn_close.specs.Close.{lead, reach_of}
use Rattle.txn_close.specs.declared.close.Reached.{Reached}
use Rattle.txn_close.proofs.Laws.Rows.{cut-records, cut-table}
use Rattle.txn_close.proofs.Laws.Settle.{lead-length, lead-none, reached-is}
use Rattle.txn_close.proofs.close.Books.settle.Statement.{statement}
use Rattle.txn_close.proofs.close.Books.settle.Tie as tie

reached : (c : tie.After-reach-reached) → let a = c.before.args in
    c.reach-reached.result ≡ reach_of a.self.clock.lce (viewed a.self.writers a.deps.now)
reached c = let a = c.before.args in
    reached-is a.self.clock.lce a.self.writers a.deps.now c.reach-reached.ensures

-- no more than are in use
few : (c : tie.After-reach-reached) → c.reach-reached.result.count ≤ c.before.args.self.writers.count
few c = let a = c.before.args in let k = ap (λ (r : Reached). r.count) (reached c) in
    let l = lead-length (viewed a.self.writers a.deps.now) in let n = viewed-length c.before.requires in
    omega arith

returns : tie.Need-returns-then-k-eq0
returns c =
    let s = c.before.before in let a = s.args in let T = s.requires in
    let ws = viewed a.self.writers a.deps.now in
    let z : lead ws ≡ 0 = sym (ap (λ (r : Reached). r.count) (reached c.before)) ∙ c.if-k-eq0.true in
    let l = reached c.before in
    rw (lead-none a.self.clock.lce ws z, z) (
      (λ i. record { books = record { clock = a.self.clock; writers = T.records i }; oldest = (l i).oldest }),
      T.table,
    )

cut-words_requires : tie.Need-cut_words-requires
cut-words_requires c κs = let r = c.before.before in let T = r.before.requires in let m = T.room in let k = few r in
    ((omega arith, omega arith, omega arith, T.words), tidy-words T)

cut-writers_requires : tie.Need-cut_writers-ts-requires
cut-writers_requires c κs = let r = c.before.before.before.before in let T = r.before.requires in let m = T.room in
    let k = few r in ((omega arith, k, m), tidy-places T)

returns_2 : tie.Need-returns
returns_2 c =
    let k = c.before in let w = k.before in let r = c.before.before.before.before.before.before in let s = r.before in
    let a = s.args in let T = s.requires in
    let e = cut-records T 0 r.reach-reached.result.count k.cut_writers-ts.ensures.0 k.cut_writers-ts.ensures.1 in
    let t = c.before.before.before.cut_words.ensures ∙ cut-table T 0 r.reach-reached.result.count in
    let l = reached r in let n = ap (λ (x : Reached). x.count) l in
    rw (← n) (
      (λ i. record {
        books = record { clock = with_lce (l i).lce a.self.clock; writers = e i };
        oldest = (l i).oldest;
      }),
      t,
    )

pub settle_spec : {M : Type 1} → statement M
settle_spec =
    tie.close
    (tie.spec
    (λ c κs. search rules)
    returns
    (λ c. let r = c.before.before in let m = r.before.requires.room in let k = few r in omega arith)
    (λ c. search rules)
    cut-words_requires
    cut-writers_requires
    returns_2)
