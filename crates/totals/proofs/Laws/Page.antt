-- A read-only transaction (01: page) at e sees the epochs from 1 on up to e. Definitions: specs/Reach.antt.
-- Assumes nothing.
use mathlib.Core.Path.{◌≡◌, sym, ◌∙◌}
use mathlib.Core.Bool.{Bool}
use mathlib.Core.List.{List}
use Prim.Native.Nat.{ℕ, ◌≤◌}
use native.Mathlib.Omega.{arith}
use lib.Dec.{leb}
use borrow.Author.Tests.{lt-ltb, ne_eqb}
use Rattle.lists.proofs.Laws.All.{All, All_imp}
use Rattle.lists.proofs.Laws.Bools.{and-true}
use Rattle.rules.specs.Span.{Span}
use Rattle.rules.specs.Sees.{up_to}
use Rattle.rules.specs.Hides.{shown}
use Rattle.rules.specs.Ledger.{Line}
use Rattle.laws.proofs.Laws.Hides.{shown-lines}
use Rattle.laws.proofs.Laws.Lines.{mark_of, Agree, shows-agree}
use Rattle.laws.proofs.Laws.LinesOf.{lines_of, All-lines}
use Rattle.totals.specs.Reach.{in_reach, page_reach}

page-reach : (e j : ℕ) → 1 ≤ j → in_reach (page_reach e) j ≡ up_to e j
unfolding in_reach
page-reach e j h = rw (lt-ltb 0 j h, ne_eqb j 0 (λ q. omega arith)) (and-true (leb j e))

pub page-shows : (e : ℕ) (ss : List Span) → All (λ s. 1 ≤ s.epoch) ss
    → shown (in_reach (page_reach e)) (in_reach (page_reach e)) ss ≡ shown (up_to e) (up_to e) ss
page-shows e ss h = let r : ℕ → Bool = in_reach (page_reach e) in
    shown-lines r r ss ∙ (shows-agree r r (up_to e) (up_to e) (lines_of ss) (All_imp _ _ same (lines_of ss)
    (All-lines (λ j. 1 ≤ j) ss h)) ∙ sym (shown-lines (up_to e) (up_to e) ss))
  where
    same : (x : Line) → 1 ≤ mark_of x
        → Agree (in_reach (page_reach e)) (in_reach (page_reach e)) (up_to e) (up_to e) x
    same x q = (page-reach e (mark_of x) q, page-reach e (mark_of x) q)
