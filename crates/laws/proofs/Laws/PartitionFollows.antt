-- A partition's spans beside the ledger's list of lines: equal, once purged at LSE, but for what was rolled
-- back. This is what demand 3 keeps of each partition. In order: PartitionFollows, none, added lines, other
-- epochs, roll back, advance, purge, shown.
-- Assumes nothing.
use mathlib.Core.Path.{◌≡◌, refl, sym, ◌∙◌, ap}
use mathlib.Core.Bool.{Bool, true, not, ◌&&◌, cond}
use mathlib.Core.List.{List, [], ◌++◌, append-nil}
use Prim.Native.Nat.{ℕ, ◌≤◌, ◌<◌}
use native.Mathlib.Omega.{arith}
use lib.Dec.{eqb}
use borrow.Author.Tests.{ne_eqb}
use Rattle.lists.proofs.Laws.All.{All_imp, All_every}
use Rattle.lists.proofs.Laws.Bools.{split}
use Rattle.rules.specs.Span.{Span}
use Rattle.rules.specs.Rewrite.{rolled_back, purged, skips}
use Rattle.rules.specs.Ledger.{Line, shows}
use Rattle.laws.proofs.Laws.Lines.{mark_of, AllLines, keep_lines, keep_append, keep-keep, keep_all}
use Rattle.laws.proofs.Laws.Lines.{keep_ext, AllLines-append, shows-keep}
use Rattle.laws.proofs.Laws.LinesPurge.{purge_lines, shows-purge, purge-purge, keep-purge}
use Rattle.laws.proofs.Laws.LinesOf.{lines_of, lines-rolled_back, lines-purged}

-- l is LSE, ec is EC, and alive says which epochs were not rolled back
pub record PartitionFollows (l ec : ℕ) (alive : ℕ → Bool) (ss : List Span) (ls : List Line) : Type 0 where
  pub below : AllLines (λ x. mark_of x < ec) ls
  pub agree : purge_lines l (lines_of ss) ≡ purge_lines l (keep_lines alive ls)

pub follows-none : (l ec : ℕ) (alive : ℕ → Bool) → PartitionFollows l ec alive [] []
unfolding lines_of
follows-none l ec alive = record { below = tt; agree = refl }

-- one purge more at the same epoch, or at a later one, and lines of later epochs behind
purge-behind : (l m : ℕ) (xs xs' ys : List Line) → l ≤ m → AllLines (λ x. l < mark_of x) ys → purge_lines l xs ≡
    purge_lines l xs'
    → purge_lines m (xs ++ ys) ≡ purge_lines m (xs' ++ ys)
purge-behind l m xs xs' ys h g e = sym (purge-purge l m h ys g xs) ∙ (ap (λ (z : List Line). purge_lines m (z ++
    ys)) e ∙ purge-purge l m h ys g xs')

purge-later : (l m : ℕ) (xs xs' : List Line) → l ≤ m → purge_lines l xs ≡ purge_lines l xs' → purge_lines m xs ≡
    purge_lines m xs'
purge-later l m xs xs' h e = ap (purge_lines m) (sym (append-nil xs)) ∙ (purge-behind l m xs xs' [] h tt e ∙ ap
    (purge_lines m) (append-nil xs'))

module _ {l ec : ℕ} {alive : ℕ → Bool} {ss : List Span} {ls : List Line} (F : PartitionFollows l ec alive ss ls)
  where
    -- append and clear: lines of an open transaction i at the end of both
    pub follows-added : (i : ℕ) (ss' : List Span) (ys : List Line) → l < i → i < ec → alive i ≡ true
        → lines_of ss' ≡ lines_of ss ++ ys → AllLines (λ x. mark_of x ≡ i) ys → PartitionFollows l ec alive ss' (ls ++
        ys)
    follows-added i ss' ys hl he a e m = record {
      below = AllLines-append _ ls ys F.below (All_imp _ _ (λ x q. omega arith) ys m);
      agree = rw (e, keep_append alive ls ys, keep_all alive ys (All_imp _ _ (λ x q. rw q a) ys m))
          (purge-behind l l (lines_of ss) (keep_lines alive ls) ys (omega arith) (All_imp _ _ (λ x q. omega arith) ys m)
          F.agree);
    }

    -- begin, commit: the epochs on the list are alive as they were
    pub follows-alive : (ec' : ℕ) (alive' : ℕ → Bool) → ec ≤ ec' → ((j : ℕ) → j < ec → alive' j ≡ alive j)
        → PartitionFollows l ec' alive' ss ls
    follows-alive ec' alive' h g = record {
      below = All_imp _ _ (λ x q. omega arith) ls F.below;
      agree = F.agree ∙ ap (purge_lines l) (sym (keep_ext alive' alive ls
          (All_imp _ _ (λ x q. g (mark_of x) q) ls F.below)));
    }

    -- roll back of i
    pub follows-rolled_back : (i : ℕ) (alive' : ℕ → Bool) → l < i → ((j : ℕ) → alive' j ≡ alive j && not (eqb j i))
        → PartitionFollows l ec alive' (rolled_back i ss) ls
    follows-rolled_back i alive' h g = record {
      below = F.below;
      agree = ap (purge_lines l) (lines-rolled_back i ss)
          ∙ (past (lines_of ss)
          ∙ (ap (keep_lines others) F.agree
          ∙ (sym (past (keep_lines alive ls))
          ∙ ap (purge_lines l) (keep-keep others alive ls ∙ sym (keep_ext alive' (λ j. alive j && not (eqb j i)) ls
          (All_every _ (λ x. g (mark_of x)) ls))))));
    }
      where
        others : ℕ → Bool
        others j = not (eqb j i)

        past : (xs : List Line) → purge_lines l (keep_lines others xs) ≡ keep_lines others (purge_lines l xs)
        past xs = keep-purge l others (λ j q. ap not (ne_eqb j i (λ e. omega arith))) xs

    pub follows-advanced : (m : ℕ) → l ≤ m → PartitionFollows m ec alive ss ls
    follows-advanced m h = record {
      below = F.below;
      agree = purge-later l m (lines_of ss) (keep_lines alive ls) h
          F.agree;
    }

    pub follows-purged : PartitionFollows l ec alive (cond (skips l ss) ss (purged l ss)) ls
    follows-purged = split (skips l ss) (λ t. rw t F) (λ f. rw f (record {
      below = F.below;
      agree = ap (purge_lines l) (lines-purged l ss)
          ∙ (ap (purge_lines l) (sym (append-nil (purge_lines l (lines_of ss))))
          ∙ (purge-purge l l (omega arith) [] tt (lines_of ss)
          ∙ (ap (purge_lines l) (append-nil (lines_of ss)) ∙ F.agree)));
    }))

    -- a reader that sees and applies all up to LSE is shown what the ledger shows
    pub follows-shown : (sees applies : ℕ → Bool) → ((j : ℕ) → j ≤ l → sees j ≡ true) → ((k : ℕ) → k ≤ l → applies k
        ≡ true)
        → shows sees applies (lines_of ss) ≡ shows (λ j. alive j && sees j) (λ k. alive k && applies k) ls
    follows-shown sees applies hs ha =
        sym (shows-purge l sees applies hs ha (lines_of ss))
        ∙ (ap (shows sees applies) F.agree
        ∙ (shows-purge l sees applies hs ha (keep_lines alive ls)
        ∙ shows-keep alive sees applies ls))
