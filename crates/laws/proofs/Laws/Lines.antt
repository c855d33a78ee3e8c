-- Lines of a ledger's list by mark, and what is shown of them. 01 "The ledger of demand 3". Definitions:
-- rules/specs/Ledger.
-- In order: mark_of, AllLines, keep_lines, any_delete; laws of deletes; of keep_lines and AllLines; shows of
-- readers that agree; shows of kept lines; shows of lines added at the end.
-- Elsewhere: purge (LinesPurge.antt); All, any_of and keep_if of any list (lists, All.antt).
-- Assumes nothing.
use mathlib.Core.Path.{◌≡◌, refl, sym, ◌∙◌, ap}
use mathlib.Core.Bool.{Bool, true, false, not, ◌&&◌}
use mathlib.Core.List.{List, [], ◌∷◌, ◌++◌, map, append-nil}
use Prim.Native.Nat.{ℕ, ◌≤◌, ◌<◌}
use native.Mathlib.Omega.{arith}
use lib.Dec.{ltb, eqb}
use borrow.Author.Tests.{ltb-true, ltb-false, eq-eqb, lt-ltb}
use Rattle.lists.specs.Lists.{keep_if, any_of}
use Rattle.lists.proofs.Laws.All.{All, All_every, All_imp, All-append, All-map, any_of_ext}
use Rattle.lists.proofs.Laws.All.{any_of-none, keep_if-keep_if, keep_if_ext, keep_if-all}
use Rattle.lists.proofs.Laws.Bools.{split, split-eq, and-false, and_assoc, or-false, or_right}
use Rattle.lists.proofs.Laws.Filter.{keep_if-append, any_of-append, any_of-keep_if}
use Rattle.lists.proofs.Laws.Tests.{and_comm}
use Rattle.rules.specs.Ledger.{Line, row, delete, deletes, concealed, shows_in, shows}

abbrev pub mark_of : Line → ℕ
mark_of (row j w) = j
mark_of (delete k) = k

abbrev pub AllLines : (Line → Type 0) → List Line → Type 0
AllLines P xs = All P xs

-- the lines whose mark passes: what a roll back leaves
abbrev pub keep_lines : (ℕ → Bool) → List Line → List Line
keep_lines p xs = keep_if (λ x. p (mark_of x)) xs

-- is there a delete whose mark passes
abbrev pub any_delete : (ℕ → Bool) → List Line → Bool
any_delete p xs = any_of (deletes p) xs

-- a test of the deletes that are applied
abbrev pub both : (ℕ → Bool) → (ℕ → Bool) → ℕ → Bool
both a q k = a k && q k

-- ---- deletes

pub deletes_ext : (p q : ℕ → Bool) → ((k : ℕ) → p k ≡ q k) → (x : Line) → deletes p x ≡ deletes q x
deletes_ext p q h (row j w) = refl
deletes_ext p q h (delete k) = h k

-- two tests that agree find the same deletes
pub any_delete_ext : (p q : ℕ → Bool) → ((k : ℕ) → p k ≡ q k) → (xs : List Line) → any_delete p xs ≡ any_delete q xs
any_delete_ext p q h xs = any_of_ext (deletes p) (deletes q) xs (All_every _ (deletes_ext p q h) xs)

pub any_delete-keep : (q p : ℕ → Bool) (xs : List Line) → any_delete q (keep_lines p xs) ≡ any_delete (both p q) xs
any_delete-keep q p xs = any_of-keep_if (deletes q) (λ x. p (mark_of x)) xs ∙ any_of_ext _ _ xs (All_every _ same xs)
  where
    same : (x : Line) → deletes q x && p (mark_of x) ≡ deletes (both p q) x
    same (row j w) = refl
    same (delete k) = and_comm (q k) (p k)

-- ---- keep_lines

pub keep_append : (p : ℕ → Bool) (xs ys : List Line) → keep_lines p (xs ++ ys) ≡ keep_lines p xs ++ keep_lines p ys
keep_append p xs ys = keep_if-append (λ x. p (mark_of x)) xs ys

pub keep-keep : (p q : ℕ → Bool) (xs : List Line) → keep_lines p (keep_lines q xs) ≡ keep_lines (λ j. q j && p j) xs
keep-keep p q xs = keep_if-keep_if (λ x. p (mark_of x)) (λ x. q (mark_of x)) xs

pub keep_all : (p : ℕ → Bool) (xs : List Line) → AllLines (λ x. p (mark_of x) ≡ true) xs → keep_lines p xs ≡ xs
keep_all p xs h = keep_if-all (λ x. p (mark_of x)) xs h

pub keep_ext : (p q : ℕ → Bool) (xs : List Line) → AllLines (λ x. p (mark_of x) ≡ q (mark_of x)) xs
    → keep_lines p xs ≡ keep_lines q xs
keep_ext p q xs h = keep_if_ext (λ x. p (mark_of x)) (λ x. q (mark_of x)) xs h

pub AllLines-append : (P : Line → Type 0) (xs ys : List Line) → AllLines P xs → AllLines P ys → AllLines P (xs ++ ys)
AllLines-append P xs ys a b = All-append P xs ys a b

-- the rows of one batch
pub AllLines-rows : (P : ℕ → Type 0) (i : ℕ) (ws : List ℕ) → P i → AllLines (λ x. P (mark_of x)) (map (row i) ws)
AllLines-rows P i ws h = All-map (λ x. P (mark_of x)) (row i) (λ w. h) ws

-- ---- readers that agree on each mark of the list are shown the same

abbrev pub Agree : (s a s' a' : ℕ → Bool) → Line → Type 0
Agree s a s' a' x = (s (mark_of x) ≡ s' (mark_of x)) × (a (mark_of x) ≡ a' (mark_of x))

module _ (s a s' a' : ℕ → Bool) where
  any_delete-agree : (q : ℕ → Bool) (xs : List Line) → AllLines (Agree s a s' a') xs
      → any_delete (both a q) xs ≡ any_delete (both a' q) xs
  any_delete-agree q xs h = any_of_ext _ _ xs (All_imp _ _ same xs h)
    where
      same : (x : Line) → Agree s a s' a' x → deletes (both a q) x ≡ deletes (both a' q) x
      same (row j w) g = refl
      same (delete k) g = rw g.1

  shows_agree_in : (all xs : List Line) → AllLines (Agree s a s' a') all → AllLines (Agree s a s' a') xs
      → shows_in s a all xs ≡ shows_in s' a' all xs
  unfolding shows_in concealed
  shows_agree_in all [] g h = refl
  shows_agree_in all (row j w ∷ xs) g h =
      rw (h.0.0, any_delete-agree (ltb j) all g, any_delete-agree (eqb j) xs h.1, shows_agree_in all xs g h.1)
  shows_agree_in all (delete k ∷ xs) g h = shows_agree_in all xs g h.1

  pub shows-agree : (xs : List Line) → AllLines (Agree s a s' a') xs → shows s a xs ≡ shows s' a' xs
  unfolding shows
  shows-agree xs h = shows_agree_in xs xs h h

  pub shows_ext : ((j : ℕ) → s j ≡ s' j) → ((k : ℕ) → a k ≡ a' k) → (xs : List Line) → shows s a xs ≡ shows s' a' xs
  shows_ext f g xs = shows-agree xs (All_every _ (λ x. (f (mark_of x), g (mark_of x))) xs)

-- ---- to read past what was rolled back is to see and to apply less

module _ (p s a : ℕ → Bool) where
  concealed-keep : (all xs : List Line) (j : ℕ)
      → concealed a (keep_lines p all) (keep_lines p xs) j ≡ concealed (both p a) all xs j
  unfolding concealed
  concealed-keep all xs j = rw (one (ltb j) all, one (eqb j) xs)
    where
      one : (q : ℕ → Bool) (ys : List Line) → any_delete (both a q) (keep_lines p ys)
          ≡ any_delete (both (both p a) q) ys
      one q ys = any_delete-keep (both a q) p ys ∙ any_delete_ext _ _ (λ k. sym (and_assoc (p k) (a k) (q k))) ys

  shows_keep_in : (all xs : List Line)
      → shows_in s a (keep_lines p all) (keep_lines p xs) ≡ shows_in (both p s) (both p a) all xs
  unfolding shows_in
  shows_keep_in all [] = refl
  shows_keep_in all (row j w ∷ xs) = let ih = shows_keep_in all xs in
      split (p j) (λ t. rw (t, concealed-keep all xs j, ih)) (λ f. rw (f, ih))
  shows_keep_in all (delete k ∷ xs) = let ih = shows_keep_in all xs in split (p k) (λ t. rw t ih) (λ f. rw f ih)

  pub shows-keep : (xs : List Line) → shows s a (keep_lines p xs) ≡ shows (λ j. p j && s j) (λ k. p k && a k) xs
  unfolding shows
  shows-keep xs = shows_keep_in xs xs

-- ---- lines added at the end

-- a row that the reader does not see, a delete that it does not apply
abbrev pub Unseen : (s a : ℕ → Bool) → Line → Type 0
Unseen s a (row j w) = s j ≡ false
Unseen s a (delete k) = a k ≡ false

abbrev RowUnseen : (ℕ → Bool) → Line → Type 0
RowUnseen s (row j w) = s j ≡ false
RowUnseen s (delete k) = Unit

-- no delete among the lines is applied
abbrev Unapplied : (ℕ → Bool) → Line → Type 0
Unapplied a (row j w) = Unit
Unapplied a (delete k) = a k ≡ false

module _ (s a : ℕ → Bool) where
  unseen_unapplied : (x : Line) → Unseen s a x → Unapplied a x
  unseen_unapplied (row j w) h = tt
  unseen_unapplied (delete k) h = h

  unseen-row : (x : Line) → Unseen s a x → RowUnseen s x
  unseen-row (row j w) h = h
  unseen-row (delete k) h = tt

  any_delete_unapplied : (q : ℕ → Bool) (ys : List Line) → AllLines (Unapplied a) ys → any_delete (both a q) ys ≡ false
  any_delete_unapplied q ys h = any_of-none _ ys (All_imp _ _ pt ys h)
    where
      pt : (x : Line) → Unapplied a x → deletes (both a q) x ≡ false
      pt (row j w) g = refl
      pt (delete k) g = rw g

  module _ (ys : List Line) (h : AllLines (Unapplied a) ys) where
    concealed-added : (all xs : List Line) (j : ℕ) → concealed a (all ++ ys) (xs ++ ys) j ≡ concealed a all xs j
    unfolding concealed
    concealed-added all xs j = rw (one (ltb j) all, one (eqb j) xs)
      where
        one : (q : ℕ → Bool) (zs : List Line) → any_delete (both a q) (zs ++ ys) ≡ any_delete (both a q) zs
        one q zs = any_of-append (deletes (both a q)) zs ys
            ∙ rw (any_delete_unapplied q ys h) (or-false (any_delete (both a q) zs))

    shows_added_in : (all xs : List Line)
        → shows_in s a (all ++ ys) (xs ++ ys) ≡ shows_in s a all xs ++ shows_in s a (all ++ ys) ys
    unfolding shows_in
    shows_added_in all [] = refl
    shows_added_in all (row j w ∷ xs) = let ih = shows_added_in all xs in
        rw (concealed-added all xs j, ih) (split (s j && not (concealed a all xs j)) (λ t. rw t) (λ f. rw f))
    shows_added_in all (delete k ∷ xs) = shows_added_in all xs

  -- no row is seen
  shows-none_in : (all ys : List Line) → AllLines (RowUnseen s) ys → shows_in s a all ys ≡ []
  unfolding shows_in
  shows-none_in all [] h = refl
  shows-none_in all (row j w ∷ ys) h = rw h.0 (shows-none_in all ys h.1)
  shows-none_in all (delete k ∷ ys) h = shows-none_in all ys h.1

  pub shows-unseen : (ls ys : List Line) → AllLines (Unseen s a) ys → shows s a (ls ++ ys) ≡ shows s a ls
  unfolding shows
  shows-unseen ls ys h = shows_added_in ys (All_imp _ _ unseen_unapplied ys h) ls ls
      ∙ (ap (λ zs. shows_in s a ls ls ++ zs) (shows-none_in (ls ++ ys) ys (All_imp _ _ unseen-row ys h))
      ∙ append-nil (shows_in s a ls ls))

  -- rows of a mark that the reader sees, where it applies no delete of a later mark
  module _ (i : ℕ) (sees : s i ≡ true) (later : (k : ℕ) → i < k → a k ≡ false) where
    shows_own_in : (all : List Line) (ws : List ℕ) → shows_in s a all (map (row i) ws) ≡ ws
    unfolding shows_in concealed
    shows_own_in all [] = refl
    shows_own_in all (w ∷ ws) = rw (
      sees,
      any_of-none (deletes (both a (ltb i))) all (All_every _ none all),
      any_delete_unapplied (eqb i) (map (row i) ws) (All-map (Unapplied a) (row i) (λ v. tt) ws),
      shows_own_in all ws,
    )
      where
        none : (x : Line) → deletes (both a (ltb i)) x ≡ false
        none (row j v) = refl
        none (delete k) = split (ltb i k) (λ t. rw (later k (ltb-true i k t))) (λ f. rw f (and-false (a k)))

    pub shows-own : (ls : List Line) (ws : List ℕ) → shows s a (ls ++ map (row i) ws) ≡ shows s a ls ++ ws
    unfolding shows
    shows-own ls ws = shows_added_in (map (row i) ws) (All-map (Unapplied a) (row i) (λ v. tt) ws) ls ls
        ∙ ap (λ zs. shows_in s a ls ls ++ zs) (shows_own_in (ls ++ map (row i) ws) ws)

  -- a delete that the reader applies, where it sees no row of a later mark: nothing is left
  module _ (i : ℕ) (applied : a i ≡ true) (later : (j : ℕ) → i < j → s j ≡ false) where
    last_applies : (q : ℕ → Bool) → q i ≡ true → (xs : List Line) → any_delete (both a q) (xs ++ delete i ∷ []) ≡ true
    last_applies q h xs = any_of-append (deletes (both a q)) xs (delete i ∷ [])
        ∙ or_right (any_delete (both a q) xs) _ (rw (applied, h))

    last_conceals : (all xs : List Line) (j : ℕ) → j ≤ i → concealed a (all ++ delete i ∷ []) (xs ++ delete i ∷ []) j
        ≡ true
    unfolding concealed
    last_conceals all xs j h = split-eq j i
        (λ e. or_right (any_delete (both a (ltb j)) (all ++ delete i ∷ [])) _ (last_applies (eqb j) (eq-eqb j i e) xs))
        (λ n. rw (last_applies (ltb j) (lt-ltb j i (omega arith)) all))

    shows_cleared_in : (all xs : List Line) → shows_in s a (all ++ delete i ∷ []) (xs ++ delete i ∷ []) ≡ []
    unfolding shows_in
    shows_cleared_in all [] = refl
    shows_cleared_in all (row j w ∷ xs) = let ih = shows_cleared_in all xs in split (ltb i j)
        (λ t. rw (later j (ltb-true i j t)) ih)
        (λ f. rw (last_conceals all xs j (ltb-false i j f), and-false (s j)) ih)
    shows_cleared_in all (delete k ∷ xs) = shows_cleared_in all xs

    pub shows-cleared : (ls : List Line) → shows s a (ls ++ delete i ∷ []) ≡ []
    unfolding shows
    shows-cleared ls = shows_cleared_in ls ls
