-- Purge of a ledger's lines at l, and what a reader is shown after it. 01 "Lots", Purge; 004 III-C 5.
-- In order: purge_lines; no purge; deletes left by a purge; rows left by it; shows; a purge after a purge; a
-- purge of kept lines; the marks left.
-- Assumes nothing.
use mathlib.Core.Path.{◌≡◌, refl, sym, ◌∙◌, ap}
use mathlib.Core.Bool.{Bool, true, false, not, ◌&&◌, cond}
use mathlib.Core.List.{List, [], ◌∷◌, ◌++◌}
use Prim.Native.Nat.{ℕ, ◌≤◌, ◌<◌, max}
use native.Mathlib.Omega.{arith}
use lib.Dec.{ltb, leb, eqb}
use borrow.Author.Tests.{ltb-true, ltb-false, leb-true, leb-false, eqb-true, eqb-false}
use borrow.Author.Tests.{lt-ltb, le-ltb, le-leb, lt-leb, eq-eqb, ne_eqb}
use Rattle.lists.proofs.Laws.All.{All_imp, All-any_of, any_of_ext, any_of-none, any_of_imp}
use Rattle.lists.proofs.Laws.Bools.{split, and-false, or_left, or_right, or_cases, or-false, or-false-left}
use Rattle.lists.proofs.Laws.Bools.{or-false_right}
use Rattle.lists.proofs.Laws.Filter.{any_of-append}
use Rattle.rules.specs.Sees.{up_to}
use Rattle.rules.specs.Ledger.{Line, row, delete, deletes, concealed, shows_in, shows}
use Rattle.laws.proofs.Laws.Lines.{mark_of, AllLines, keep_lines, any_delete, both, any_delete_ext}
use Rattle.laws.proofs.Laws.Lines.{any_delete-keep}

-- rows that deletes of k ≤ l conceal go, other rows get the mark max j l; deletes of k ≤ l go
unfoldable pub purge_lines_in : ℕ → List Line → List Line → List Line
purge_lines_in l all [] = []
purge_lines_in l all (row j w ∷ xs) =
    cond (concealed (up_to l) all xs j) (purge_lines_in l all xs) (row (max j l) w ∷ purge_lines_in l all xs)
purge_lines_in l all (delete k ∷ xs) = cond (leb k l) (purge_lines_in l all xs) (delete k ∷ purge_lines_in l all xs)

unfoldable pub purge_lines : ℕ → List Line → List Line
purge_lines l xs = purge_lines_in l xs xs

-- ---- where no mark is below l and no delete at or below it, a purge changes nothing

abbrev pub Still : ℕ → Line → Type 0
Still l (row j w) = l ≤ j
Still l (delete k) = l < k

still-above : (l : ℕ) (x : Line) → l < mark_of x → Still l x
still-above l (row j w) h = omega arith
still-above l (delete k) h = h

module _ (l : ℕ) where
  any_delete-still : (q : ℕ → Bool) (xs : List Line) → AllLines (Still l) xs → any_delete (both (up_to l) q) xs ≡ false
  any_delete-still q xs h = any_of-none _ xs (All_imp _ _ pt xs h)
    where
      pt : (x : Line) → Still l x → deletes (both (up_to l) q) x ≡ false
      pt (row j w) g = refl
      pt (delete k) g = rw (lt-leb k l g)

  purge_still_in : (all xs : List Line) → AllLines (Still l) all → AllLines (Still l) xs → purge_lines_in l all xs ≡ xs
  unfolding purge_lines_in concealed
  purge_still_in all [] g h = refl
  purge_still_in all (row j w ∷ xs) g h = let mj : max j l ≡ j = omega (arith, h.0) in
      rw (any_delete-still (ltb j) all g, any_delete-still (eqb j) xs h.1, purge_still_in all xs g h.1, mj)
  purge_still_in all (delete k ∷ xs) g h = rw (lt-leb k l h.0, purge_still_in all xs g h.1)

  pub purge-still : (xs : List Line) → AllLines (Still l) xs → purge_lines l xs ≡ xs
  unfolding purge_lines
  purge-still xs h = purge_still_in xs xs h h

-- ---- the deletes that a purge leaves

abbrev pub above : ℕ → (ℕ → Bool) → ℕ → Bool
above l p k = not (leb k l) && p k

pub any_delete-purge : (l : ℕ) (p : ℕ → Bool) (all xs : List Line)
    → any_delete p (purge_lines_in l all xs) ≡ any_delete (above l p) xs
unfolding purge_lines_in
any_delete-purge l p all [] = refl
any_delete-purge l p all (row j w ∷ xs) = let ih = any_delete-purge l p all xs in
    split (concealed (up_to l) all xs j) (λ e. rw e ih) (λ e. rw e ih)
any_delete-purge l p all (delete k ∷ xs) = let ih = any_delete-purge l p all xs in
    split (leb k l) (λ e. rw e ih) (λ e. rw (e, ih))

ltb-max : (j l k : ℕ) → l < k → ltb (max j l) k ≡ ltb j k
ltb-max j l k h = split (ltb j k)
    (λ t. let g = ltb-true j k t in lt-ltb (max j l) k (omega arith) ∙ sym t)
    (λ f. let g = ltb-false j k f in le-ltb (max j l) k (omega arith) ∙ sym f)

eqb-max : (j l k : ℕ) → l < k → eqb (max j l) k ≡ eqb j k
eqb-max j l k h = split (eqb j k)
    (λ t. let g = eqb-true j k t in eq-eqb (max j l) k (omega arith) ∙ sym t)
    (λ f. let g = eqb-false j k f in ne_eqb (max j l) k (λ m. g (omega arith)) ∙ sym f)

-- a test that is true up to l is the same at max j l as at j
test-max : (p : ℕ → Bool) (l : ℕ) → ((j : ℕ) → j ≤ l → p j ≡ true) → (j : ℕ) → p (max j l) ≡ p j
test-max p l low j = split (leb j l)
    (λ t. let g = leb-true j l t in low (max j l) (omega arith) ∙ sym (low j g))
    (λ f. let g = leb-false j l f in ap p (omega arith))

-- ---- the rows that a purge leaves

-- ys has the deletes of xs but those up to l, on which alone q and r may differ: where none of those passes
-- r, q finds in ys what r finds in xs
module _ (l : ℕ) (a q r : ℕ → Bool) (same : (k : ℕ) → l < k → q k ≡ r k) (xs ys : List Line)
    (gone : (p : ℕ → Bool) → any_delete p ys ≡ any_delete (above l p) xs) where
  any_delete_gone : any_delete (both (up_to l) r) xs ≡ false
      → any_delete (both a q) ys ≡ any_delete (both a r) xs
  any_delete_gone kept = gone _ ∙ any_of_ext _ _ xs (All_imp _ _ pt xs (All-any_of _ xs kept))
    where
      at : (k : ℕ) → up_to l k && r k ≡ false → above l (both a q) k ≡ a k && r k
      at k e = split (leb k l)
          (λ t. let g : r k ≡ false = cc in rw (t, g) (sym (and-false (a k))))
          (λ f. rw (f, same k (leb-false k l f)))

      pt : (x : Line) → deletes (both (up_to l) r) x ≡ false → deletes (above l (both a q)) x ≡ deletes (both a r) x
      pt (row j w) e = refl
      pt (delete k) e = at k e

-- a row that the deletes up to l leave is concealed by the same other deletes where those up to l are gone
module _ (l : ℕ) (a : ℕ → Bool) (all rest all' rest' : List Line)
    (gone : (p : ℕ → Bool) → any_delete p all' ≡ any_delete (above l p) all)
    (gone' : (p : ℕ → Bool) → any_delete p rest' ≡ any_delete (above l p) rest) where
  concealed_gone : (j : ℕ) → concealed (up_to l) all rest j ≡ false
      → concealed a all' rest' (max j l) ≡ concealed a all rest j
  unfolding concealed
  concealed_gone j kept =
      let p = any_delete (both (up_to l) (ltb j)) all in let r = any_delete (both (up_to l) (eqb j)) rest in
      let far = or-false-left p r kept in let near = or-false_right p r kept in
      rw (
        any_delete_gone l a (ltb (max j l)) (ltb j) (ltb-max j l) all all' gone far,
        any_delete_gone l a (eqb (max j l)) (eqb j) (eqb-max j l) rest rest' gone' near,
      )

-- what the deletes up to l conceal, a reader that applies them is not shown
module _ (l : ℕ) (a : ℕ → Bool) (applies : (k : ℕ) → k ≤ l → a k ≡ true) where
  any_delete-low : (q : ℕ → Bool) (xs : List Line)
      → any_delete (both (up_to l) q) xs ≡ true → any_delete (both a q) xs ≡ true
  any_delete-low q xs e = any_of_imp _ _ pt xs e
    where
      pt : (x : Line) → deletes (both (up_to l) q) x ≡ true → deletes (both a q) x ≡ true
      pt (row j w) e = e
      pt (delete k) e = split (leb k l) (λ t. let g = applies k (leb-true k l t) in cc) (λ f. cc)

  concealed-low : (all rest : List Line) (j : ℕ) → concealed (up_to l) all rest j ≡ true → concealed a all rest j ≡ true
  unfolding concealed
  concealed-low all rest j e =
      or_cases (any_delete (both (up_to l) (ltb j)) all) (any_delete (both (up_to l) (eqb j)) rest) e
      (λ t. or_left _ (any_delete (both a (eqb j)) rest) (any_delete-low (ltb j) all t))
      (λ f t. or_right (any_delete (both a (ltb j)) all) _ (any_delete-low (eqb j) rest t))

-- ---- a reader that sees every mark up to l and applies every delete up to l is shown the same after a purge
-- at l

module _ (l : ℕ) (s a : ℕ → Bool) (sees : (j : ℕ) → j ≤ l → s j ≡ true) (applies : (k : ℕ) → k ≤ l → a k ≡ true) where
  shows_purge_in : (all xs : List Line)
      → shows_in s a (purge_lines_in l all all) (purge_lines_in l all xs) ≡ shows_in s a all xs
  unfolding shows_in purge_lines_in
  shows_purge_in all [] = refl
  shows_purge_in all (row j w ∷ xs) = let ih = shows_purge_in all xs in split (concealed (up_to l) all xs j)
      (λ t. rw (t, concealed-low l a applies all xs j t, and-false (s j)) ih)
      (λ f. rw (f, left j f, test-max s l sees j, ih))
    where
      left : (j : ℕ) → concealed (up_to l) all xs j ≡ false
          → concealed a (purge_lines_in l all all) (purge_lines_in l all xs) (max j l) ≡ concealed a all xs j
      left = concealed_gone l a all xs _ _ (λ p. any_delete-purge l p all all) (λ p. any_delete-purge l p all xs)
  shows_purge_in all (delete k ∷ xs) = let ih = shows_purge_in all xs in split (leb k l) (λ t. rw t ih) (λ f. rw f ih)

  pub shows-purge : (xs : List Line) → shows s a (purge_lines l xs) ≡ shows s a xs
  unfolding shows purge_lines
  shows-purge xs = shows_purge_in xs xs

-- ---- a purge at l may be left out before a purge at m ≥ l, what was added since having marks above l

pub above-all : (l : ℕ) (p : ℕ → Bool) (ys : List Line) → AllLines (λ x. l < mark_of x) ys
    → any_delete (above l p) ys ≡ any_delete p ys
above-all l p ys h = any_of_ext _ _ ys (All_imp _ _ pt ys h)
  where
    pt : (x : Line) → l < mark_of x → deletes (above l p) x ≡ deletes p x
    pt (row j w) g = refl
    pt (delete k) g = rw (lt-leb k l g)

module _ (l : ℕ) (ys : List Line) (high : AllLines (λ x. l < mark_of x) ys) where
  any_delete_mix : (all xs : List Line) (p : ℕ → Bool)
      → any_delete p (purge_lines_in l all xs ++ ys) ≡ any_delete (above l p) (xs ++ ys)
  any_delete_mix all xs p =
      rw (
        any_of-append (deletes p) (purge_lines_in l all xs) ys,
        any_delete-purge l p all xs,
        any_of-append (deletes (above l p)) xs ys,
        above-all l p ys high,
      )

  any_delete-behind : (q : ℕ → Bool) (xs : List Line)
      → any_delete (both (up_to l) q) (xs ++ ys) ≡ any_delete (both (up_to l) q) xs
  any_delete-behind q xs = any_of-append (deletes (both (up_to l) q)) xs ys
      ∙ rw (any_delete-still l q ys (All_imp _ _ (still-above l) ys high)) (or-false (any_delete (both (up_to l) q) xs))

  concealed-behind : (all rest : List Line) (j : ℕ)
      → concealed (up_to l) (all ++ ys) (rest ++ ys) j ≡ concealed (up_to l) all rest j
  unfolding concealed
  concealed-behind all rest j = rw (any_delete-behind (ltb j) all, any_delete-behind (eqb j) rest)

module _ (l m : ℕ) (lm : l ≤ m) (ys : List Line) (high : AllLines (λ x. l < mark_of x) ys) where
  up_to-le : (k : ℕ) → k ≤ l → up_to m k ≡ true
  up_to-le k h = le-leb k m (omega arith)

  -- rows of a mark above l meet only deletes above l
  concealed-high : (all zs : List Line) (j : ℕ) → l < j
      → concealed (up_to m) (purge_lines_in l all all ++ ys) zs j ≡ concealed (up_to m) (all ++ ys) zs j
  unfolding concealed
  concealed-high all zs j h =
      rw (any_delete_mix l ys high all all (both (up_to m) (ltb j)), any_delete_ext _ _ pt (all ++ ys))
    where
      pt : (k : ℕ) → above l (both (up_to m) (ltb j)) k ≡ up_to m k && ltb j k
      pt k = split (leb k l)
          (λ t. let g = leb-true k l t in let n : ltb j k ≡ false = le-ltb j k (omega arith) in
          rw (t, n) (sym (and-false (up_to m k))))
          (λ f. rw f)

  purge-tail : (all zs : List Line) → AllLines (λ x. l < mark_of x) zs
      → purge_lines_in m (purge_lines_in l all all ++ ys) zs ≡ purge_lines_in m (all ++ ys) zs
  unfolding purge_lines_in
  purge-tail all [] h = refl
  purge-tail all (row j w ∷ zs) h = rw (concealed-high all zs j h.0, purge-tail all zs h.1)
  purge-tail all (delete k ∷ zs) h = rw (purge-tail all zs h.1)

  purge_purge_in : (all xs : List Line)
      → purge_lines_in m (purge_lines_in l all all ++ ys) (purge_lines_in l all xs ++ ys)
      ≡ purge_lines_in m (all ++ ys) (xs ++ ys)
  unfolding purge_lines_in
  purge_purge_in all [] = purge-tail all ys high
  purge_purge_in all (row j w ∷ xs) = let ih = purge_purge_in all xs in split (concealed (up_to l) all xs j)
      (λ t. rw (t, concealed-low l (up_to m) up_to-le (all ++ ys) (xs ++ ys) j (behind t), ih))
      (λ f. let mm : max (max j l) m ≡ max j m = omega arith in rw (f, left j (behind f), ih, mm))
    where
      behind : {b : Bool} → concealed (up_to l) all xs j ≡ b → concealed (up_to l) (all ++ ys) (xs ++ ys) j ≡ b
      behind e = concealed-behind l ys high all xs j ∙ e

      left : (j : ℕ) → concealed (up_to l) (all ++ ys) (xs ++ ys) j ≡ false
          → concealed (up_to m) (purge_lines_in l all all ++ ys) (purge_lines_in l all xs ++ ys) (max j l)
          ≡ concealed (up_to m) (all ++ ys) (xs ++ ys) j
      left = concealed_gone l (up_to m) (all ++ ys) (xs ++ ys) _ _
          (any_delete_mix l ys high all all) (any_delete_mix l ys high all xs)
  purge_purge_in all (delete k ∷ xs) = let ih = purge_purge_in all xs in split (leb k l)
      (λ t. rw (t, up_to-le k (leb-true k l t), ih))
      (λ f. rw (f, ih))

  pub purge-purge : (xs : List Line) → purge_lines m (purge_lines l xs ++ ys) ≡ purge_lines m (xs ++ ys)
  unfolding purge_lines
  purge-purge xs = purge_purge_in xs xs

-- ---- a roll back of marks above l goes past a purge at l

module _ (l : ℕ) (p : ℕ → Bool) (low : (j : ℕ) → j ≤ l → p j ≡ true) where
  concealed-kept : (all xs : List Line) (j : ℕ)
      → concealed (up_to l) (keep_lines p all) (keep_lines p xs) j ≡ concealed (up_to l) all xs j
  unfolding concealed
  concealed-kept all xs j = rw (one (ltb j) all, one (eqb j) xs)
    where
      pt : (q : ℕ → Bool) (k : ℕ) → p k && (up_to l k && q k) ≡ up_to l k && q k
      pt q k = split (leb k l) (λ t. rw (low k (leb-true k l t))) (λ f. rw f (and-false (p k)))

      one : (q : ℕ → Bool) (ys : List Line)
          → any_delete (both (up_to l) q) (keep_lines p ys) ≡ any_delete (both (up_to l) q) ys
      one q ys = any_delete-keep (both (up_to l) q) p ys ∙ any_delete_ext _ _ (pt q) ys

  keep_purge_in : (all xs : List Line)
      → purge_lines_in l (keep_lines p all) (keep_lines p xs) ≡ keep_lines p (purge_lines_in l all xs)
  unfolding purge_lines_in
  keep_purge_in all [] = refl
  keep_purge_in all (row j w ∷ xs) = let ih = keep_purge_in all xs in split (p j)
      (λ t. rw (t, concealed-kept all xs j) (split (concealed (up_to l) all xs j)
      (λ h. rw (h, ih))
      (λ h. rw (h, ih, test-max p l low j, t))))
      (λ f. rw f (split (concealed (up_to l) all xs j) (λ h. rw (h, ih)) (λ h. rw (h, ih, test-max p l low j, f))))
  keep_purge_in all (delete k ∷ xs) = let ih = keep_purge_in all xs in split (leb k l)
      (λ t. rw (t, low k (leb-true k l t), t) ih)
      (λ f. rw f (split (p k) (λ t. rw (t, f, ih)) (λ g. rw (g, ih))))

  pub keep-purge : (xs : List Line) → purge_lines l (keep_lines p xs) ≡ keep_lines p (purge_lines l xs)
  unfolding purge_lines
  keep-purge xs = keep_purge_in xs xs
