-- Which epochs a read-write transaction sees, by their order. 01 "Who sees a row". Definitions: rules/specs/Sees.antt;
-- the four cases as tests: rules/proofs/Categories.antt.
-- In order: its own epoch, later ones, earlier ones that are not in its deps; the deletes that it applies, and those
-- that any reader does.
-- Assumes nothing.
use mathlib.Core.Path.{◌≡◌, refl, sym, ◌∙◌}
use mathlib.Core.Bool.{true, false}
use mathlib.Core.List.{List}
use Prim.Native.Nat.{ℕ, ◌<◌}
use native.Mathlib.Omega.{arith}
use lib.Dec.{leb}
use borrow.Author.Tests.{eq-eqb, ne_eqb, lt-ltb, le-ltb, leb-false}
use Rattle.lists.specs.Lists.{elem}
use Rattle.lists.proofs.Laws.Bools.{split, and-false, and-true}
use Rattle.rules.specs.Manager.{Manager, deps_at}
use Rattle.rules.specs.Sees.{sees_rw, applies_rw}
use Rattle.rules.specs.Calls.{sees_of, applies_of}
use Rattle.rules.specs.declared.Reader.{Reader}
use Rattle.rules.specs.declared.Reader.TheVariants.{Rw, Ro}

module _ (i : ℕ) (deps : List ℕ) (j : ℕ) where
  pub sees-own : j ≡ i → sees_rw i deps j ≡ true
  unfolding sees_rw
  sees-own e = rw (eq-eqb j i e)

  pub sees-later : i < j → sees_rw i deps j ≡ false
  unfolding sees_rw
  sees-later h = rw (ne_eqb j i (λ e. omega arith), le-ltb j i (omega arith))

  pub sees-earlier : j < i → elem j deps ≡ false → sees_rw i deps j ≡ true
  unfolding sees_rw
  sees-earlier h f = rw (ne_eqb j i (λ e. omega arith), lt-ltb j i h, f)

  -- it applies the deletes that it sees, as it sees nothing later
  pub applies-sees : applies_rw i deps j ≡ sees_rw i deps j
  unfolding applies_rw
  applies-sees = split (leb j i)
      (λ t. rw t (and-true (sees_rw i deps j)))
      (λ f. rw f (and-false (sees_rw i deps j) ∙ sym (sees-later (leb-false j i f))))

-- and so does a page
pub applies-all : (r : Reader) (m : Manager) → applies_of r m ≡ sees_of r m
unfolding applies_of sees_of
applies-all (Rw i) m = λ x k. applies-sees i (deps_at i m) k x
applies-all (Ro t) m = refl
