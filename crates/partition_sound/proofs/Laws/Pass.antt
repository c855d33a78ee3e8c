-- One pass over a list of entries finds whether they are chained, and, where they are, whether one is a delete and
-- whether one has an epoch above `low`.
-- In order: an epoch, an entry after another, the pass, what it tells of the entries.
-- Definitions: specs/Pass.antt.
-- Assumes nothing.
use mathlib.Core.Path.{◌≡◌, refl, sym, ap, ◌∙◌}
use mathlib.Core.Bool.{Bool, true, false, not, ◌&&◌, ◌||◌, cond}
use mathlib.Core.List.{List, [], ◌∷◌, foldl}
use Prim.Native.Nat.{ℕ, zero, suc, ◌≤◌, ◌<◌}
use native.Mathlib.Omega.{arith}
use lib.ListN.{take}
use lib.Dec.{ltb, leb, eqb}
use borrow.Author.Tests.{eqb-true, eqb-false, ne_eqb, ltb-true, leb-true, le-leb, lt-leb, lt-ltb}
use Rattle.lists.specs.Lists.{any_of}
use Rattle.lists.proofs.Laws.Bools.{split, and_left, and-false, and-true, or-false}
use Rattle.lists.proofs.Laws.Tests.{no_proof}
use Rattle.rules.specs.declared.Clock.{Clock}
use Rattle.rules.specs.declared.Entry.{Entry}
use Rattle.partition_sound.specs.Sound.{epoch_ok_by, follows, chained}
use Rattle.partition_sound.specs.Pass.{found_in, held_by, comes_after, bad_of, told_of, step_of}
use Rattle.partition_sound.specs.Rest.{start_of}
use Rattle.partition_sound.specs.declared.Held.{Held}
use Rattle.partition_sound.specs.declared.Last.{Last}

-- ---- an entry after another: the tests in another order, x the one of its epoch

at-delete : (x l d j : Bool) → (((true && x) && l) && true) && not ((d && false) && j) ≡ x && l
at-delete false l d j = refl
at-delete true false d j = refl
at-delete true true false j = refl
at-delete true true true j = refl

under : (le lt n : Bool) → (lt ≡ true → le ≡ true) → (le && lt) && n ≡ lt && n
under true lt n h = refl
under false true n h = no_proof (h refl)
under false false n h = refl

-- what s tells of entry d
pub record Tells (s : Last) (d : Entry) : Type 0 where
  pub epoch : s.epoch ≡ cond (eqb d.mark 0) d.epoch 0
  pub end : s.end ≡ d.end

-- n of the epochs ws are those of the records; up to low an epoch is well
module _ (c : Clock) (n : ℕ) (ws : List ℕ) (low : ℕ)
    (near : (j : ℕ) → 1 ≤ j → j ≤ low → (j < c.ec) × (j ≤ c.lce)) where
  abbrev js : List ℕ
  js = take n ws

  abbrev held : Held
  held = record { ec = c.ec; lce = c.lce; count = n; low = low }

  epoch-is : (j : ℕ) → epoch_ok_by c js j ≡ held_by ws held j
  unfolding epoch_ok_by held_by found_in
  epoch-is j = split (leb 1 j)
      (λ t. split (leb j low)
      (λ u. let f = near j (leb-true 1 j t) (leb-true j low u) in
      rw (t, u, lt-ltb j c.ec f.0, le-leb j c.lce f.1))
      (λ u. rw (t, u)))
      (λ f. rw f)

  alike_is : (s : Last) (d : Entry) (j : ℕ) → Tells s d → 1 ≤ j
      → eqb d.mark 0 && eqb d.epoch j ≡ eqb s.epoch j
  alike_is s d j t h = split (eqb d.mark 0)
      (λ y. rw (t.epoch, y))
      (λ y. rw (t.epoch, y, ne_eqb 0 j (λ z. omega arith)))

  at_rows : (s : Last) (d e : Entry) → Tells s d → held_by ws held e.epoch ≡ true → (le lt : Bool)
      → (lt ≡ true → le ≡ true)
      → ((true && le) && lt) && not ((eqb d.mark 0 && true) && eqb d.epoch e.epoch)
      ≡ lt && not (eqb s.epoch e.epoch)
  unfolding held_by
  at_rows s d e t x le lt h = rw (
    and-true (eqb d.mark 0),
    alike_is s d e.epoch t (leb-true 1 e.epoch (and_left (leb 1 e.epoch) _ x)),
  )
      (under le lt (not (eqb s.epoch e.epoch)) h)

  follows_is : (s : Last) (d e : Entry) → Tells s d
      → follows c js d e ≡ held_by ws held e.epoch && comes_after s e
  unfolding follows comes_after
  follows_is s d e t =
      let x = held_by ws held e.epoch in
      let le = leb d.end e.end in let lt = ltb d.end e.end in let m = eqb d.mark 0 in
      let j = eqb d.epoch e.epoch in
      rw (epoch-is e.epoch, t.end) (split (eqb e.mark 0)
      (λ y. let i = eqb-true e.mark 0 y in
      rw (y, ne_eqb e.mark 1 (λ z. omega arith), le-leb e.mark 1 (omega arith)) (split x
      (λ u. rw u (at_rows s d e t u le lt (λ v. le-leb d.end e.end (let g = ltb-true d.end e.end v in
      omega arith))))
      (λ u. rw u)))
      (λ y. split (eqb e.mark 1)
      (λ z. let i = eqb-true e.mark 1 z in
      rw (y, z, le-leb e.mark 1 (omega arith)) (at-delete x le m j))
      (λ z. let p = eqb-false e.mark 1 z in let q = eqb-false e.mark 0 y in
      rw (y, z, lt-leb e.mark 1 (more e.mark p q), and-false x))))
    where
      more : (z : ℕ) → (z ≡ 1 → ⊥) → (z ≡ 0 → ⊥) → 1 < z
      more zero p q = absurd (q refl)
      more (suc zero) p q = absurd (p refl)
      more (suc (suc z)) p q = omega arith

  -- ---- the pass

  abbrev after : Last → List Entry → Last
  after s es = foldl (step_of ws held) s es

  -- it may stand there
  abbrev fits : Last → Entry → Bool
  fits s e = held_by ws held e.epoch && comes_after s e

  -- what is told then
  abbrev on : Last → Entry → Last
  on s e = told_of s e (ltb low e.epoch || s.above)

  tells-on : (s : Last) (e : Entry) → Tells (on s e) e
  unfolding told_of
  tells-on s e = record { epoch = refl; end = refl }

  in-steps : (x y : Bool) (s t : Last) → cond x (cond y t s) s ≡ cond (x && y) t s
  in-steps true y s t = refl
  in-steps false y s t = refl

  module _ (s : Last) (e : Entry) (es : List Entry) where
    stepped : step_of ws held s e ≡ cond (fits s e) (on s e) (bad_of s)
    stepped = in-steps (held_by ws held e.epoch) (comes_after s e) (bad_of s) (on s e)

    after-yes : fits s e ≡ true → after s (e ∷ es) ≡ after (on s e) es
    after-yes t = ap (λ (x : Last). foldl (step_of ws held) x es) (stepped ∙ rw t)

    after-no : fits s e ≡ false → after s (e ∷ es) ≡ after (bad_of s) es
    after-no n = ap (λ (x : Last). foldl (step_of ws held) x es) (stepped ∙ rw n)

  ok-on : (s : Last) (e : Entry) → (on s e).ok ≡ s.ok
  unfolding told_of
  ok-on s e = refl

  pub pass_chains : (rows : ℕ) (s : Last) (d : Entry) (es : List Entry) → Tells s d
      → (after s es).ok && eqb (after s es).end rows ≡ s.ok && chained c js rows d es
  unfolding chained
  pass_chains rows s d [] t = rw t.end
  pass_chains rows s d (e ∷ es) t =
      let yes = pass_chains rows (on s e) e es (tells-on s e) in
      let no = pass_chains rows (bad_of s) d es (record { epoch = t.epoch; end = t.end }) in
      rw (follows_is s d e t) (split (fits s e)
      (λ y. told (after-yes s e es y) ∙ (yes ∙ rw (y, ok-on s e)))
      (λ n. told (after-no s e es n) ∙ (no ∙ rw (n, and-false s.ok))))
    where
      told : {x y : Last} → x ≡ y → x.ok && eqb x.end rows ≡ y.ok && eqb y.end rows
      told p = ap (λ (z : Last). z.ok && eqb z.end rows) p

  -- ---- what it tells of the entries

  -- one that does not come after the one before it stays told
  stays-bad : (s : Last) (es : List Entry) → s.ok ≡ false → (after s es).ok ≡ false
  stays-bad s [] h = h
  stays-bad s (e ∷ es) h = let yes = stays-bad (on s e) es (ok-on s e ∙ h) in
      let no = stays-bad (bad_of s) es refl in
      split (fits s e)
      (λ t. ap (λ (z : Last). z.ok) (after-yes s e es t) ∙ yes)
      (λ n. ap (λ (z : Last). z.ok) (after-no s e es n) ∙ no)

  in-turn : (x y z : Bool) → (x || y) || z ≡ y || (x || z)
  in-turn false y z = refl
  in-turn true true z = refl
  in-turn true false z = refl

  -- a flag that an entry raises by g
  module _ (flag : Last → Bool) (g : Entry → Bool)
      (raises : (s : Last) (e : Entry) → flag (on s e) ≡ g e || flag s) where
    flag_by : (s : Last) (es : List Entry) → (after s es).ok ≡ true → flag (after s es) ≡ flag s || any_of g es
    flag_by s [] h = sym (or-false (flag s))
    flag_by s (e ∷ es) h = let yes = flag_by (on s e) es in
        split (fits s e)
        (λ t. ap flag (after-yes s e es t)
        ∙ (yes (sym (ap (λ (z : Last). z.ok) (after-yes s e es t)) ∙ h)
        ∙ rw (raises s e) (in-turn (g e) (flag s) (any_of g es))))
        (λ n. no_proof (sym (ap (λ (z : Last). z.ok) (after-no s e es n) ∙ stays-bad (bad_of s) es refl) ∙ h))

  pub pass-cleared : (es : List Entry) → (after start_of es).ok ≡ true
      → (after start_of es).cleared ≡ any_of (λ e. eqb e.mark 1) es
  unfolding told_of
  pass-cleared es h = flag_by (λ s. s.cleared) (λ e. eqb e.mark 1) (λ s e. refl) start_of es h

  pub pass-above : (es : List Entry) → (after start_of es).ok ≡ true
      → (after start_of es).above ≡ any_of (λ e. ltb low e.epoch) es
  unfolding told_of
  pass-above es h = flag_by (λ s. s.above) (λ e. ltb low e.epoch) (λ s e. refl) start_of es h
