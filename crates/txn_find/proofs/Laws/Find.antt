-- What a place that was found says, and that none was. Definitions: specs/Find.antt.
-- Assumes nothing.
use mathlib.Core.Path.{◌≡◌, refl, sym, ap, ◌∙◌}
use mathlib.Core.Bool.{Bool, true, false, cond}
use mathlib.Core.List.{List, [], ◌∷◌}
use Prim.Native.Nat.{ℕ, suc, ◌+◌, ◌-◌, ◌*◌, ◌≤◌, ◌<◌, min}
use native.Mathlib.Omega.{arith}
use lib.ListN.{length, take, drop, get_or, length-take}
use lib.Seq.{get_or-take}
use Rattle.lists.specs.Lists.{any_of, first_of, part}
use Rattle.lists.proofs.Laws.Bools.{split, or-false-left, or-false_right}
use Rattle.lists.proofs.Laws.Branches.{said}
use Rattle.rules.specs.Limits.{writers_max, readers_max, deps_max}
use Rattle.rules.specs.Manager.{no_writer, no_rw, no_ro, records_of, view, views, writers_of, readers_of, opens}
use Rattle.rules.specs.Manager.{has_ticket}
use Rattle.rules.specs.declared.RoTxns.{RoTxns}
use Rattle.rules.specs.declared.RwTxn.{RwTxn}
use Rattle.rules.specs.declared.RwTxns.{RwTxns}
use Rattle.rules.specs.Manager.{Manager}
use Rattle.laws.proofs.Laws.Views.{writers-length, views-at}
use Rattle.std.proofs.lemmas.Iterator.Adapters.{position_from-zero}
use Rattle.std.specs.List.{position_from}
use Rattle.std.specs.Prelude.{Option, Some, None, position}
use Rattle.txn_find.specs.Find.{opens_at, writer_at, reader_at}
use Rattle.txn_find.proofs.Laws.Places.{Sized}

abbrev is_some : Option ℕ → Bool
is_some (Some j) = true
is_some None = false

-- place j, one of those in use, is the first of xs that passes, and v stands there
pub record Stands {A : Type 0} (p : A → Bool) (xs : List A) (count places : ℕ) (v : A) (j : ℕ) : Type 0 where
  pub below : j < min count places
  pub first : (e : A) → first_of p e xs ≡ v
  pub any : any_of p xs ≡ true

-- no place in use passes
pub record Missing {A : Type 0} (p : A → Bool) (xs : List A) : Type 0 where
  pub any : any_of p xs ≡ false
  pub first : (e : A) → first_of p e xs ≡ e

module _ {A : Type 0} (p : A → Bool) where
  found-any : (xs : List A) (k : ℕ) → is_some (position_from p k xs) ≡ any_of p xs
  found-any [] k = refl
  found-any (x ∷ xs) k = let ih = found-any xs (k + 1) in split (p x) (λ t. rw t) (λ f. rw (f, ih))

  found_from : (xs : List A) (k j : ℕ) (d : A) → position_from p k xs ≡ Some j
      → (k ≤ j) × (j - k < length xs) × ((e : A) → first_of p e xs ≡ get_or xs (j - k) d)
  found_from [] k j d e = absurd (let z : ◌≡◌ {A = ℕ} 0 1 = cc in omega arith)
  found_from (x ∷ xs) k j d e = split (p x)
      (λ t. let s : k ≡ j = (let f = rw t at e in cc) in let z : j - k ≡ 0 = omega arith in
      (omega arith, omega arith, λ g. rw (z, t)))
      (λ f. let ih = found_from xs (k + 1) j d (rw f at e) in let l = ih.0 in let b = ih.1 in
      let z : j - k ≡ suc (j - (k + 1)) = omega arith in (omega arith, omega arith, λ g. rw (z, f) (ih.2 g)))

  first-none : (xs : List A) (e : A) → any_of p xs ≡ false → first_of p e xs ≡ e
  first-none [] e h = refl
  first-none (x ∷ xs) e h =
      rw (or-false-left (p x) (any_of p xs) h) (first-none xs e (or-false_right (p x) (any_of p xs) h))

  module _ (xs : List A) where
    from_zero : position_from p 0 xs ≡ position p xs
    from_zero = sym (position_from-zero p xs)

    stands : (count places : ℕ) (d v : A) (j : ℕ) → length xs ≡ min count places → position p xs ≡ Some j
        → (j < length xs → get_or xs j d ≡ v) → Stands p xs count places v j
    stands count places d v j len e there =
        let w = found_from xs 0 j d (from_zero ∙ e) in let b = w.1 in let z : j - 0 ≡ j = omega arith in
        record {
          below = omega arith;
          first = λ g. (rw z at (w.2 g)) ∙ there (omega arith);
          any = said (found-any xs 0) (ap is_some (from_zero ∙ e));
        }

    missing : position p xs ≡ None → Missing p xs
    missing e = let no = said (found-any xs 0) (ap is_some (from_zero ∙ e)) in
        record { any = no; first = λ d. first-none xs d no }

-- a record is found by its epoch and its waiting word, which a view keeps
find-views : (i : ℕ) (ds : List ℕ) (ts : List RwTxn) (k : ℕ)
    → position_from (opens i) k (views ds ts) ≡ position_from (opens_at i) k ts
find-views i ds [] k = refl
find-views i ds (t ∷ ts) k = let ih = find-views i (drop deps_max ds) ts (k + 1) in
    ap (λ f. cond (opens_at i t) (Some k) f) ih

-- the same of records alone, where r is what the search answered
pub reader-stands_in : (ps : RoTxns) (i : ℕ) {r : Option ℕ} {j : ℕ} → length ps.at ≡ readers_max → r ≡ reader_at i ps
    → r ≡ Some j → Stands (has_ticket i) (take ps.count ps.at) ps.count readers_max (get_or ps.at j no_ro) j
unfolding reader_at
reader-stands_in ps i {j = j} len a e = let xs = take ps.count ps.at in
    let w = length-take ps.count ps.at in
    stands (has_ticket i) xs ps.count readers_max no_ro _ j (w ∙ ap (λ n. min ps.count n) len) (said a e)
    (λ h. get_or-take ps.count ps.at j no_ro (omega arith))

pub writer-below : (ts : RwTxns) (i : ℕ) {r : Option ℕ} {j : ℕ} → length ts.at ≡ writers_max → r ≡ writer_at i ts
    → r ≡ Some j → j < min ts.count writers_max
unfolding writer_at
writer-below ts i {j = j} len a e = let xs = take ts.count ts.at in
    let w = length-take ts.count ts.at in
    (stands (opens_at i) xs ts.count writers_max no_rw _ j (w ∙ ap (λ n. min ts.count n) len) (said a e)
    (λ h. get_or-take ts.count ts.at j no_rw (omega arith))).below

-- the same of the manager's records
module _ (m : Manager) (i : ℕ) {r : Option ℕ} where
  pub writer-found : r ≡ writer_at i m.writers → r ≡ position (opens i) (writers_of m)
  unfolding writer_at
  writer-found a = let ts = records_of m in a ∙ position_from-zero (opens_at i) ts
      ∙ sym (find-views i m.deps ts 0) ∙ from_zero (opens i) (writers_of m)

  pub writer-none : r ≡ writer_at i m.writers → r ≡ None → Missing (opens i) (writers_of m)
  writer-none a e = missing (opens i) (writers_of m) (said (writer-found a) e)

  pub reader-none : r ≡ reader_at i m.readers → r ≡ None → Missing (has_ticket i) (readers_of m)
  unfolding reader_at
  reader-none a e = missing (has_ticket i) (readers_of m) (said a e)

  module _ (z : Sized m) {j : ℕ} where
    -- a record, with its row of the table
    pub writer-stands : r ≡ writer_at i m.writers → r ≡ Some j
        → Stands (opens i) (writers_of m) m.writers.count writers_max
        (view (part (deps_max * j) deps_max m.deps) (get_or m.writers.at j no_rw)) j
    writer-stands a e =
        stands (opens i) (writers_of m) m.writers.count writers_max no_writer _ j
        (writers-length m ∙ ap (λ n. min m.writers.count n) z.writers) (said (writer-found a) e)
        (λ h. let l = writers-length m in let w = length-take m.writers.count m.writers.at in
        views-at m.deps (records_of m) j (omega arith)
        ∙ ap (view (part (deps_max * j) deps_max m.deps))
        (get_or-take m.writers.count m.writers.at j no_rw (omega arith)))

    pub reader-stands : r ≡ reader_at i m.readers → r ≡ Some j
        → Stands (has_ticket i) (readers_of m) m.readers.count readers_max (get_or m.readers.at j no_ro) j
    reader-stands a e = reader-stands_in m.readers i z.readers a e
