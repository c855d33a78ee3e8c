-- Records and their table with transactions taken out, or one written anew. Definitions: txn/specs/Records.antt.
-- In order: the lists, a row cleared, the records and the table.
-- Assumes nothing.
use mathlib.Core.Path.{◌≡◌, refl, sym, ap, ◌∙◌}
use mathlib.Core.List.{List, [], ◌∷◌, ◌++◌, map, map-append}
use Prim.Native.Nat.{ℕ, zero, suc, ◌+◌, ◌-◌, ◌*◌, ◌≤◌, ◌<◌}
use native.Mathlib.Omega.{arith}
use lib.ListN.{length, take, drop, set, replicate, length-map, length-replicate, length-take, length-drop}
use lib.Seq.{drop-drop}
use borrow.Rule.Slice.PartMut.{mid_of, put_mid}
use Rattle.lists.specs.Lists.{gather, pad, over}
use Rattle.lists.proofs.Laws.Over.{over-left}
use Rattle.lists.proofs.Laws.Parts.{length_over}
use Rattle.lists.proofs.Laws.Places.{length-pad, replaced}
use Rattle.lists.proofs.Laws.Select.{gather_append, length-rows, take-rows, drop-rows, set-rows}
use Rattle.rules.specs.Limits.{writers_max, deps_max, deps_all}
use Rattle.rules.specs.Manager.{Writer, no_rw, record_of, row_of}
use Rattle.rules.specs.declared.RwTxns.{RwTxns}
use Rattle.laws.proofs.Laws.Views.{Fits, rows-wide}
use Rattle.txn.specs.Records.{cut, writers_with, table_with, viewed, Tidy}
use Rattle.txn.proofs.Laws.Records.{viewed-length, viewed-fit, used-records, used-words, tidy-places}

-- ---- the lists

module _ {A B : Type 0} (f : A → B) where
  map-take : (n : ℕ) (xs : List A) → map f (take n xs) ≡ take n (map f xs)
  map-take zero xs = refl
  map-take (suc n) [] = refl
  map-take (suc n) (x ∷ xs) = ap (λ ys. f x ∷ ys) (map-take n xs)

  map-drop : (n : ℕ) (xs : List A) → map f (drop n xs) ≡ drop n (map f xs)
  map-drop zero xs = refl
  map-drop (suc n) [] = refl
  map-drop (suc n) (x ∷ xs) = map-drop n xs

  map-set : (n : ℕ) (y : A) (xs : List A) → map f (set xs n y) ≡ set (map f xs) n (f y)
  map-set n y [] = refl
  map-set zero y (x ∷ xs) = refl
  map-set (suc n) y (x ∷ xs) = ap (λ ys. f x ∷ ys) (map-set n y xs)

  map-cut : (a b : ℕ) (xs : List A) → map f (cut a b xs) ≡ cut a b (map f xs)
  map-cut a b xs = map-append f (take a xs) (drop b xs) ∙ (λ i. map-take a xs i ++ map-drop b xs i)

-- a row that is filled with 0
pub row-filled : (from n : ℕ) (ds zs : List ℕ) → from + n ≤ length ds
    → zs ≡ replicate (length (mid_of from (from + n - from) ds)) 0
    → put_mid from (from + n - from) ds zs ≡ over from (replicate n 0) ds
row-filled from n ds zs h e =
    let k : from + n - from ≡ n = omega arith in
    let l : length (take n (drop from ds)) ≡ n = simp (length-take, length-drop) (omega arith) in
    let r : length (replicate {A = ℕ} n 0) ≡ n = length-replicate n 0 in
    rw (e, k, l, r, drop-drop n from ds)

-- ---- the records and the table

module _ {ts : RwTxns} {ds : List ℕ} (T : Tidy ts ds) where
  abbrev ws : List Writer
  ws = viewed ts ds

  pub cut-records : (a b : ℕ) {r : RwTxns} → r.at ≡ pad writers_max no_rw (cut a b (take ts.count ts.at))
      → r.count ≡ length (cut a b (take ts.count ts.at)) → r ≡ writers_with (cut a b ws)
  cut-records a b e n =
      let u = ap (cut a b) (used-records T) ∙ sym (map-cut record_of a b ws) in
      λ i. record {
        at = (e ∙ ap (pad writers_max no_rw) u) i;
        count = (n ∙ ap length u ∙ length-map (cut a b ws) record_of) i;
      }

  pub cut-table : (a b : ℕ) → pad deps_all 0 (cut (deps_max * a) (deps_max * b) (take (deps_max * ts.count) ds))
      ≡ table_with (cut a b ws)
  cut-table a b = let w = rows-wide ws (viewed-fit T) in
      ap (pad deps_all 0) (ap (cut (deps_max * a) (deps_max * b)) (used-words T)
      ∙ sym (gather_append row_of (take a ws) (drop b ws)
      ∙ (λ i. sym (take-rows row_of deps_max a ws w) i ++ sym (drop-rows row_of deps_max b ws w) i)))

  pub set-records : (j : ℕ) (w : Writer) → j < ts.count
      → ◌≡◌ {A = RwTxns} (record { at = set ts.at j (record_of w); count = ts.count }) (writers_with (set ws j w))
  set-records j w h =
      let p = replaced no_rw ts.at writers_max ts.count (record_of w) T.len (tidy-places T) T.room j h in
      let u = ap (λ xs. set xs j (record_of w)) (used-records T) ∙ sym (map-set record_of j w ws) in
      λ i. record {
        at = (p.0 ∙ ap (pad writers_max no_rw) u) i;
        count = (p.1 ∙ ap length u ∙ length-map (set ws j w) record_of) i;
      }

  pub set-table : (j : ℕ) (w : Writer) → j < ts.count → Fits w
      → over (deps_max * j) (row_of w) ds ≡ table_with (set ws j w)
  set-table j w h f =
      let all = rows-wide ws (viewed-fit T) in let l = viewed-length T in
      let n = length-rows row_of deps_max ws all in let k = length-pad deps_max 0 w.deps f in
      let x = gather row_of ws in let few : deps_max * j + length (row_of w) ≤ length x = omega arith in
      let s = set-rows row_of deps_max j w ws (omega arith) k all in
      let m = length_over (deps_max * j) (row_of w) x few in
      ap (over (deps_max * j) (row_of w)) T.table
      ∙ over-left (deps_max * j) (row_of w) x (replicate (deps_all - length x) 0) few
      ∙ rw (s, m)
