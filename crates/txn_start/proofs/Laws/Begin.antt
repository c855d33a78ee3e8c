-- The epochs that a loop collects for the deps of a transaction that begins, and the manager with its record.
-- Definitions: specs/Begin.antt, rules/specs/Begin.antt.
-- Assumes nothing.
use mathlib.Core.Path.{◌≡◌, refl, sym, ap, ◌∙◌}
use mathlib.Core.Bool.{Bool, true, false, cond}
use mathlib.Core.List.{List, [], ◌∷◌, ◌++◌, map, map-append, append-nil}
use Prim.Native.Nat.{ℕ, suc, ◌+◌, ◌*◌, ◌≤◌, ◌<◌}
use native.Mathlib.Numerals.{add-one}
use native.Mathlib.Omega.{arith}
use lib.Dec.{eqb}
use lib.ListN.{length, take, drop, get_or, set, length-append, length-map, length-take}
use lib.Seq.{take-suc}
use Rattle.lists.specs.Lists.{gather, keep_if, pad, over}
use Rattle.lists.proofs.Laws.Bools.{split}
use Rattle.lists.proofs.Laws.Filter.{keep_if-append, length-keep_if}
use Rattle.lists.proofs.Laws.Over.{over-nil, over-push, over-pad}
use Rattle.lists.proofs.Laws.Places.{pushed}
use Rattle.lists.proofs.Laws.Select.{gather_append, length-rows}
use Rattle.rules.specs.Limits.{writers_max, deps_max, deps_all}
use Rattle.rules.specs.Manager.{Writer, no_rw, views, writers_of, record_of, row_of, with_clock, with_ec, open_epochs}
use Rattle.rules.specs.Manager.{manager_with}
use Rattle.rules.specs.Begin.{begun_txn, begun_manager}
use Rattle.rules.specs.declared.RwTxn.{RwTxn}
use Rattle.rules.specs.Manager.{Manager}
use Rattle.laws.proofs.Laws.Views.{rows-wide}
use Rattle.txn.specs.Records.{Tidy}
use Rattle.txn.proofs.Laws.Records.{viewed-length, viewed-fit, used-records, tidy-places}
use Rattle.txn_start.specs.Begin.{opened, opened_in, recorded_in}

-- ---- the loop

open_next : (xs : List RwTxn) (j : ℕ) (r : Bool) → j < length xs → eqb (get_or xs j no_rw).waiting 0 ≡ r
    → opened (take (j + 1) xs) ≡ opened (take j xs) ++ cond r ((get_or xs j no_rw).epoch ∷ []) []
open_next xs j r h e = let is_open : RwTxn → Bool = λ t. eqb t.waiting 0 in
    rw (
      add-one j,
      take-suc xs j no_rw h,
      keep_if-append is_open (take j xs) (get_or xs j no_rw ∷ []),
      map-append (λ (t : RwTxn). t.epoch) (keep_if is_open (take j xs)) (keep_if is_open (get_or xs j no_rw ∷ [])),
      e,
    )
    (last r)
  where
    last : (b : Bool) → opened (take j xs) ++ map (λ (t : RwTxn). t.epoch) (cond b (get_or xs j no_rw ∷ []) [])
        ≡ opened (take j xs) ++ cond b ((get_or xs j no_rw).epoch ∷ []) []
    last true = refl
    last false = refl

-- k epochs of the first j records stand in the table from word b on
pub record Filled (xs : List RwTxn) (ds₀ : List ℕ) (b j : ℕ) (ds : List ℕ) (k : ℕ) : Type 0 where
  pub used : k ≡ length (opened (take j xs))
  pub held : ds ≡ over b (opened (take j xs)) ds₀

pub filled_none : (xs : List RwTxn) (ds : List ℕ) (b : ℕ) → Filled xs ds b 0 ds 0
filled_none xs ds b = record { used = refl; held = sym (over-nil b ds) }

module _ {xs : List RwTxn} {ds₀ : List ℕ} {b j : ℕ} {ds : List ℕ} {k : ℕ} (f : Filled xs ds₀ b j ds k)
    (h : j < length xs) where
  pub fill : eqb (get_or xs j no_rw).waiting 0 ≡ true → b + k < length ds₀
      → Filled xs ds₀ b (j + 1) (set ds (b + k) (get_or xs j no_rw).epoch) (k + 1)
  fill o l = let g = open_next xs j true h o in
      let l' : b + length (opened (take j xs)) < length ds₀ = rw (← f.used) l in record {
        used = rw (g, length-append (opened (take j xs)) ((get_or xs j no_rw).epoch ∷ []), f.used);
        held = rw (f.used, f.held, g) (over-push b (opened (take j xs)) (get_or xs j no_rw).epoch ds₀ l');
      }

  pub pass : eqb (get_or xs j no_rw).waiting 0 ≡ false → Filled xs ds₀ b (j + 1) ds k
  pass o = let g = open_next xs j false h o ∙ append-nil (opened (take j xs)) in
      record { used = rw g f.used; held = rw g f.held }

-- ---- the manager begun

opened-views : (ds : List ℕ) (ts : List RwTxn) → open_epochs (views ds ts) ≡ opened ts
opened-views ds [] = refl
opened-views ds (t ∷ ts) = let ih = opened-views (drop deps_max ds) ts in
    split (eqb t.waiting 0) (λ o. rw (o, ih)) (λ n. rw (n, ih))

opened-fits : (m : Manager) → m.writers.count < writers_max → length (open_epochs (writers_of m)) ≤ deps_max
opened-fits m h =
    let a = opened-views m.deps (take m.writers.count m.writers.at) in
    let ts = take m.writers.count m.writers.at in let is_open : RwTxn → Bool = λ t. eqb t.waiting 0 in
    let b = length-map (keep_if is_open ts) (λ (t : RwTxn). t.epoch) in let c = length-keep_if is_open ts in
    let d = length-take m.writers.count m.writers.at in rw a (omega arith)

module _ (m : Manager) (T : Tidy m.writers m.deps) (h : m.writers.count < writers_max) where
  abbrev ws : List Writer
  ws = writers_of m

  abbrev new : Writer
  new = begun_txn m.clock.ec (writers_of m)

  records-begun : recorded_in m.clock.ec (length (open_epochs ws)) m.writers
      ≡ record { at = pad writers_max no_rw (map record_of (ws ++ (new ∷ []))); count = length (ws ++ (new ∷ [])) }
  records-begun =
      let p = pushed no_rw m.writers.at writers_max m.writers.count (record_of new) T.len (tidy-places T) h in
      let e = map-append record_of ws (new ∷ []) in let u = used-records T in
      let l = viewed-length T in let n : m.writers.count + 1 ≡ length (ws ++ (new ∷ [])) =
      omega (arith, length-append ws (new ∷ [])) in
      λ i. record {
        at = (p.0 ∙ ap (λ xs. pad writers_max no_rw (xs ++ (record_of new ∷ []))) u
            ∙ ap (pad writers_max no_rw) (sym e)) i;
        count = n i;
      }

  table-begun : over (deps_max * m.writers.count) (open_epochs ws) m.deps
      ≡ pad deps_all 0 (gather row_of (ws ++ (new ∷ [])))
  table-begun =
      let n = length-rows row_of deps_max ws (rows-wide ws (viewed-fit T)) in let l = viewed-length T in
      let e : deps_max * m.writers.count ≡ length (gather row_of ws) = omega arith in
      ap (over (deps_max * m.writers.count) (open_epochs ws)) T.table
      ∙ ap (λ k. over k (open_epochs ws) (pad deps_all 0 (gather row_of ws))) e
      ∙ over-pad deps_all deps_max 0 (gather row_of ws) (open_epochs ws) (opened-fits m h) (omega arith)
      ∙ ap (pad deps_all 0) (sym (gather_append row_of ws (new ∷ [])
      ∙ ap (λ xs. gather row_of ws ++ xs) (append-nil (row_of new))))

  pub begun-is : with_clock (with_ec (suc m.clock.ec) m.clock)
      (manager_with m.clock (recorded_in m.clock.ec (length (opened_in m.writers)) m.writers)
      (over (deps_max * m.writers.count) (opened_in m.writers) m.deps) m.readers)
      ≡ begun_manager m
  unfolding begun_manager
  begun-is = let o = opened-views m.deps (take m.writers.count m.writers.at) in
      rw (← o) (λ i. manager_with (with_ec (suc m.clock.ec) m.clock) (records-begun i) (table-begun i) m.readers)
