-- The table of deps read with the records, and written back. Definitions: rules/specs/Manager.antt,
-- rules/specs/WellFormed.antt.
-- In order: what a view keeps of the records, the room for deps, rows read back as they were written, the words that
-- hold no dep, a table whose spare words are 0.
-- Assumes nothing.
use mathlib.Core.Path.{◌≡◌, refl, sym, ◌∙◌, ap}
use mathlib.Core.Bool.{true}
use mathlib.Core.List.{List, [], ◌∷◌, ◌++◌, map, append_assoc}
use Prim.Native.Nat.{ℕ, zero, suc, min, ◌+◌, ◌-◌, ◌*◌, ◌≤◌, ◌<◌}
use native.Mathlib.Nat.{not-suc-le-zero, le_of_suc-le-suc}
use native.Mathlib.Omega.{arith}
use lib.Dec.{eqb}
use lib.ListN.{length, take, drop, get_or, replicate, length-take, length-drop, length-map}
use borrow.Author.Tests.{leb-true, le-leb, eqb-true}
use lib.Seq.{take_at, drop_at, take-add, drop-drop, length-take-le}
use Rattle.lists.specs.Lists.{gather, all_of, pad, part}
use Rattle.lists.proofs.Laws.All.{All}
use Rattle.lists.proofs.Laws.Bools.{and_left, and_right}
use Rattle.lists.proofs.Laws.Filter.{all_of-replicate}
use Rattle.lists.proofs.Laws.Parts.{take-pad, drop-pad}
use Rattle.lists.proofs.Laws.Places.{length-pad, padded}
use Rattle.rules.specs.Limits.{writers_max, deps_max, deps_all}
use Rattle.rules.specs.Manager.{Writer, no_writer, no_rw, rw_txn, records_of, view, views, writers_of, record_of}
use Rattle.rules.specs.Manager.{row_of}
use Rattle.rules.specs.Manager.{with_writers}
use Rattle.rules.specs.WellFormed.{zeros, room_ok, spares_zero}
use Rattle.rules.specs.declared.RwTxn.{RwTxn}
use Rattle.rules.specs.Manager.{Manager}

-- ---- what a view keeps of the records

pub length-views : (ds : List ℕ) (ts : List RwTxn) → length (views ds ts) ≡ length ts
length-views ds [] = refl
length-views ds (t ∷ ts) = ap suc (length-views (drop deps_max ds) ts)

pub writers-length : (m : Manager) → length (writers_of m) ≡ min m.writers.count (length m.writers.at)
writers-length m = length-views m.deps (records_of m) ∙ length-take m.writers.count m.writers.at

pub epochs-views : (ds : List ℕ) (ts : List RwTxn) → map (λ w. w.epoch) (views ds ts) ≡ map (λ t. t.epoch) ts
epochs-views ds [] = refl
epochs-views ds (t ∷ ts) = ap (λ es. t.epoch ∷ es) (epochs-views (drop deps_max ds) ts)

pub views-at : (ds : List ℕ) (ts : List RwTxn) (i : ℕ) → i < length ts
    → get_or (views ds ts) i no_writer ≡ view (part (deps_max * i) deps_max ds) (get_or ts i no_rw)
views-at ds [] i h = absurd (not-suc-le-zero h)
views-at ds (t ∷ ts) zero h = refl
views-at ds (t ∷ ts) (suc i) h = let k : deps_max + deps_max * i ≡ deps_max * suc i = omega arith in
    views-at (drop deps_max ds) ts i (le_of_suc-le-suc h) ∙ rw (drop-drop (deps_max * i) deps_max ds, k)

pub views-take : (n : ℕ) (ds : List ℕ) (ts : List RwTxn) → views ds (take n ts) ≡ take n (views ds ts)
views-take zero ds ts = refl
views-take (suc n) ds [] = refl
views-take (suc n) ds (t ∷ ts) = ap (λ ws. view (take deps_max ds) t ∷ ws) (views-take n (drop deps_max ds) ts)

-- ---- the room for deps

-- its deps fit a row
abbrev pub Fits : Writer → Type 0
Fits w = length w.deps ≤ deps_max

pub views-fit : (ds : List ℕ) (ts : List RwTxn) → All Fits (views ds ts)
views-fit ds [] = tt
views-fit ds (t ∷ ts) =
    let a = length-take t.deps (take deps_max ds) in let b = length-take deps_max ds in
    (omega arith, views-fit (drop deps_max ds) ts)

-- ---- rows read back as they were written

row-length : (w : Writer) → Fits w → length (row_of w) ≡ deps_max
row-length w h = length-pad deps_max 0 w.deps h

pub rows-wide : (ws : List Writer) → All Fits ws → All (λ w. length (row_of w) ≡ deps_max) ws
rows-wide [] h = tt
rows-wide (w ∷ ws) h = (row-length w h.0, rows-wide ws h.1)

row_first : (w : Writer) (rest : List ℕ) → Fits w → take deps_max (row_of w ++ rest) ≡ row_of w
row_first w rest h = take_at (row_of w) rest deps_max (row-length w h)

row-rest : (w : Writer) (rest : List ℕ) → Fits w → drop deps_max (row_of w ++ rest) ≡ rest
row-rest w rest h = drop_at (row_of w) rest deps_max (row-length w h)

pub views-rows : (ws : List Writer) (rest : List ℕ) → All Fits ws
    → views (gather row_of ws ++ rest) (map record_of ws) ≡ ws
views-rows [] rest h = refl
views-rows (w ∷ ws) rest h = let ih = views-rows ws rest h.1 in
    rw (
      append_assoc (row_of w) (gather row_of ws) rest,
      row_first w (gather row_of ws ++ rest) h.0,
      row-rest w (gather row_of ws ++ rest) h.0,
      take-pad deps_max 0 w.deps,
      ih,
    )

pub records_of_with : (ws : List Writer) (m : Manager) → records_of (with_writers ws m) ≡ map record_of ws
records_of_with ws m = ap (λ n. take n (pad writers_max no_rw (map record_of ws))) (sym (length-map ws record_of))
    ∙ take-pad writers_max no_rw (map record_of ws)

pub writers_of_with : (ws : List Writer) (m : Manager) → All Fits ws → writers_of (with_writers ws m) ≡ ws
writers_of_with ws m h = rw (records_of_with ws m) (views-rows ws _ h)

-- whether or not the deps fit
pub epochs-with : (ws : List Writer) (m : Manager)
    → map (λ w. w.epoch) (writers_of (with_writers ws m)) ≡ map (λ w. w.epoch) ws
epochs-with ws m = epochs-views _ (records_of (with_writers ws m)) ∙ rw (records_of_with ws m) (same ws)
  where
    same : (ws : List Writer) → map (λ t. t.epoch) (map record_of ws) ≡ map (λ w. w.epoch) ws
    same [] = refl
    same (w ∷ ws) = ap (λ es. w.epoch ∷ es) (same ws)

-- ---- the words that hold no dep

row_spare : (w : Writer) → zeros (drop (length w.deps) (row_of w)) ≡ true
row_spare w = rw (drop-pad deps_max 0 w.deps) (all_of-replicate (eqb 0) (deps_max - length w.deps) 0 refl)

spares-rows : (ws : List Writer) (rest : List ℕ) → All Fits ws
    → spares_zero (gather row_of ws ++ rest) (map record_of ws) ≡ zeros rest
spares-rows [] rest h = refl
spares-rows (w ∷ ws) rest h = let ih = spares-rows ws rest h.1 in
    rw (
      append_assoc (row_of w) (gather row_of ws) rest,
      row_first w (gather row_of ws ++ rest) h.0,
      row-rest w (gather row_of ws ++ rest) h.0,
      row_spare w,
      ih,
    )

pub spares_with : (ws : List Writer) (m : Manager) → All Fits ws
    → spares_zero (with_writers ws m).deps (records_of (with_writers ws m)) ≡ true
spares_with ws m h = let n = deps_all - length (gather row_of ws) in
    rw (records_of_with ws m) (spares-rows ws (replicate n 0) h ∙ all_of-replicate (eqb 0) n 0 refl)

pub rooms_with : (ws : List Writer) (m : Manager) → All Fits ws → all_of room_ok (records_of (with_writers ws m)) ≡ true
rooms_with ws m h = rw (records_of_with ws m) (go ws h)
  where
    go : (ws : List Writer) → All Fits ws → all_of room_ok (map record_of ws) ≡ true
    go [] h = refl
    go (w ∷ ws) h = rw (le-leb (length w.deps) deps_max h.0) (go ws h.1)

-- ---- a table whose spare words are 0 is what its views make of it

-- a row that is there, and its spare words 0
row_is : (row : List ℕ) (t : RwTxn) → length row ≡ deps_max → room_ok t ≡ true → zeros (drop t.deps row) ≡ true
    → (record_of (view row t) ≡ t) × (row_of (view row t) ≡ row)
row_is row t l r z = let k = leb-true t.deps deps_max r in let n = length-take-le t.deps row (omega arith) in (
  (λ i. rw_txn t.epoch t.waiting (n i)),
  sym (padded (eqb 0) 0 0 row deps_max t.deps l k (λ i h e. sym (eqb-true 0 (get_or row i 0) e)) z),
)

pub record Whole (ds : List ℕ) (ts : List RwTxn) : Type 0 where
  pub records : map record_of (views ds ts) ≡ ts
  pub rows : gather row_of (views ds ts) ≡ take (deps_max * length ts) ds
  pub rest : zeros (drop (deps_max * length ts) ds) ≡ true

pub views-whole : (ds : List ℕ) (ts : List RwTxn) → deps_max * length ts ≤ length ds → all_of room_ok ts ≡ true
    → spares_zero ds ts ≡ true → Whole ds ts
views-whole ds [] h r z = record { records = refl; rows = refl; rest = z }
views-whole ds (t ∷ ts) h r z =
    let n = length-take-le deps_max ds (omega arith) in
    let a = row_is (take deps_max ds) t n (and_left (room_ok t) (all_of room_ok ts) r)
    (and_left (zeros (drop t.deps (take deps_max ds))) (spares_zero (drop deps_max ds) ts) z) in
    let ih = views-whole (drop deps_max ds) ts (omega (arith, length-drop deps_max ds))
    (and_right (room_ok t) (all_of room_ok ts) r)
    (and_right (zeros (drop t.deps (take deps_max ds))) (spares_zero (drop deps_max ds) ts) z) in
    let k : deps_max * length (t ∷ ts) ≡ deps_max + deps_max * length ts = omega arith in record {
      records = (λ i. a.0 i ∷ ih.records i);
      rows = (λ i. a.1 i ++ ih.rows i) ∙ rw k (sym (take-add deps_max (deps_max * length ts) ds));
      rest = rw (k, ← drop-drop (deps_max * length ts) deps_max ds) ih.rest;
    }
