-- A plan carried out leaves what rules' append and clear leave (laid_in_place). Definitions: specs/Append.antt.
-- In order: what is written, a partition of a sound store, append, the end that moves, clear.
-- Assumes nothing.
use mathlib.Core.Path.{◌≡◌, refl, sym, ap, ◌∙◌}
use mathlib.Core.Bool.{true, false, not}
use mathlib.Core.List.{List, [], ◌∷◌, ◌++◌}
use Prim.Native.Nat.{ℕ, zero, suc, ◌+◌, ◌-◌, ◌*◌, ◌≤◌, ◌<◌}
use native.Mathlib.Omega.{arith}
use lib.ListN.{length, take, drop, get_or, set, length-append}
use lib.Seq.{length-take-le, set_out, get_or-take, get_or-drop}
use lib.Dec.{ltb, leb, eqb}
use borrow.Author.Tests.{ltb-true, leb-true, eqb-true, lt-ltb, le-ltb, le-leb, eq-eqb}
use Rattle.lists.specs.Lists.{part, over}
use Rattle.lists.proofs.Laws.All.{All-all_of, All_get_d}
use Rattle.lists.proofs.Laws.Bools.{split, split-eq, same_test, and_left, and_right}
use Rattle.lists.proofs.Laws.Over.{over-one, over-behind}
use Rattle.lists.proofs.Laws.Parts.{length_part, over-part, take_part}
use Rattle.rules.specs.Limits.{partitions_max, areas_max, rows_max, entries_max}
use Rattle.rules.specs.Span.{Span, entries_of, words_of}
use Rattle.rules.specs.Append.{delete_span, extended, appended, cleared}
use Rattle.rules.specs.Store.{state_of, Store, manager_of, partition_at, spans_at, laid, laid_in_place}
use Rattle.rules.specs.declared.Entry.{Entry}
use Rattle.laws.proofs.Laws.Span.{length-entries_of}
use Rattle.laws.proofs.Laws.Append.{words-appended, words-cleared, length-cleared}
use Rattle.rules.specs.WellFormed.{entry_ok}
use Rattle.laws.proofs.Laws.SpansTest.{entries-ok}
use Rattle.laws.proofs.Laws.WellFormed.{StoreOk}
use Rattle.lent.specs.Entries.{none, moved_end}
use Rattle.partition.specs.Rows.{put_rows}
use Rattle.partition.specs.Append.{in_range, stays, grows, last_of, kept_in, append_at, append_plan}
use Rattle.partition.specs.Append.{clear_plan}
use Rattle.partition.specs.Append.{where_room, placed, written_by}
use Rattle.partition.specs.declared.Plan.{Plan}
use Rattle.partition.proofs.Laws.Rows.{put_rows-fits, put_rows-none}
use Rattle.partition.proofs.Laws.Plan.{Within, in_range-within, append_plan-none}
use Rattle.partition.proofs.Laws.Plan.{append_plan-kept, clear_plan-within}
use Rattle.partition.proofs.Laws.Append.{kept_of, rows_to, entries-extended, kept-le, kept_in-is}

-- ---- what is written

-- the plan and the batch write the spans ss where partition p lies
pub record Written (p : ℕ) (ss : List Span) (plan : Plan) (batch : List ℕ) (st : Store) : Type 0 where
  pub entries : over (entries_max * (partition_at p st).area) (entries_of 0 ss) st.entries
      ≡ set st.entries plan.index plan.entry
  pub rows : over (rows_max * (partition_at p st).area) (words_of ss) st.rows ≡ put_rows plan.row batch st.rows
  pub row_count : length (words_of ss) ≡ plan.rows
  pub entry-count : length ss ≡ plan.entries

pub written-laid : (p : ℕ) (ss : List Span) (plan : Plan) (batch : List ℕ) (st : Store) → Written p ss plan batch st
    → laid_in_place p ss st ≡ written_by p plan batch st
unfolding laid_in_place laid written_by
written-laid p ss plan batch st w = λ j. record {
  state = state_of (manager_of st) (record {
    at = set st.state.partitions.at p (record {
      area = (partition_at p st).area;
      rows = w.row_count j;
      entries = w.entry-count j;
    });
    spare = st.state.partitions.spare;
  }) st.state.totals;
  rows = w.rows j;
  entries = w.entries j;
}

-- ---- a partition of a sound store

module _ (st : Store) (ok : StoreOk st) (p : ℕ) (h : p < partitions_max) where
  pub in-range : Within (partition_at p st)
  in-range = let k = ok.partition p h in let r = k.row_count in let e = k.entry-count in
      let f = k.spans-ok.rows_fit in let g = k.spans-ok.entries_fit in
      record { area = ok.areas.inside p h; rows = omega arith; entries = omega arith }

  tests : in_range (partition_at p st) ≡ true
  tests = in_range-within (partition_at p st) in-range

  entries-inside : entries_max * (partition_at p st).area + (partition_at p st).entries ≤ length st.entries
  entries-inside = let w = in-range in let a = w.area in let n = w.entries in let l = ok.entries-length in
      omega arith

  rows_inside : rows_max * (partition_at p st).area + (partition_at p st).rows ≤ length st.rows
  rows_inside = let w = in-range in let a = w.area in let n = w.rows in let l = ok.rows-length in omega arith

  -- its own spans, and nothing put
  stays-written : Written p (spans_at p st) (stays (partition_at p st)) [] st
  stays-written = let k = ok.partition p h in let q = partition_at p st in record {
    entries = ap (λ es. over (entries_max * q.area) es st.entries) k.entries-are
        ∙ over-part (entries_max * q.area) q.entries st.entries entries-inside
        ∙ sym (set_out st.entries (entries_max * areas_max) _ (let l = ok.entries-length in omega arith));
    rows = ap (λ ws. over (rows_max * q.area) ws st.rows) k.words_are
        ∙ over-part (rows_max * q.area) q.rows st.rows rows_inside
        ∙ sym (put_rows-none (rows_max * areas_max) st.rows);
    row_count = sym k.row_count;
    entry-count = sym k.entry-count;
  }

-- ---- append

-- more than an area has room for, each way
one_too_many : (n m : ℕ) → m ≡ n + 1 → leb entries_max n ≡ ltb entries_max m
one_too_many n m e = same_test (leb entries_max n) (ltb entries_max m)
    (λ t. let g = leb-true entries_max n t in lt-ltb entries_max m (omega arith))
    (λ t. let g = ltb-true entries_max m t in le-leb entries_max n (omega arith))

module _ (st : Store) (ok : StoreOk st) (p : ℕ) (h : p < partitions_max) (i : ℕ) where
  abbrev last : Entry
  last = last_of st.entries (partition_at p st)

  -- how many of the partition's entries stay
  abbrev kept : ℕ
  kept = kept_of i (entries_of 0 (spans_at p st))

  -- one entry behind those, and k rows behind the partition's rows
  abbrev grown_by : ℕ → Plan
  grown_by k = let q = partition_at p st in placed kept q (rows_max * q.area + q.rows) (rows_to i (q.rows + k))

  kept-is : kept_in last (partition_at p st) i ≡ kept
  kept-is = kept_in-is st.entries (partition_at p st) i (entries-inside st ok p h)
      ∙ ap (kept_of i) (sym (ok.partition p h).entries-are)

  kept-below : kept ≤ (partition_at p st).entries
  kept-below = let g = kept-le i (entries_of 0 (spans_at p st)) in let l = length-entries_of 0 (spans_at p st) in
      let c = (ok.partition p h).entry-count in omega arith

  length-extended : (ws : List ℕ) → length (extended i ws (spans_at p st)) ≡ kept + 1
  length-extended ws = let ss = spans_at p st in let es = entries_of 0 ss in
      let l = length-take-le kept es (kept-le i es) in
      sym (length-entries_of 0 (extended i ws ss))
      ∙ (ap length (entries-extended 0 i ws ss) ∙ simp length-append (omega arith))

  -- what is written where there is room
  abbrev pub append_of : List ℕ → Plan
  append_of [] = stays (partition_at p st)
  append_of (w ∷ ws) = grown_by (suc (length ws))

  -- where there is none: 01's 8 and 9
  pub append-decided : (batch : List ℕ) → append_plan last (partition_at p st) i (length batch)
      ≡ where_room (ltb (rows_max - (partition_at p st).rows) (length batch))
      (ltb entries_max (length (appended i batch (spans_at p st)))) (append_of batch)
  unfolding appended append_at
  append-decided [] = let q = partition_at p st in let k = ok.partition p h in let g = k.spans-ok.entries_fit in
      rw (
        append_plan-none last q i 0 (tests st ok p h) refl,
        le-ltb (rows_max - q.rows) 0 (omega arith),
        le-ltb entries_max (length (spans_at p st)) g,
      )
  append-decided (w ∷ ws) = let q = partition_at p st in let k = suc (length ws) in
      rw (
        append_plan-kept last q i k (tests st ok p h) (λ e. omega arith),
        kept-is,
        one_too_many kept (length (extended i (w ∷ ws) (spans_at p st))) (length-extended (w ∷ ws)),
      )

  -- one entry goes behind those that stay
  extended-entries : (ws : List ℕ) → kept < entries_max
      → over (entries_max * (partition_at p st).area) (entries_of 0 (extended i ws (spans_at p st))) st.entries
      ≡ set st.entries (entries_max * (partition_at p st).area + kept)
      (rows_to i ((partition_at p st).rows + length ws))
  extended-entries ws f = let q = partition_at p st in let b = entries_max * q.area in let k = ok.partition p h in
      let c = k.row_count in let g = kept-below in let l = entries-inside st ok p h in
      let a = (in-range st ok p h).area in let n = ok.entries-length in
      let e : 0 + length (words_of (spans_at p st)) + length ws ≡ q.rows + length ws = omega arith in
      rw (entries-extended 0 i ws (spans_at p st), e)
      (ap (λ es. over b (take kept es ++ (rows_to i (q.rows + length ws) ∷ [])) st.entries) k.entries-are
      ∙ (ap (λ es. over b (es ++ (rows_to i (q.rows + length ws) ∷ [])) st.entries)
      (take_part b q.entries kept st.entries g)
      ∙ (over-behind b kept (rows_to i (q.rows + length ws) ∷ []) st.entries (omega arith)
      ∙ over-one (b + kept) (rows_to i (q.rows + length ws)) st.entries (omega arith))))

  extended-written : (ws : List ℕ) → length ws ≤ rows_max - (partition_at p st).rows → kept < entries_max
      → words_of (extended i ws (spans_at p st)) ≡ words_of (spans_at p st) ++ ws
      → Written p (extended i ws (spans_at p st)) (grown_by (length ws)) ws st
  extended-written ws r n e = let q = partition_at p st in let k = ok.partition p h in let c = k.row_count in
      let w = in-range st ok p h in let a = w.area in let b = w.rows in let l = ok.rows-length in record {
        entries = extended-entries ws n;
        rows = rw (e, k.words_are)
            (over-behind (rows_max * q.area) q.rows ws st.rows (rows_inside st ok p h)
            ∙ sym (put_rows-fits (rows_max * q.area + q.rows) ws st.rows (omega arith)));
        row_count = rw e (simp length-append (omega arith));
        entry-count = length-extended ws;
      }

  pub append-written : (batch : List ℕ) → length batch ≤ rows_max - (partition_at p st).rows
      → length (appended i batch (spans_at p st)) ≤ entries_max
      → Written p (appended i batch (spans_at p st)) (append_of batch) batch st
  unfolding appended
  append-written [] r n = stays-written st ok p h
  append-written (w ∷ ws) r n = let l = length-extended (w ∷ ws) in
      extended-written (w ∷ ws) r (omega arith) (words-appended i (w ∷ ws) (spans_at p st))

  -- an append that there is room for
  pub append-laid : (batch : List ℕ) → length batch ≤ rows_max - (partition_at p st).rows
      → length (appended i batch (spans_at p st)) ≤ entries_max
      → laid_in_place p (appended i batch (spans_at p st)) st ≡ written_by p (append_of batch) batch st
  append-laid batch r n = written-laid p (appended i batch (spans_at p st)) _ batch st (append-written batch r n)

  -- ---- where the count of entries stays, the end of the last one moves

  -- the last entry's mark is 0 or 1, as each one's is
  last-mark : (j : ℕ) → j < (partition_at p st).entries
      → (get_or st.entries (entries_max * (partition_at p st).area + j) none).mark ≤ 1
  last-mark j f = let q = partition_at p st in let b = entries_max * q.area in let k = ok.partition p h in
      let es = part b q.entries st.entries in let n = length_part b q.entries st.entries (entries-inside st
      ok p h) in
      let o = rw k.entries-are at (entries-ok (manager_of st) (spans_at p st) k.spans-ok) in
      let e : get_or es j none ≡ get_or st.entries (b + j) none =
      get_or-take q.entries (drop b st.entries) j none f ∙ get_or-drop b st.entries j none in
      let t = All_get_d (λ x. entry_ok (manager_of st) x ≡ true) none es
      (All-all_of (entry_ok (manager_of st)) es o.each)
      j (omega arith) in
      rw (← e) (leb-true (get_or es j none).mark 1 (and_left (leb (get_or es j none).mark 1) _ t))

  last-grows : kept + 1 ≡ (partition_at p st).entries → grows i last ≡ true
  unfolding kept_in
  last-grows e = let q = partition_at p st in let k = kept-is in
      split (grows i last) (λ t. t)
      (λ f. absurd (let z = rw (lt-ltb 0 q.entries (omega arith), f) at k in omega arith))

  pub append_moves : (batch : List ℕ) → (append_of batch).entries ≡ (partition_at p st).entries
      → moved_end st.entries (append_of batch).index (append_of batch).entry.end
      ≡ set st.entries (append_of batch).index (append_of batch).entry
  append_moves [] same = let n = ok.entries-length in let es = st.entries in
      set_out es 576 _ (omega arith) ∙ sym (set_out es 576 _ (omega arith))
  append_moves (w ∷ ws) same = let q = partition_at p st in
      let e : kept + 1 ≡ q.entries = same in
      let t = last-grows e in
      let k : kept ≡ q.entries - 1 = omega arith in
      let m = last-mark (q.entries - 1) (omega arith) in
      let o = eqb-true last.epoch i (and_right (not (eqb last.mark 1)) (eqb last.epoch i) t) in
      let z : last.mark ≡ 0 = split-eq last.mark 1
      (λ y. absurd (let u = rw (eq-eqb last.mark 1 y) at t in let v : ◌≡◌ {A = ℕ} 0 1 = cc in omega arith))
      (λ n. one-or-none last.mark m n) in
      rw k (λ y. set st.entries (entries_max * q.area + (q.entries - 1))
      (record { epoch = o y; end = q.rows + suc (length ws); mark = z y }))
    where
      one-or-none : (n : ℕ) → n ≤ 1 → (n ≡ 1 → ⊥) → n ≡ 0
      one-or-none zero l n = refl
      one-or-none (suc k) l n = absurd (n (omega arith))

-- ---- clear

entries_of-append : (m : ℕ) (ss ts : List Span)
    → entries_of m (ss ++ ts) ≡ entries_of m ss ++ entries_of (m + length (words_of ss)) ts
unfolding entries_of words_of
entries_of-append m [] ts = let e : m + 0 ≡ m = omega arith in rw e
entries_of-append m (s ∷ ss) ts =
    let e : m + length s.words + length (words_of ss) ≡ m + length (words_of (s ∷ ss)) =
    simp length-append (omega arith) in
    rw (entries_of-append (m + length s.words) ss ts, e)

module _ (st : Store) (ok : StoreOk st) (p : ℕ) (h : p < partitions_max) (i : ℕ) where
  -- what is written where there is room
  abbrev pub clear_of : Plan
  clear_of = let q = partition_at p st in
      placed q.entries q (rows_max * areas_max) (record { epoch = i; end = q.rows; mark = 1 })

  -- where there is none: 01's 9
  pub clear-decided : clear_plan (partition_at p st) i
      ≡ where_room false (leb entries_max (partition_at p st).entries) clear_of
  clear-decided = clear_plan-within (partition_at p st) i (tests st ok p h)

  -- one entry goes behind the partition's entries
  clear-entries : (partition_at p st).entries < entries_max
      → over (entries_max * (partition_at p st).area) (entries_of 0 (cleared i (spans_at p st))) st.entries
      ≡ set st.entries (entries_max * (partition_at p st).area + (partition_at p st).entries)
      (record { epoch = i; end = (partition_at p st).rows; mark = 1 })
  unfolding cleared entries_of
  clear-entries f = let q = partition_at p st in let b = entries_max * q.area in let k = ok.partition p h in
      let c = k.row_count in let a = (in-range st ok p h).area in let n = ok.entries-length in
      let e : 0 + length (words_of (spans_at p st)) + 0 ≡ q.rows = omega arith in
      rw (entries_of-append 0 (spans_at p st) (delete_span i ∷ []), e, k.entries-are)
      (over-behind b q.entries (record { epoch = i; end = q.rows; mark = 1 } ∷ []) st.entries (omega arith)
      ∙ over-one (b + q.entries) _ st.entries (omega arith))

  pub clear-written : (partition_at p st).entries < entries_max
      → Written p (cleared i (spans_at p st)) clear_of [] st
  clear-written f = let q = partition_at p st in let k = ok.partition p h in let c = k.entry-count in
      record {
        entries = clear-entries f;
        rows = ap (λ ws. over (rows_max * q.area) ws st.rows) (words-cleared i (spans_at p st))
            ∙ (stays-written st ok p h).rows;
        row_count = ap length (words-cleared i (spans_at p st)) ∙ sym k.row_count;
        entry-count = length-cleared i (spans_at p st) ∙ omega arith;
      }

  pub clear-laid : (partition_at p st).entries < entries_max
      → laid_in_place p (cleared i (spans_at p st)) st ≡ written_by p clear_of [] st
  clear-laid f = written-laid p (cleared i (spans_at p st)) _ [] st (clear-written f)
