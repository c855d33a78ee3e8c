-- What a plan writes: where its runs hold the rows of a checkpoint (02: round), the bytes of that checkpoint.
-- Definitions: specs/Save.antt; rules/specs/Checkpoint.antt, checkpoint/specs/Rows.antt.
-- In order: rows that fit; the runs of a partition; the partitions below p; written.
-- Assumes nothing.
use mathlib.Core.Path.{◌≡◌, sym, ◌∙◌, ap}
use mathlib.Core.List.{List, [], ◌∷◌, ◌++◌, foldl, map, append-nil, append_assoc}
use Prim.Native.Nat.{ℕ, zero, suc, ◌+◌, ◌-◌, ◌*◌, ◌≤◌, ◌<◌}
use native.Mathlib.Omega.{arith}
use native.Mathlib.Nat.{zero-add}
use lib.ListN.{length, drop, get_or, length-append}
use borrow.Author.Tests.{le-leb, le-ltb, ne_eqb}
use Rattle.lists.specs.Lists.{gather, part, over}
use Rattle.lists.proofs.Laws.All.{All}
use Rattle.lists.proofs.Laws.Over.{over-nil, over-append}
use Rattle.lists.proofs.Laws.Parts.{length_part, length_over}
use Rattle.lists.proofs.Laws.Select.{gather_append}
use Rattle.rules.specs.Limits.{rows_max, areas_max, partitions_max}
use Rattle.rules.specs.Store.{partition_numbers}
use Rattle.rules.specs.Checkpoint.{bytes_of, Checkpoint, header_size, sum_of, body_size}
use Rattle.rules.specs.Step.{saved_over}
use Rattle.laws.proofs.Laws.Bytes.{length-numbers, length-bodies}
use Rattle.laws.proofs.Laws.Checkpoint.{header_of, bodies_of, encoded-parts, length-header}
use Rattle.checkpoint.specs.Rows.{header_put, rows_put, after_rows}
use Rattle.plan_save.specs.Runs.{Run, runs_in, words_at}
use Rattle.plan_save.specs.Save.{Put, put_to, run_put, runs_put, lots_put, save_written}
use Rattle.plan_save.specs.declared.Save.{Save}
use Rattle.plan_save.proofs.Laws.Joined.{RunOk, run_rows}

-- ---- rows that fit

module _ (at from count : ℕ) (rows out : List ℕ) (there : from + count ≤ length rows)
    (room : at + 8 * count ≤ length out) where
  after-fits : after_rows at from count rows out ≡ at + 8 * count
  unfolding after_rows
  after-fits = rw (le-leb (from + count) (length rows) there, le-leb (at + 8 * count) (length out) room)

  rows_fit : rows_put at from count rows out ≡ over at (gather (bytes_of 8) (part from count rows)) out
  unfolding rows_put
  rows_fit = rw (le-leb (from + count) (length rows) there, le-leb (at + 8 * count) (length out) room)

-- ---- the bytes of words behind what is put already

abbrev bytes : List ℕ → List ℕ
bytes ws = gather (bytes_of 8) ws

abbrev put_more : Put → List ℕ → Put
put_more x ws = put_to (x.at + 8 * length ws) (over x.at (bytes ws) x.out)

more-none : (x : Put) → x ≡ put_more x []
more-none x = let e : x.at ≡ x.at + 8 * 0 = omega arith in
    λ j. record { at = e j; out = sym (over-nil x.at x.out) j }

more-more : (x : Put) (vs ws : List ℕ) → x.at + 8 * length (vs ++ ws) ≤ length x.out
    → put_more (put_more x vs) ws ≡ put_more x (vs ++ ws)
more-more x vs ws room =
    let n = length-append vs ws in let a = length-numbers 8 vs in let b = length-numbers 8 ws in
    let e : x.at + 8 * length vs + 8 * length ws ≡ x.at + 8 * length (vs ++ ws) = omega arith in
    let o : over (x.at + 8 * length vs) (bytes ws) (over x.at (bytes vs) x.out)
    ≡ over x.at (bytes (vs ++ ws)) x.out =
    rw (← a, gather_append (bytes_of 8) vs ws)
    (sym (over-append x.at (bytes vs) (bytes ws) x.out (omega arith))) in
    λ j. record { at = e j; out = o j }

-- ---- the runs of a partition whose rows stand from row base on

module _ (base : ℕ) (rows : List ℕ) (there : base + rows_max ≤ length rows) where
  abbrev held : List Run → List ℕ
  held rs = gather (run_rows rows base) rs

  run-put : (r : Run) → RunOk r → (x : Put) → x.at + 8 * length (run_rows rows base r) ≤ length x.out
      → run_put base rows x r ≡ put_more x (run_rows rows base r)
  run-put r k x room = let s = k.some in let f = k.few in
      let l = length_part (base + r.from) (r.end - r.from) rows (omega arith) in
      rw (
        after-fits x.at (base + r.from) (r.end - r.from) rows x.out (omega arith) (omega arith),
        rows_fit x.at (base + r.from) (r.end - r.from) rows x.out (omega arith) (omega arith),
        l,
      )

  runs-put : (rs : List Run) → All RunOk rs → (x : Put) → x.at + 8 * length (held rs) ≤ length x.out
      → foldl (run_put base rows) x rs ≡ put_more x (held rs)
  runs-put [] k x room = more-none x
  runs-put (r ∷ rs) k x room =
      let vs = run_rows rows base r in let ws = held rs in let n = length-append vs ws in
      let a = length-numbers 8 vs in let l = length_over x.at (bytes vs) x.out (omega arith) in
      rw (run-put r k.0 x (omega arith)) (runs-put rs k.1 (put_more x vs) (omega arith) ∙ more-more x vs ws room)

-- ---- the partitions below p, where partition i holds the words of `own i`

module _ (bases ws rows : List ℕ) (own : ℕ → List ℕ) (x : Put)
    (there : (i : ℕ) → i < partitions_max → get_or bases i 0 + rows_max ≤ length rows)
    (lent : length rows ≡ rows_max * areas_max)
    (well : (i : ℕ) → i < partitions_max → All RunOk (runs_in (words_at ws i)))
    (holds : (i : ℕ) → i < partitions_max
    → gather (run_rows rows (get_or bases i 0)) (runs_in (words_at ws i)) ≡ own i) where
  unfoldable own_below : ℕ → List ℕ
  own_below zero = []
  own_below (suc p) = own_below p ++ own p

  lot-put : (p : ℕ) → p < partitions_max → (y : Put) → y.at + 8 * length (own p) ≤ length y.out
      → runs_put (get_or bases p 0) rows (words_at ws p) y ≡ put_more y (own p)
  unfolding runs_put
  lot-put p h y room = let b = get_or bases p 0 in let t = there p h in let o = holds p h in let m = ap length o in
      rw (le-ltb (rows_max * areas_max) b (omega arith), ← o)
      (runs-put b rows t (runs_in (words_at ws p)) (well p h) y (omega arith))

  lots-put : (p : ℕ) → p ≤ partitions_max → x.at + 8 * length (own_below p) ≤ length x.out
      → lots_put bases ws rows x p ≡ put_more x (own_below p)
  unfolding lots_put own_below
  lots-put zero h room = more-none x
  lots-put (suc p) h room =
      let n = length-append (own_below p) (own p) in let y = put_more x (own_below p) in
      let a = length-numbers 8 (own_below p) in
      let l = length_over x.at (bytes (own_below p)) x.out (omega arith) in
      rw (lots-put p (omega arith) (omega arith))
      (lot-put p (omega arith) y (omega arith) ∙ more-more x (own_below p) (own p) room)

  own-all : own_below partitions_max ≡ gather own partition_numbers
  unfolding own_below
  own-all = simp (append_assoc, append-nil)

  pub all-put : x.at + 8 * length (gather own partition_numbers) ≤ length x.out
      → lots_put bases ws rows x partitions_max ≡ put_more x (gather own partition_numbers)
  all-put room = let e = own-all in lots-put partitions_max (omega arith) (rw e room) ∙ rw e

-- ---- the bytes of a checkpoint, where the runs hold its rows

module _ (w : Save) (rows out : List ℕ) (c : Checkpoint) (own : ℕ → List ℕ) (eight : length c.rows ≡ partitions_max)
    (epoch : w.epoch ≡ c.epoch) (counts : w.counts ≡ map length c.rows)
    (there : (i : ℕ) → i < partitions_max → get_or w.bases i 0 + rows_max ≤ length rows)
    (lent : length rows ≡ rows_max * areas_max)
    (well : (i : ℕ) → i < partitions_max → All RunOk (runs_in (words_at w.at i)))
    (holds : (i : ℕ) → i < partitions_max
    → gather (run_rows rows (get_or w.bases i 0)) (runs_in (words_at w.at i)) ≡ own i)
    (bodies : bytes (gather own partition_numbers) ≡ bodies_of c)
    (size : w.size ≡ header_size + body_size w.counts) (room : w.size ≤ length out) where
  abbrev body : ℕ
  body = length (gather own partition_numbers)

  body_is : 8 * body ≡ body_size (map length c.rows)
  body_is = sym (length-numbers 8 (gather own partition_numbers)) ∙ (ap length bodies ∙ length-bodies c.rows)

  room-for : header_size + 8 * body ≤ length out
  room-for = let b = body_is in let s = ap sum_of counts in omega arith

  header-put : header_put w.epoch w.counts out ≡ over 0 (header_of c) out
  unfolding header_put
  header-put = let r = room-for in
      rw (le-leb header_size (length out) (omega arith), epoch, counts)

  pub written : save_written w rows out ≡ saved_over c out
  unfolding save_written saved_over
  written = let r = room-for in let h = length-header c eight in
      let l = length_over 0 (header_of c) out (omega arith) in
      let x : Put = put_to header_size (over 0 (header_of c) out) in
      rw (ne_eqb w.size 0 (λ e. omega arith))
      (ap (λ o. (lots_put w.bases w.at rows (put_to header_size o) partitions_max).out) header-put
      ∙ rw (
        all-put w.bases w.at rows own x there lent well holds (omega arith),
        bodies,
        encoded-parts c,
      )
      (sym front))
    where
      front : header_of c ++ bodies_of c ++ drop (length (header_of c ++ bodies_of c)) out
          ≡ over header_size (bodies_of c) (over 0 (header_of c) out)
      front = let r = room-for in let h = length-header c eight in let b = length-bodies c.rows in let d = body_is in
          let e : 0 + length (header_of c) ≡ header_size = omega arith in
          ap (λ n. header_of c ++ bodies_of c ++ drop n out) (sym (zero-add (length (header_of c ++ bodies_of c))))
          ∙ (over-append 0 (header_of c) (bodies_of c) out (omega arith)
          ∙ ap (λ n. over n (bodies_of c) (over 0 (header_of c) out)) e)
