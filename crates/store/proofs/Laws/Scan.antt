-- What a scan decides by value is what step leaves. Definitions: plan_scan/specs/Scan.antt.
-- In order: what a scan leaves, a refusal, the bytes written, a partition's entries, a scan.
-- Assumes nothing.
use mathlib.Core.Path.{◌≡◌, refl, sym, ap, ◌∙◌}
use mathlib.Core.Bool.{Bool, true}
use mathlib.Core.List.{List}
use Prim.Native.Nat.{ℕ, ◌*◌, ◌≤◌, ◌<◌}
use native.Mathlib.Omega.{arith}
use lib.ListN.{length, drop}
use lib.Seq.{take_at, take-take}
use lib.Dec.{ltb, leb}
use borrow.Author.Tests.{lt-ltb, le-leb, ltb-false, leb-false}
use Rattle.std.specs.Prelude.{Result, Ok, Err}
use Rattle.lists.specs.Lists.{ones}
use Rattle.lists.proofs.Laws.Bools.{split}
use Rattle.rules.specs.Limits.{partitions_max, areas_max, rows_max, entries_max}
use Rattle.rules.specs.Bitmap.{bytes_for, packed, bitmap_after}
use Rattle.rules.specs.Store.{Store, entries_at, rows_at, spans_at}
use Rattle.rules.specs.WellFormed.{sound}
use Rattle.rules.specs.Calls.{refuse, is_reader, sees_of, applies_of, flags_at, scan_answer}
use Rattle.rules.specs.Step.{Outcome, write_outcome, step, scan}
use Rattle.rules.specs.declared.Answer.TheVariants.{Scanned, Refused}
use Rattle.rules.specs.declared.Refusal.{Refusal}
use Rattle.rules.specs.declared.Refusal.TheVariants.{UnknownPartition, NotOpen, ShortOutput, Unsound}
use Rattle.rules.specs.declared.Reader.{Reader}
use Rattle.rules.specs.declared.Reader.TheVariants.{Rw, Ro}
use Rattle.rules.specs.declared.Entry.{Entry}
use Rattle.rules.specs.declared.State.{State}
use Rattle.laws.proofs.Laws.Bitmap.{length-packed}
use Rattle.laws.proofs.Laws.Answers.{refused}
use Rattle.laws.proofs.Laws.Hides.{length-flags}
use Rattle.laws.proofs.Laws.Sees.{applies-all}
use Rattle.laws.proofs.Laws.SpansTest.{EntriesOk, entries-ok}
use Rattle.laws.proofs.Laws.WellFormed.{StoreOk}
use Rattle.laws.proofs.Laws.Totals.{sound-facts}
use Rattle.visible.specs.declared.View.{View}
use Rattle.visible.specs.View.{sees_view}
use Rattle.visible.specs.Scan.{scan_ok, scanned, bitmap_scanned}
use Rattle.visible.proofs.Laws.Scan.{span_flags, scan-ok, scanned-spans, bitmap-spans}
use Rattle.area.specs.Area.{entries_in, area_at}
use Rattle.area.specs.Load.{loaded_area}
use Rattle.area.proofs.Laws.Load.{loaded-area}
use Rattle.admit.specs.Admit.{partition_of}
use Rattle.rules.specs.Manager.{Manager, manager_in}
use Rattle.plan_scan.specs.Scan.{no_bits, look_at, view_of, deps_of, scan_plan, copied}
use Rattle.plan_scan.specs.declared.Look.{Look}
use Rattle.store.specs.Kept.{store_of, Showed}
use Rattle.store.proofs.Laws.Kept.{rest_in, sound-is}

-- what a scan of the store st leaves, by what was decided, with these bytes lent
abbrev pub Leaves : List ℕ → Store → Outcome → Result Look Refusal → Type 0
Leaves lent st out (Ok w) = Showed out (Scanned w.rows w.ones) (copied w.count w.bits lent) st
Leaves lent st out (Err why) = Showed out (Refused why) lent st

refused-left : (r : Refusal) (next lent : List ℕ) (st : Store)
    → Leaves lent st (write_outcome (Refused r) next lent st) (Err r)
refused-left r next lent st = rw (refused r) (refl, refl, refl)

-- the flags' bytes in 64 of 0, copied over those lent
copied-bits : (flags : List Bool) (lent : List ℕ) (rows : ℕ) → length flags ≡ rows → bytes_for rows ≤ 64
    → bytes_for rows ≤ length lent → copied (bytes_for rows) (bitmap_after flags no_bits) lent ≡ bitmap_after flags lent
unfolding copied bitmap_after
copied-bits flags lent rows l b h = let n = bytes_for rows in
    rw (le-leb n 64 b, le-leb n (length lent) h, l, take_at (packed n flags) (drop n no_bits) n (length-packed n flags))

bytes_fit : (rows : ℕ) → rows ≤ rows_max → bytes_for rows ≤ 64
unfolding bytes_for
bytes_fit rows h = omega arith

-- ---- a scan of partition p by a reader of view v

module _ (s : State) (es : List Entry) (rs : List ℕ) (ok : StoreOk (store_of s rs es)) (p : ℕ) (h : p < partitions_max)
  where
    table-entries : entries_in (area_at es (partition_of p s)) ≡ entries_at p (store_of s rs es)
    unfolding area_at
    table-entries = let q = partition_of p s in let part = ok.partition p h in let n = part.entry-count in
        let f = part.spans-ok.entries_fit in
        rw (lt-ltb q.area areas_max (ok.areas.inside p h))
        (take-take q.entries entries_max (drop (entries_max * q.area) es) (omega arith))

    pub entries-facts : EntriesOk (manager_in s) (partition_of p s).rows (entries_at p (store_of s rs es))
    entries-facts = let part = ok.partition p h in
        rw (part.entries-are, ← part.row_count)
        at (entries-ok (manager_in s) (spans_at p (store_of s rs es)) part.spans-ok)

    scans : scan_ok (area_at es (partition_of p s)) (partition_of p s).rows no_bits ≡ true
    scans = let o = entries-facts in let q = partition_of p s in
        scan-ok (area_at es q) q.rows no_bits (rw table-entries o.ends) o.rows_fit
        (bytes_fit q.rows o.rows_fit)

    pub words : length (rows_at p (store_of s rs es)) ≡ (partition_of p s).rows
    words = let part = ok.partition p h in ap length (sym part.words_are) ∙ sym part.row_count

    module _ (r : Reader) (v : View) (deps : List ℕ) (sees : sees_view v deps ≡ sees_of r (manager_in s)) where
      same_flags : span_flags v deps (area_at es (partition_of p s)) (rows_at p (store_of s rs es))
          ≡ flags_at r p (store_of s rs es)
      unfolding flags_at spans_at
      same_flags = rw (sees, applies-all r (manager_in s), table-entries)

      flags-rows : length (flags_at r p (store_of s rs es)) ≡ (partition_of p s).rows
      unfolding flags_at
      flags-rows = length-flags (sees_of r (manager_in s)) (applies_of r (manager_in s)) (spans_at p (store_of s rs es))
          ∙ sym (ok.partition p h).row_count

      ones-are : scanned v deps (area_at es (partition_of p s)) (partition_of p s).rows no_bits
          ≡ ones (flags_at r p (store_of s rs es))
      ones-are = let q = partition_of p s in
          scanned-spans v deps (area_at es q) q.rows no_bits (rows_at p (store_of s rs es)) scans words
          ∙ ap ones same_flags

      bits_are : bitmap_scanned v deps (area_at es (partition_of p s)) (partition_of p s).rows no_bits
          ≡ bitmap_after (flags_at r p (store_of s rs es)) no_bits
      bits_are = let q = partition_of p s in
          bitmap-spans v deps (area_at es q) q.rows no_bits (rows_at p (store_of s rs es)) scans words
          ∙ ap (λ f. bitmap_after f no_bits) same_flags

      scan-room : (lent : List ℕ)
          → Leaves lent (store_of s rs es) (write_outcome
          (refuse ShortOutput (ltb (length lent) (bytes_for (partition_of p s).rows))
          (Scanned (partition_of p s).rows (ones (flags_at r p (store_of s rs es)))))
          (bitmap_after (flags_at r p (store_of s rs es)) lent) lent (store_of s rs es))
          (look_at (area_at es (partition_of p s)) (partition_of p s) v deps (length lent))
      unfolding look_at
      scan-room lent = let q = partition_of p s in let n = bytes_for q.rows in let st = store_of s rs es in
          let next = bitmap_after (flags_at r p st) lent in
          split (ltb (length lent) n)
          (λ t. rw t (refused-left ShortOutput next lent st))
          (λ f. rw (f, ones-are, bits_are) (
            refl,
            copied-bits (flags_at r p st) lent q.rows flags-rows (bytes_fit q.rows entries-facts.rows_fit)
                (ltb-false (length lent) n f),
            refl,
          ))

-- a reader is shown what its view sees with its deps
view-sees : (r : Reader) (m : Manager) → sees_view (view_of r m) (deps_of r m) ≡ sees_of r m
unfolding sees_of sees_view
view-sees (Rw i) m = refl
view-sees (Ro t) m = refl

pub scan-left : (s : State) → length s.partitions.at ≡ partitions_max → (es : List Entry) (rs lent : List ℕ) (p : ℕ)
    (r : Reader)
    → Leaves lent (store_of s rs es) (step (scan r p lent) (store_of s rs es))
    (scan_plan r s (rest_in s es rs) (loaded_area es s.partitions p) (length lent) p)
unfolding step scan_answer scan_plan
scan-left s n es rs lent p r = let st = store_of s rs es in let m = manager_in s in
    let next = bitmap_after (flags_at r p st) lent in
    rw (sound-is s es rs) (split (sound st)
    (λ t. let ok = (sound-facts st n t).shape in rw (t, loaded-area es ok.entries-length s.partitions p)
    (split (leb partitions_max p)
    (λ u. rw u (refused-left UnknownPartition next lent st))
    (λ u. split (is_reader r m)
    (λ o. rw (u, o) (scan-room s es rs ok p (leb-false partitions_max p u) r (view_of r m) (deps_of r m)
    (view-sees r m) lent))
    (λ o. rw (u, o) (refused-left NotOpen next lent st)))))
    (λ f. rw f (refused-left Unsound next lent st)))
