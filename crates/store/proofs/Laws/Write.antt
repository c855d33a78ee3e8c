-- What append and clear decide by value is what step leaves. Definitions: plan_write/specs/Write.antt.
-- In order: what a call leaves, a refusal, the entries of a plan, append, clear.
-- Assumes nothing.
use mathlib.Core.Path.{◌≡◌, refl, sym, ap, ◌∙◌}
use mathlib.Core.List.{List}
use Prim.Native.Nat.{ℕ, suc, ◌+◌, ◌-◌, ◌≤◌, ◌<◌}
use native.Mathlib.Omega.{arith}
use lib.ListN.{length, set, length-append}
use lib.Dec.{ltb, leb, eqb}
use mir.Val.{Val}
use denote.Laws.{Is}
use denote.Struct.Declared.{row}
use borrow.Author.Tests.{eqb-true, ltb-true, ltb-false, leb-false}
use Rattle.std.specs.Prelude.{Result, Ok, Err}
use Rattle.lists.proofs.Laws.Bools.{split}
use Rattle.rules.specs.Limits.{partitions_max, rows_max, entries_max}
use Rattle.rules.specs.Manager.{has_open, manager_in}
use Rattle.rules.specs.Span.{words_of}
use Rattle.rules.specs.Append.{appended, cleared}
use Rattle.rules.specs.Store.{Store, spans_at, laid_in_place}
use Rattle.rules.specs.WellFormed.{sound}
use Rattle.rules.specs.Calls.{refuse, append_answer, clear_answer}
use Rattle.rules.specs.Step.{Outcome, outcome, step, append, clear}
use Rattle.rules.specs.declared.Answer.{Answer}
use Rattle.rules.specs.declared.Answer.TheVariants.{Appended, Cleared, Refused}
use Rattle.rules.specs.declared.Refusal.{Refusal}
use Rattle.rules.specs.declared.Refusal.TheVariants.{UnknownPartition, NotOpen, Unsound, RowsFull}
use Rattle.rules.specs.declared.Refusal.TheVariants.{EntriesFull}
use Rattle.rules.specs.declared.Entry.{Entry}
use Rattle.rules.specs.declared.Partition.{Partition}
use Rattle.rules.specs.declared.State.{State}
use Rattle.rules.specs.contracts.State as state-type
use Rattle.laws.proofs.Laws.Append.{words-appended}
use Rattle.laws.proofs.Laws.Answers.{refused}
use Rattle.laws.proofs.Laws.WellFormed.{StoreOk}
use Rattle.laws.proofs.Laws.Totals.{sound-facts}
use Rattle.lent.specs.Entries.{moved_end}
use Rattle.partition.specs.Rows.{put_rows}
use Rattle.partition.specs.Append.{last_of, kept_in, append_plan, written_by}
use Rattle.partition.specs.declared.Plan.{Plan}
use Rattle.partition.proofs.Laws.Places.{partitions_8}
use Rattle.partition.proofs.Laws.Rows.{put_rows-none}
use Rattle.partition.proofs.Laws.Written.{in-range, append_of, append-decided, append-written, append_moves}
use Rattle.partition.proofs.Laws.Written.{append-laid}
use Rattle.partition.proofs.Laws.Written.{clear_of, clear-decided, clear-laid}
use Rattle.area.specs.Load.{last_entry}
use Rattle.area.proofs.Laws.Load.{last-entry-at}
use Rattle.admit.specs.Admit.{partition_of}
use Rattle.plan_write.specs.Write.{planned_write, append_at, append_write, clear_at, clear_write}
use Rattle.plan_write.specs.Write.{entries_written}
use Rattle.plan_write.specs.declared.Write.{Write}
use Rattle.store.specs.Kept.{store_of, Left}
use Rattle.store.specs.Done.{done_write}
use Rattle.store.proofs.Laws.Kept.{rest_in, sound-is}

pub state_8 : (s : State) (vs : List Val) → Is (row state-type.the_type) s vs → length s.partitions.at ≡ 8
state_8 s vs g = partitions_8 s.partitions _ g.1.1.1.1.1.1.0

-- eight totals
pub totals_8 : (s : State) (vs : List Val) → Is (row state-type.the_type) s vs → length s.totals ≡ 8
totals_8 s vs g = g.1.1.1.1.1.1.1.0.1.0.1

-- what a call leaves, by what was decided, where what it answers and the rows that it leaves are those of a write
abbrev pub Leaves : State → List Entry → List ℕ → (Write → Answer) → (Write → List ℕ) → Outcome → Result Write Refusal
    → Type 0
Leaves s es rs answer rows out (Ok w) =
    Left out (record { state = done_write s w; answer = answer w }) (rows w) (entries_written es w)
Leaves s es rs answer rows out (Err why) = Left out (record { state = s; answer = Refused why }) rs es

-- the counts that the partition then has
abbrev pub says_rows : Write → Answer
says_rows w = Appended w.partition.rows

abbrev pub says_entries : Write → Answer
says_entries w = Cleared w.partition.entries

refused-left : (r : Refusal) (s : State) (es : List Entry) (rs : List ℕ) (answer : Write → Answer)
    (rows : Write → List ℕ) (next : Store)
    → Leaves s es rs answer rows (outcome (Refused r) next (store_of s rs es)) (Err r)
refused-left r s es rs answer rows next = rw (refused r) (refl, refl)

-- where the end of an entry moves, that entry is put
planned-entries : (es : List Entry) (p : ℕ) (q : Partition) (plan : Plan)
    → (plan.entries ≡ q.entries → moved_end es plan.index plan.entry.end ≡ set es plan.index plan.entry)
    → entries_written es (planned_write p q plan) ≡ set es plan.index plan.entry
planned-entries es p q plan moves = split (eqb plan.entries q.entries)
    (λ t. rw t (moves (eqb-true plan.entries q.entries t)))
    (λ f. rw f)

-- ---- append

module _ (s : State) (n : length s.partitions.at ≡ partitions_max) (es : List Entry) (rs : List ℕ)
    (ok : StoreOk (store_of s rs es)) (p : ℕ) (h : p < partitions_max) (i : ℕ) where
  abbrev plan_of : List ℕ → Plan
  plan_of bs = append_of (store_of s rs es) ok p h i bs

  append-fits : (bs : List ℕ) → length bs ≤ rows_max - (partition_of p s).rows
      → length (appended i bs (spans_at p (store_of s rs es))) ≤ entries_max
      → Leaves s es rs says_rows (λ w. put_rows w.row bs rs) (outcome (Appended ((partition_of p s).rows + length bs))
      (laid_in_place p (appended i bs (spans_at p (store_of s rs es))) (store_of s rs es)) (store_of s rs es))
      (Ok (planned_write p (partition_of p s) (plan_of bs)))
  unfolding written_by
  append-fits bs r n =
      let st = store_of s rs es in let w = append-written st ok p h i bs r n in
      let c = (ok.partition p h).row_count in let q = partition_of p s in
      let e : length (words_of (appended i bs (spans_at p st))) ≡ (partition_of p s).rows + length bs =
      rw (words-appended i bs (spans_at p st)) (simp length-append (omega arith)) in
      rw (append-laid st ok p h i bs r n) (
        ap Appended (sym w.row_count ∙ e),
        ap (store_of _ _) (planned-entries es p q (plan_of bs) (append_moves st ok p h i bs)),
      )

  append-room : (bs : List ℕ)
      → Leaves s es rs says_rows (λ w. put_rows w.row bs rs) (outcome
      (refuse RowsFull (ltb (rows_max - (partition_of p s).rows) (length bs))
      (refuse EntriesFull (ltb entries_max (length (appended i bs (spans_at p (store_of s rs es)))))
      (Appended ((partition_of p s).rows + length bs))))
      (laid_in_place p (appended i bs (spans_at p (store_of s rs es))) (store_of s rs es)) (store_of s rs es))
      (append_at (last_of es (partition_of p s)) (length bs) i p (partition_of p s))
  append-room bs =
      let st = store_of s rs es in let ss = appended i bs (spans_at p st) in
      let room = rows_max - (partition_of p s).rows in
      let no = λ (r : Refusal). refused-left r s es rs says_rows (λ w. put_rows w.row bs rs) (laid_in_place p ss st) in
      rw (append-decided st ok p h i bs) (split (ltb room (length bs))
      (λ t. rw t (no RowsFull))
      (λ f. split (ltb entries_max (length ss))
      (λ t. rw (f, t) (no EntriesFull))
      (λ g. rw (f, g) (append-fits bs (ltb-false room (length bs) f) (ltb-false entries_max (length ss) g)))))

  -- the entry that a call loads is the partition's last one, where it has one
  last-same : (k : ℕ) → append_plan (last_entry es s.partitions p) (partition_of p s) i k
      ≡ append_plan (last_of es (partition_of p s)) (partition_of p s) i k
  unfolding append_plan
  last-same k = let q = partition_of p s in let r = in-range (store_of s rs es) ok p h in
      split (ltb 0 q.entries)
      (λ t. ap (λ (e : Entry). append_plan e q i k) (last-entry-at es ok.entries-length s.partitions p
      (ltb-true 0 q.entries t) r.entries r.area))
      (λ f. rw f)

pub append_left : (s : State) → length s.partitions.at ≡ partitions_max → (es : List Entry) (rs bs : List ℕ)
    (i p : ℕ)
    → Leaves s es rs says_rows (λ w. put_rows w.row bs rs) (step (append i p bs) (store_of s rs es))
    (append_write s (rest_in s es rs) (last_entry es s.partitions p) (length bs) i p)
unfolding step append_answer append_write
append_left s n es rs bs i p = let st = store_of s rs es in
    let next = laid_in_place p (appended i bs (spans_at p st)) st in
    let no = λ (r : Refusal). refused-left r s es rs says_rows (λ w. put_rows w.row bs rs) next in
    rw (sound-is s es rs) (split (sound st)
    (λ t. let ok = (sound-facts st n t).shape in rw t (split (leb partitions_max p)
    (λ u. rw u (no UnknownPartition))
    (λ u. let h = leb-false partitions_max p u in split (has_open i (manager_in s))
    (λ o. rw (u, o, last-same s n es rs ok p h i (length bs)) (append-room s n es rs ok p h i bs))
    (λ o. rw (u, o) (no NotOpen)))))
    (λ f. rw f (no Unsound)))

-- ---- clear

module _ (s : State) (n : length s.partitions.at ≡ partitions_max) (es : List Entry) (rs : List ℕ)
    (ok : StoreOk (store_of s rs es)) (p : ℕ) (h : p < partitions_max) (i : ℕ) where
  clear-fits : (partition_of p s).entries < entries_max
      → Leaves s es rs says_entries (λ w. rs) (outcome (Cleared (suc (partition_of p s).entries))
      (laid_in_place p (cleared i (spans_at p (store_of s rs es))) (store_of s rs es)) (store_of s rs es))
      (Ok (planned_write p (partition_of p s) (clear_of (store_of s rs es) ok p h i)))
  unfolding written_by
  clear-fits f =
      let st = store_of s rs es in let q = partition_of p s in let plan = clear_of st ok p h i in
      let e : plan.entries ≡ suc q.entries = omega arith in
      rw (clear-laid st ok p h i f, put_rows-none plan.row rs) (
        ap Cleared e,
        ap (store_of _ _) (planned-entries es p q plan (λ same. absurd (omega arith))),
      )

  clear_room : Leaves s es rs says_entries (λ w. rs) (outcome
      (refuse EntriesFull (leb entries_max (partition_of p s).entries) (Cleared (suc (partition_of p s).entries)))
      (laid_in_place p (cleared i (spans_at p (store_of s rs es))) (store_of s rs es)) (store_of s rs es))
      (clear_at i p (partition_of p s))
  clear_room =
      let st = store_of s rs es in let n = (partition_of p s).entries in
      rw (clear-decided st ok p h i) (split (leb entries_max n)
      (λ t. rw t
      (refused-left EntriesFull s es rs says_entries (λ w. rs) (laid_in_place p (cleared i (spans_at p st)) st)))
      (λ f. rw f (clear-fits (leb-false entries_max n f))))

-- a clearing writes no row
pub clear-left : (s : State) → length s.partitions.at ≡ partitions_max → (es : List Entry) (rs : List ℕ) (i p : ℕ)
    → Leaves s es rs says_entries (λ w. rs) (step (clear i p) (store_of s rs es))
    (clear_write s (rest_in s es rs) i p)
unfolding step clear_answer clear_write
clear-left s n es rs i p = let st = store_of s rs es in
    let next = laid_in_place p (cleared i (spans_at p st)) st in
    let no = λ (r : Refusal). refused-left r s es rs says_entries (λ w. rs) next in
    rw (sound-is s es rs) (split (sound st)
    (λ t. let ok = (sound-facts st n t).shape in rw t (split (leb partitions_max p)
    (λ u. rw u (no UnknownPartition))
    (λ u. split (has_open i (manager_in s))
    (λ o. rw (u, o) (clear_room s n es rs ok p (leb-false partitions_max p u) i))
    (λ o. rw (u, o) (no NotOpen)))))
    (λ f. rw f (no Unsound)))
