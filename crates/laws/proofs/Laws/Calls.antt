-- What an accepted answer says of the store. Definitions: rules/specs/Calls.antt.
-- In order: an answer behind its tests, what each call passed. Elsewhere: answers as such (Laws/Answers.antt).
-- Assumes nothing.
use mathlib.Core.Path.{◌≡◌, refl, sym, ◌∙◌}
use mathlib.Core.Bool.{Bool, true, false, not}
use mathlib.Core.List.{List}
use Prim.Native.Nat.{ℕ, suc, ◌+◌, ◌-◌, ◌≤◌, ◌<◌}
use native.Mathlib.Omega.{arith}
use lib.ListN.{length}
use lib.Dec.{ltb, leb, eqb}
use borrow.Author.Tests.{ltb-false, leb-true, leb-false, eqb-false, not-false}
use Rattle.lists.proofs.Laws.Bools.{and_left, and_right}
use Rattle.rules.specs.Limits.{last_epoch, last_ticket, writers_max, readers_max, partitions_max, rows_max}
use Rattle.rules.specs.Limits.{entries_max}
use Rattle.rules.specs.Manager.{has_open, writers_of}
use Rattle.rules.specs.Close.{oldest_open}
use Rattle.rules.specs.ReadOnly.{snapshot_epoch}
use Rattle.rules.specs.Safe.{blocked, target_of}
use Rattle.rules.specs.Append.{appended}
use Rattle.rules.specs.Store.{Store, manager_of, partition_at, spans_at}
use Rattle.rules.specs.Answers.{accepted}
use Rattle.rules.specs.WellFormed.{sound as isSound}
use Rattle.rules.specs.Calls.{refuse, within, create_answer, begin_answer, close_answer, begin_ro_answer}
use Rattle.rules.specs.Calls.{advance_lse_answer, append_answer, clear_answer, purge_answer}
use Rattle.rules.specs.Manager.{Manager}
use Rattle.rules.specs.declared.Refusal.{Refusal}
use Rattle.rules.specs.declared.Refusal.TheVariants.{UnknownPartition, NotOpen}
use Rattle.rules.specs.declared.Refusal.TheVariants.{OutOfRange, Unsound, Exhausted, TxnsFull}
use Rattle.rules.specs.declared.Refusal.TheVariants.{RowsFull, EntriesFull, Blocked}
use Rattle.rules.specs.declared.Answer.{Answer}
use Rattle.rules.specs.declared.Answer.TheVariants.{Begun, Closed, BegunRo}
use Rattle.laws.proofs.Laws.Answers.{refused}

-- an accepted answer passed the test, and is the answer behind it
pub record Passed (b : Bool) (a answer : Answer) : Type 0 where
  pub test : b ≡ false
  pub is : a ≡ answer
  pub rest : accepted answer ≡ true

pub passed : (r : Refusal) (test : Bool) (answer : Answer) → accepted (refuse r test answer) ≡ true
    → Passed test (refuse r test answer) answer
passed r true answer e = let z : ◌≡◌ {A = Bool} false true = sym (refused r) ∙ e in record {
  test = sym z;
  is = cc;
  rest = cc;
}
passed r false answer e = record { test = refl; is = refl; rest = e }

pub within_low : (lo hi n : ℕ) → not (within lo hi n) ≡ false → lo ≤ n
within_low lo hi n e = leb-true lo n (and_left (leb lo n) (leb n hi) (not-false _ e))

pub within-high : (lo hi n : ℕ) → not (within lo hi n) ≡ false → n ≤ hi
within-high lo hi n e = leb-true n hi (and_right (leb lo n) (leb n hi) (not-false _ e))

-- ---- what each call passed

pub record CreatePassed (s : ℕ) (lengths : Bool) : Type 0 where
  pub sound : lengths ≡ true
  pub low : 1 ≤ s
  pub high : s ≤ last_epoch

pub create-passed : (s : ℕ) (lengths : Bool) → accepted (create_answer s lengths) ≡ true → CreatePassed s lengths
unfolding create_answer
create-passed s lengths e = let a = passed Unsound (not lengths) _ e in let b = passed OutOfRange (not (within 1
    last_epoch s)) _ a.rest in
    record {
      sound = not-false lengths a.test;
      low = within_low 1 last_epoch s b.test;
      high = within-high 1
          last_epoch s b.test;
    }

-- out of range it is refused, whatever the lengths
pub create-refused : (s : ℕ) (lengths : Bool) → not (within 1 last_epoch s) ≡ true
    → accepted (create_answer s lengths) ≡ false
unfolding create_answer
create-refused s true h = rw h refl
create-refused s false h = refl

pub record BeginPassed (b : Bool) (m : Manager) : Type 0 where
  pub sound : b ≡ true
  pub last : m.clock.ec ≡ suc last_epoch → ⊥
  pub room : m.writers.count < writers_max
  pub is : begin_answer b m ≡ Begun m.clock.ec

pub begin-passed : (sound : Bool) (m : Manager) → accepted (begin_answer sound m) ≡ true → BeginPassed sound m
unfolding begin_answer
begin-passed sound m e =
    let a = passed Unsound (not sound) _ e in let b = passed Exhausted (eqb m.clock.ec (suc last_epoch)) _ a.rest in
    let c = passed TxnsFull (leb writers_max m.writers.count) _ b.rest in
    record {
      sound = not-false sound a.test;
      last = eqb-false m.clock.ec (suc last_epoch) b.test;
      room = leb-false writers_max m.writers.count c.test;
      is = a.is ∙ (b.is ∙ c.is);
    }

pub record ClosePassed (i : ℕ) (b : Bool) (m next : Manager) : Type 0 where
  pub sound : b ≡ true
  pub pending : has_open i m ≡ true
  pub is : close_answer i b m next ≡ Closed next.clock.lce (oldest_open (writers_of next))

pub close_passed : (i : ℕ) (sound : Bool) (m next : Manager) → accepted (close_answer i sound m next) ≡ true →
    ClosePassed i sound m next
unfolding close_answer
close_passed i sound m next e = let a = passed Unsound (not sound) _ e in let b = passed NotOpen (not (has_open i
    m)) _ a.rest in
    record { sound = not-false sound a.test; pending = not-false (has_open i m) b.test; is = a.is ∙ b.is }

pub record BeginRoPassed (e : ℕ) (b : Bool) (m : Manager) : Type 0 where
  pub sound : b ≡ true
  pub low : m.clock.lse ≤ snapshot_epoch e m
  pub high : snapshot_epoch e m ≤ m.clock.lce
  pub last : m.readers.next ≡ suc last_ticket → ⊥
  pub room : m.readers.count < readers_max
  pub is : begin_ro_answer e b m ≡ BegunRo m.readers.next

pub begin_ro-passed : (e : ℕ) (sound : Bool) (m : Manager) → accepted (begin_ro_answer e sound m) ≡ true →
    BeginRoPassed e sound m
unfolding begin_ro_answer
begin_ro-passed e sound m h =
    let lo = m.clock.lse in let hi = m.clock.lce in
    let a = passed Unsound (not sound) _ h in let b = passed OutOfRange (not (within lo hi (snapshot_epoch e m))) _
    a.rest in
    let c = passed Exhausted (eqb m.readers.next (suc last_ticket)) _ b.rest in
    let d = passed TxnsFull (leb readers_max m.readers.count) _ c.rest in
    record {
      sound = not-false sound a.test;
      low = within_low lo hi _ b.test;
      high = within-high lo hi _ b.test;
      last = eqb-false m.readers.next (suc last_ticket) c.test;
      room = leb-false readers_max m.readers.count d.test;
      is = a.is ∙ (b.is ∙ (c.is ∙ d.is));
    }

pub record AdvancePassed (t : ℕ) (b : Bool) (m : Manager) : Type 0 where
  pub sound : b ≡ true
  pub low : m.clock.lse ≤ target_of t m
  pub high : target_of t m ≤ m.clock.lce
  pub free : blocked (target_of t m) m ≡ false

pub advance-passed : (t : ℕ) (sound : Bool) (m : Manager) → accepted (advance_lse_answer t sound m) ≡ true →
    AdvancePassed t sound m
unfolding advance_lse_answer
advance-passed t sound m h =
    let lo = m.clock.lse in let hi = m.clock.lce in
    let a = passed Unsound (not sound) _ h in let b = passed OutOfRange (not (within lo hi (target_of t m))) _ a.rest in
    let c = passed Blocked (blocked (target_of t m) m) _ b.rest in
    record {
      sound = not-false sound a.test;
      low = within_low lo hi _ b.test;
      high = within-high lo hi _ b.test;
      free = c.test;
    }

-- append, clear: an open transaction, a partition, and room
pub record WritePassed (i p : ℕ) (st : Store) : Type 0 where
  pub sound : isSound st ≡ true
  pub partition : p < partitions_max
  pub pending : has_open i (manager_of st) ≡ true

pub record AppendPassed (i p : ℕ) (batch : List ℕ) (st : Store) : Type 0 where
  pub write : WritePassed i p st
  pub rows : (partition_at p st).rows + length batch ≤ rows_max
  pub entries : length (appended i batch (spans_at p st)) ≤ entries_max

module _ (i p : ℕ) (st : Store) where
  write-passed : not (isSound st) ≡ false → leb partitions_max p ≡ false → not (has_open i (manager_of st)) ≡ false
      → WritePassed i p st
  write-passed a b c = record {
    sound = not-false (isSound st) a;
    partition = leb-false partitions_max p b;
    pending = not-false (has_open i (manager_of st)) c;
  }

  -- the rows that are there are at most 512 on a sound store
  pub append-passed : (batch : List ℕ) → (isSound st ≡ true → p < partitions_max → (partition_at p st).rows ≤
      rows_max)
      → accepted (append_answer i p batch st) ≡ true → AppendPassed i p batch st
  unfolding append_answer
  append-passed batch f h =
      let q = partition_at p st in
      let a = passed Unsound (not (isSound st)) _ h in let b = passed UnknownPartition (leb partitions_max p) _
      a.rest in
      let c = passed NotOpen (not (has_open i (manager_of st))) _ b.rest in
      let d = passed RowsFull (ltb (rows_max - q.rows) (length batch)) _ c.rest in
      let e = passed EntriesFull (ltb entries_max (length (appended i batch (spans_at p st)))) _ d.rest in
      let w = write-passed a.test b.test c.test in
      let r = ltb-false _ (length batch) d.test in let o = f w.sound w.partition in
      record { write = w; rows = omega arith; entries = ltb-false entries_max _ e.test }

  pub clear-passed : accepted (clear_answer i p st) ≡ true → WritePassed i p st × ((partition_at p st).entries <
      entries_max)
  unfolding clear_answer
  clear-passed h =
      let a = passed Unsound (not (isSound st)) _ h in let b = passed UnknownPartition (leb partitions_max p) _
      a.rest in
      let c = passed NotOpen (not (has_open i (manager_of st))) _ b.rest in
      let d = passed EntriesFull (leb entries_max (partition_at p st).entries) _ c.rest in
      (write-passed a.test b.test c.test, leb-false entries_max _ d.test)

pub purge-passed : (p : ℕ) (st : Store) → accepted (purge_answer p st) ≡ true → (isSound st ≡ true) × (p <
    partitions_max)
unfolding purge_answer
purge-passed p st h =
    let a = passed Unsound (not (isSound st)) _ h in let b = passed UnknownPartition (leb partitions_max p) _ a.rest in
    (not-false (isSound st) a.test, leb-false partitions_max p b.test)
