-- Each call: its answer, refusals in 01's order, a line a number. 01 "Refusals" and the sections of the
-- calls.
-- In order: create, begin, close (commit and roll back), begin and end read-only, advance LSE, and those that change
-- only the manager as one; append, clear, purge; scan.
-- Laws: laws/proofs/Laws/Calls.antt.
-- Assumes nothing.
use Rattle.std.specs.Prelude.{Bool, not, ◌&&◌, cond, List, ℕ, suc, ◌+◌, ◌-◌, length, ltb, leb, eqb}
use Rattle.lists.specs.Lists.{ones}
use Rattle.rules.specs.Limits.{last_epoch, last_ticket, writers_max, readers_max, partitions_max, rows_max}
use Rattle.rules.specs.Limits.{entries_max}
use Rattle.rules.specs.Manager.{has_open, deps_at, has_reader, epoch_at, writers_of}
use Rattle.rules.specs.Begin.{begun_manager}
use Rattle.rules.specs.Close.{oldest_open, committed_manager}
use Rattle.rules.specs.ReadOnly.{snapshot_epoch, begun_ro_manager, ended_ro_manager}
use Rattle.rules.specs.Safe.{blocked, target_of, advanced_manager}
use Rattle.rules.specs.Span.{words_of}
use Rattle.rules.specs.Append.{appended}
use Rattle.rules.specs.Sees.{sees_rw, applies_rw, up_to}
use Rattle.rules.specs.Hides.{flags}
use Rattle.rules.specs.Rewrite.{purged, skips}
use Rattle.rules.specs.Bitmap.{bytes_for}
use Rattle.rules.specs.Store.{Store, manager_of, partition_at, spans_at}
use Rattle.rules.specs.WellFormed.{sound}
use Rattle.rules.specs.Manager.{Manager}
use Rattle.rules.specs.declared.Reader.{Reader}
use Rattle.rules.specs.declared.Reader.TheVariants.{Rw, Ro}
use Rattle.rules.specs.declared.ManagerCall.{ManagerCall}
use Rattle.rules.specs.declared.ManagerCall.TheVariants.{Begin, Commit, BeginRo, EndRo, AdvanceLse}
use Rattle.rules.specs.declared.Refusal.{Refusal}
use Rattle.rules.specs.declared.Refusal.TheVariants.{UnknownPartition, NotOpen, ShortOutput}
use Rattle.rules.specs.declared.Refusal.TheVariants.{OutOfRange, Unsound, Exhausted, TxnsFull}
use Rattle.rules.specs.declared.Refusal.TheVariants.{RowsFull, EntriesFull, Blocked}
use Rattle.rules.specs.declared.Answer.{Answer}
use Rattle.rules.specs.declared.Answer.TheVariants.{Created, Begun, Appended, Cleared, Closed, BegunRo}
use Rattle.rules.specs.declared.Answer.TheVariants.{EndedRo, Scanned, AdvancedLse, Rewritten, Skipped}
use Rattle.rules.specs.declared.Answer.TheVariants.{Refused}

abbrev pub refuse : Refusal → Bool → Answer → Answer
refuse r test answer = cond test (Refused r) answer

-- lo ≤ n ≤ hi
abbrev pub within : ℕ → ℕ → ℕ → Bool
within lo hi n = leb lo n && leb n hi

-- ---- calls on the manager; sound says whether the whole store is

-- making new reads no state: of 5 only the lengths apply
unfoldable pub create_answer : ℕ → Bool → Answer
create_answer s lengths =
    refuse Unsound (not lengths)
    (refuse OutOfRange (not (within 1 last_epoch s))
    Created)

unfoldable pub begin_answer : Bool → Manager → Answer
begin_answer sound m =
    refuse Unsound (not sound)
    (refuse Exhausted (eqb m.clock.ec (suc last_epoch))
    (refuse TxnsFull (leb writers_max m.writers.count)
    (Begun m.clock.ec)))

-- commit and roll back: next is the manager once the transaction is closed, and the oldest is one that is open then
unfoldable pub close_answer : ℕ → Bool → Manager → Manager → Answer
close_answer i sound m next =
    refuse Unsound (not sound)
    (refuse NotOpen (not (has_open i m))
    (Closed next.clock.lce (oldest_open (writers_of next))))

unfoldable pub begin_ro_answer : ℕ → Bool → Manager → Answer
begin_ro_answer e sound m =
    refuse Unsound (not sound)
    (refuse OutOfRange (not (within m.clock.lse m.clock.lce (snapshot_epoch e m)))
    (refuse Exhausted (eqb m.readers.next (suc last_ticket))
    (refuse TxnsFull (leb readers_max m.readers.count)
    (BegunRo m.readers.next))))

unfoldable pub end_ro_answer : ℕ → Bool → Manager → Answer
end_ro_answer t sound m =
    refuse Unsound (not sound)
    (refuse NotOpen (not (has_reader t m))
    (EndedRo (ended_ro_manager t m).readers.count))

unfoldable pub advance_lse_answer : ℕ → Bool → Manager → Answer
advance_lse_answer t sound m =
    refuse Unsound (not sound)
    (refuse OutOfRange (not (within m.clock.lse m.clock.lce (target_of t m)))
    (refuse Blocked (blocked (target_of t m) m)
    (AdvancedLse (target_of t m))))

-- the calls that change nothing but the manager: what each answers, and the manager that it leaves once accepted
abbrev pub manager_answer : ManagerCall → Bool → Manager → Answer
manager_answer Begin sound m = begin_answer sound m
manager_answer (Commit i) sound m = close_answer i sound m (committed_manager i m)
manager_answer (BeginRo e) sound m = begin_ro_answer e sound m
manager_answer (EndRo t) sound m = end_ro_answer t sound m
manager_answer (AdvanceLse t) sound m = advance_lse_answer t sound m

abbrev pub manager_after : ManagerCall → Manager → Manager
manager_after Begin m = begun_manager m
manager_after (Commit i) m = committed_manager i m
manager_after (BeginRo e) m = begun_ro_manager e m
manager_after (EndRo t) m = ended_ro_manager t m
manager_after (AdvanceLse t) m = advanced_manager t m

-- ---- calls on a partition

unfoldable pub append_answer : ℕ → ℕ → List ℕ → Store → Answer
append_answer i p batch st =
    refuse Unsound (not (sound st))
    (refuse UnknownPartition (leb partitions_max p)
    (refuse NotOpen (not (has_open i (manager_of st)))
    (refuse RowsFull (ltb (rows_max - (partition_at p st).rows) (length batch))
    (refuse EntriesFull (ltb entries_max (length (appended i batch (spans_at p st))))
    (Appended ((partition_at p st).rows + length batch))))))

unfoldable pub clear_answer : ℕ → ℕ → Store → Answer
clear_answer i p st =
    refuse Unsound (not (sound st))
    (refuse UnknownPartition (leb partitions_max p)
    (refuse NotOpen (not (has_open i (manager_of st)))
    (refuse EntriesFull (leb entries_max (partition_at p st).entries)
    (Cleared (suc (partition_at p st).entries)))))

unfoldable pub purge_answer : ℕ → Store → Answer
purge_answer p st =
    refuse Unsound (not (sound st))
    (refuse UnknownPartition (leb partitions_max p)
    (cond (skips (manager_of st).clock.lse (spans_at p st))
    (Skipped (partition_at p st).rows)
    (Rewritten (length (words_of (purged (manager_of st).clock.lse (spans_at p st)))))))

-- ---- scan

abbrev pub is_reader : Reader → Manager → Bool
is_reader (Rw i) m = has_open i m
is_reader (Ro t) m = has_reader t m

unfoldable pub sees_of : Reader → Manager → ℕ → Bool
sees_of (Rw i) m = sees_rw i (deps_at i m)
sees_of (Ro t) m = up_to (epoch_at t m)

unfoldable pub applies_of : Reader → Manager → ℕ → Bool
applies_of (Rw i) m = applies_rw i (deps_at i m)
applies_of (Ro t) m = up_to (epoch_at t m)

unfoldable pub flags_at : Reader → ℕ → Store → List Bool
flags_at r p st = flags (sees_of r (manager_of st)) (applies_of r (manager_of st)) (spans_at p st)

unfoldable pub scan_answer : Reader → ℕ → List ℕ → Store → Answer
scan_answer r p lent st =
    refuse Unsound (not (sound st))
    (refuse UnknownPartition (leb partitions_max p)
    (refuse NotOpen (not (is_reader r (manager_of st)))
    (refuse ShortOutput (ltb (length lent) (bytes_for (partition_at p st).rows))
    (Scanned (partition_at p st).rows (ones (flags_at r p st))))))
