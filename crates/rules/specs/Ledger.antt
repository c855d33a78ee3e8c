-- The ledger of demand 3, kept from the history of calls alone. 01 "The ledger of demand 3".
-- It shares nothing with the store but lists and numbers, and how a file is read (02 (v), Checkpoint.antt). In order:
-- lines, Ledger, Event, heard, what it shows.
-- Assumes nothing.
use Rattle.std.specs.Prelude.{Bool, false, not, ◌&&◌, ◌||◌, cond, ℕ, suc, ◌-◌, max, get_or, set, replicate, ltb, leb}
use Rattle.std.specs.Prelude.{eqb}
use mathlib.Core.List.{List, [], ◌∷◌, ◌++◌, map, foldr}
use Rattle.lists.specs.Lists.{keep_if, any_of, first_of, elem}
use Rattle.rules.specs.Checkpoint.{Checkpoint, saved_in}

-- a row with its transaction's mark, or a delete (01: clearing) with its mark
pub data Line : Type 0 where
  row : ℕ → ℕ → Line
  delete : ℕ → Line

-- an open transaction, by epoch (01: load) or ticket (01: page), and the marks in its snapshot
pub record Snapshot : Type 0 where
  pub name : ℕ
  pub marks : List ℕ

-- the starting epoch, the committed epochs, the open transactions, and a list of lines for each partition
-- (01: lot)
pub record Ledger : Type 0 where
  pub start : ℕ
  pub committed : List ℕ
  pub writers : List Snapshot
  pub readers : List Snapshot
  pub lines : List (List Line)

-- ---- what it is fed: a call's arguments and number, begin's epoch and open's ticket, and nothing else; of a recovery
-- the bytes of the file

pub data Event : Type 0 where
  new_at : (number s : ℕ) → Event
  began : (number epoch : ℕ) → Event
  added : (number i p : ℕ) → List ℕ → Event
  deleted : (number i p : ℕ) → Event
  committed : (number i : ℕ) → Event
  aborted : (number i : ℕ) → Event
  opened : (number e ticket : ℕ) → Event
  closed : (number t : ℕ) → Event
  recovered : (number : ℕ) → List ℕ → Event
  other : Event

-- ---- setters

abbrev pub with_lines : List (List Line) → Ledger → Ledger
with_lines ls g =
    record { start = g.start; committed = g.committed; writers = g.writers; readers = g.readers; lines = ls }

abbrev pub with_open_rw : List ℕ → List Snapshot → Ledger → Ledger
with_open_rw cs ws g =
    record { start = g.start; committed = cs; writers = ws; readers = g.readers; lines = g.lines }

abbrev pub with_open_ro : List Snapshot → Ledger → Ledger
with_open_ro rs g =
    record { start = g.start; committed = g.committed; writers = g.writers; readers = rs; lines = g.lines }

-- ---- what an accepted call changes

-- making new at s: no transaction, an empty list for each of the eight partitions
abbrev pub new_ledger : ℕ → Ledger
new_ledger s = record { start = s; committed = []; writers = []; readers = []; lines = replicate 8 [] }

-- recovery of checkpoint c (02: round), of epoch L: started at L + 1, load L is committed, and the rows are its; at
-- L = 0 there are none, and no such load
abbrev pub recovered_ledger : Checkpoint → Ledger
recovered_ledger c =
    let e = c.epoch in
    record {
      start = suc e;
      committed = cond (eqb e 0) [] (e ∷ []);
      writers = [];
      readers = [];
      lines = map (map (row e)) c.rows;
    }

abbrev pub named : ℕ → Snapshot → Bool
named n s = eqb s.name n

abbrev pub without : ℕ → List Snapshot → List Snapshot
without n ss = keep_if (λ s. not (named n s)) ss

-- lines go to the end of a partition's list
abbrev pub lines_at : ℕ → Ledger → List Line
lines_at p g = get_or g.lines p []

abbrev pub with_added : ℕ → List Line → Ledger → Ledger
with_added p ls g = with_lines (set g.lines p (lines_at p g ++ ls)) g

-- the greatest committed epoch that has no open transaction of smaller epoch, or s − 1
abbrev pub latest : Ledger → ℕ
latest g = foldr max (g.start - 1) (keep_if (λ c. not (any_of (λ w. ltb w.name c) g.writers)) g.committed)

-- itself, and those of smaller epoch committed before it began
abbrev pub with_begun : ℕ → Ledger → Ledger
with_begun i g =
    let marks = i ∷ keep_if (λ c. ltb c i) g.committed in
    with_open_rw g.committed (record { name = i; marks = marks } ∷ g.writers) g

-- those committed by then with an epoch of at most e, where 0 is the latest
abbrev pub with_opened : ℕ → ℕ → Ledger → Ledger
with_opened e t g =
    let up_to = cond (eqb e 0) (latest g) e in
    with_open_ro (record { name = t; marks = keep_if (λ c. leb c up_to) g.committed } ∷ g.readers) g

-- a refused call changes nothing
abbrev pub if_accepted : ℕ → Ledger → Ledger → Ledger
if_accepted number next g = cond (eqb number 0) next g

unfoldable pub heard : Event → Ledger → Ledger
heard (new_at n s) g = if_accepted n (new_ledger s) g
heard (began n i) g = if_accepted n (with_begun i g) g
heard (added n i p ws) g = if_accepted n (with_added p (map (row i) ws) g) g
heard (deleted n i p) g = if_accepted n (with_added p (delete i ∷ []) g) g
heard (committed n i) g = if_accepted n (with_open_rw (i ∷ g.committed) (without i g.writers) g) g
heard (aborted n i) g = if_accepted n (with_open_rw g.committed (without i g.writers) g) g
heard (opened n e t) g = if_accepted n (with_opened e t g) g
heard (closed n t) g = if_accepted n (with_open_ro (without t g.readers) g) g
heard (recovered n file) g = if_accepted n (recovered_ledger (saved_in file)) g
heard other g = g

-- ---- what it shows

-- a delete marked k that the reader applies hides rows marked below k anywhere, and rows marked k before it
abbrev pub deletes : (ℕ → Bool) → Line → Bool
deletes p (row j w) = false
deletes p (delete k) = p k

unfoldable pub concealed : (ℕ → Bool) → List Line → List Line → ℕ → Bool
concealed applies all rest j =
    any_of (deletes (λ k. applies k && ltb j k)) all || any_of (deletes (λ k. applies k && eqb j k)) rest

-- the rows, in the list's order, whose mark is in the snapshot and that no delete it applies hides
unfoldable pub shows_in : (ℕ → Bool) → (ℕ → Bool) → List Line → List Line → List ℕ
shows_in sees applies all [] = []
shows_in sees applies all (row j w ∷ ls) =
    let rest = shows_in sees applies all ls in cond (sees j && not (concealed applies all ls j)) (w ∷ rest) rest
shows_in sees applies all (delete k ∷ ls) = shows_in sees applies all ls

unfoldable pub shows : (ℕ → Bool) → (ℕ → Bool) → List Line → List ℕ
shows sees applies ls = shows_in sees applies ls ls

abbrev pub no_snapshot : Snapshot
no_snapshot = record { name = 0; marks = [] }

abbrev pub marks_of : ℕ → List Snapshot → List ℕ
marks_of n ss = (first_of (named n) no_snapshot ss).marks

-- an open transaction applies the deletes whose mark is in its snapshot, a read-write one its own too (02 (ii))
abbrev pub shows_by : List ℕ → List Line → List ℕ
shows_by marks ls = shows (λ j. elem j marks) (λ k. elem k marks) ls

abbrev pub has_open_rw : ℕ → Ledger → Bool
has_open_rw i g = any_of (named i) g.writers

unfoldable pub writer_shows : ℕ → ℕ → Ledger → List ℕ
writer_shows i p g = shows_by (marks_of i g.writers) (lines_at p g)

abbrev pub has_open_ro : ℕ → Ledger → Bool
has_open_ro t g = any_of (named t) g.readers

unfoldable pub reader_shows : ℕ → ℕ → Ledger → List ℕ
reader_shows t p g = shows_by (marks_of t g.readers) (lines_at p g)
