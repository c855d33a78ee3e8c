-- What demand 3 comes to for readers, over every history (Histories.antt). 01 "The ledger of demand 3".
-- In order: the calls that close a reader, and what its own calls change; a page; a load; a load lands whole.
-- Proofs: laws/proofs/Promises.antt.
-- Assumes nothing.
use Rattle.std.specs.Prelude.{◌≡◌, Bool, true, false, not, ◌&&◌, cond, List, [], ◌∷◌, ◌++◌, map, ℕ, ◌≤◌, ◌<◌, length}
use Rattle.std.specs.Prelude.{eqb}
use Rattle.lists.specs.Lists.{keep_if, all_of, elem}
use Rattle.rules.specs.Limits.{partitions_max, last_epoch}
use Rattle.rules.specs.Bitmap.{bytes_for}
use Rattle.rules.specs.Checkpoint.{corrupt_in}
use Rattle.rules.specs.Store.{Store, partition_at}
use Rattle.rules.specs.Answers.{yields, accepted}
use Rattle.rules.specs.Calls.{within}
use Rattle.rules.specs.Step.{Call, create, manage, append, clear, rollback, scan, purge, save, recover}
use Rattle.rules.specs.Step.{step, run}
use Rattle.rules.specs.Ledger.{Event, new_at, began, added, deleted, committed, aborted, opened, closed, recovered}
use Rattle.rules.specs.Ledger.{other}
use Rattle.rules.specs.Ledger.{Line, row, delete, Ledger, lines_at, concealed, marks_of}
use Rattle.rules.specs.Claim.{event_of, history, ledger_of, is_open_in, shown_by, words_scanned, Start}
use Rattle.rules.specs.Histories.{Made, store_after, ledger_after}
use Rattle.rules.specs.declared.Reader.{Reader}
use Rattle.rules.specs.declared.Reader.TheVariants.{Rw, Ro}
use Rattle.rules.specs.declared.Answer.{Answer}

-- ---- the calls that close a reader, and what its own calls change

abbrev pub is_load : ℕ → Reader → Bool
is_load j (Rw i) = eqb j i
is_load j (Ro t) = false

abbrev pub is_page : ℕ → Reader → Bool
is_page u (Rw i) = false
is_page u (Ro t) = eqb u t

-- what the ledger hears closes r: its own closing, and making new at an epoch in range or recovery of a file that is
-- not refused, which close every reader
abbrev pub closes : Reader → Event → Bool
closes r (new_at n s) = within 1 last_epoch s
closes r (began n i) = false
closes r (added n i p batch) = false
closes r (deleted n i p) = false
closes r (committed n i) = is_load i r
closes r (aborted n i) = is_load i r
closes r (opened n e t) = false
closes r (closed n t) = is_page t r
closes r (recovered n file) = not (corrupt_in file)
closes r other = false

-- a call that does not close r even if it is accepted
abbrev pub spares : Reader → Call → Bool
spares r c = not (closes r (event_of c (yields [])))

-- where r was shown ws of partition p, its own accepted append puts the batch at the end, and its own accepted clearing
-- (02 (ii)) leaves nothing; no other call changes it
abbrev pub own_step : Reader → ℕ → Call → Answer → List ℕ → List ℕ
own_step r p (create s) a ws = ws
own_step r p (manage c) a ws = ws
own_step r p (append i q batch) a ws = cond (is_load i r && eqb p q && accepted a) (ws ++ batch) ws
own_step r p (clear i q) a ws = cond (is_load i r && eqb p q && accepted a) [] ws
own_step r p (rollback i) a ws = ws
own_step r p (scan v q lent) a ws = ws
own_step r p (purge q) a ws = ws
own_step r p (save e lent) a ws = ws
own_step r p (recover file) a ws = ws

-- a list of calls, in order
abbrev pub own_run : Reader → ℕ → List Call → Store → List ℕ → List ℕ
own_run r p [] st ws = ws
own_run r p (c ∷ cs) st ws = own_run r p cs (step c st).store (own_step r p c (step c st).answer ws)

-- ---- a page: until it is closed, what it shows does not change

-- g and st before the calls, g' and st' after them
pub record PageSame (t : ℕ) (g g' : Ledger) (st st' : Store) : Type 0 where
  pub opened : is_open_in (Ro t) g' ≡ true
  pub shown : (p : ℕ) → p < partitions_max → shown_by (Ro t) p g' ≡ shown_by (Ro t) p g
  pub scans : (p : ℕ) → p < partitions_max → (lent : List ℕ) → bytes_for (partition_at p st).rows ≤ length lent
      → bytes_for (partition_at p st').rows ≤ length lent
      → words_scanned (Ro t) p lent st' ≡ words_scanned (Ro t) p lent st

abbrev pub HistoryPageUnchanged : Type 0
HistoryPageUnchanged =
    (s : Start) (st : Store) → Made s st → (before : List Call) (t : ℕ)
    → let g = ledger_after s st before in let at = store_after s st before in
    is_open_in (Ro t) g ≡ true → (calls : List Call) → all_of (spares (Ro t)) calls ≡ true
    → PageSame t g (ledger_of (history calls at) g) at (run calls at)

-- ---- a load: until it is closed, what it shows changes by its own appends and clearings, and by nothing else

pub record LoadByOwn (i : ℕ) (own : ℕ → List ℕ → List ℕ) (g g' : Ledger) (st st' : Store) : Type 0 where
  pub opened : is_open_in (Rw i) g' ≡ true
  pub shown : (p : ℕ) → p < partitions_max → shown_by (Rw i) p g' ≡ own p (shown_by (Rw i) p g)
  pub scans : (p : ℕ) → p < partitions_max → (lent : List ℕ) → bytes_for (partition_at p st).rows ≤ length lent
      → bytes_for (partition_at p st').rows ≤ length lent
      → words_scanned (Rw i) p lent st' ≡ own p (words_scanned (Rw i) p lent st)

abbrev pub HistoryLoadByOwn : Type 0
HistoryLoadByOwn =
    (s : Start) (st : Store) → Made s st → (before : List Call) (i : ℕ)
    → let g = ledger_after s st before in let at = store_after s st before in
    is_open_in (Rw i) g ≡ true → (calls : List Call) → all_of (spares (Rw i)) calls ≡ true
    → LoadByOwn i (λ p. own_run (Rw i) p calls at) g (ledger_of (history calls at) g) at (run calls at)

-- so a partition that it clears and loads anew shows it what it loads from then on, and nothing else
abbrev pub HistoryReloads : Type 0
HistoryReloads =
    (s : Start) (st : Store) → Made s st → (before : List Call) (i p : ℕ)
    → let at = step (clear i p) (store_after s st before) in accepted at.answer ≡ true
    → (calls : List Call) → all_of (spares (Rw i)) calls ≡ true → (lent : List ℕ)
    → bytes_for (partition_at p (run calls at.store)).rows ≤ length lent
    → words_scanned (Rw i) p lent (run calls at.store) ≡ own_run (Rw i) p calls at.store []

-- ---- a load lands whole: of a load in its snapshot a reader is shown, in every partition, all rows but those that a
-- clearing hides which the reader applies; of any other load it is shown no row, in any partition

-- the marks in its snapshot
abbrev pub marks_in : Reader → Ledger → List ℕ
marks_in (Rw i) g = marks_of i g.writers
marks_in (Ro t) g = marks_of t g.readers

-- mark and word of each row of a partition's list, in its order, but of those that a clearing hides which r applies
abbrev pub unhidden_in : (ℕ → Bool) → List Line → List Line → List (ℕ × ℕ)
unhidden_in applies all [] = []
unhidden_in applies all (row j w ∷ ls) =
    let rest = unhidden_in applies all ls in cond (concealed applies all ls j) rest ((j, w) ∷ rest)
unhidden_in applies all (delete k ∷ ls) = unhidden_in applies all ls

abbrev pub unhidden : Reader → ℕ → Ledger → List (ℕ × ℕ)
unhidden r p g = unhidden_in (λ k. elem k (marks_in r g)) (lines_at p g) (lines_at p g)

-- of these the ones whose mark is in its snapshot: the rows that r is shown
abbrev pub shown_lines : Reader → ℕ → Ledger → List (ℕ × ℕ)
shown_lines r p g = keep_if (λ x. elem x.0 (marks_in r g)) (unhidden r p g)

abbrev pub marked : ℕ → List (ℕ × ℕ) → List (ℕ × ℕ)
marked j xs = keep_if (λ x. eqb x.0 j) xs

abbrev pub words_in : List (ℕ × ℕ) → List ℕ
words_in xs = map (λ x. x.1) xs

-- the words of the rows shown to r are those that the ledger shows, and a scan; load j is whole among them, or absent
pub record LandsWhole (r : Reader) (g : Ledger) (st : Store) : Type 0 where
  pub shown : (p : ℕ) → words_in (shown_lines r p g) ≡ shown_by r p g
  pub scans : (p : ℕ) → p < partitions_max → (lent : List ℕ) → bytes_for (partition_at p st).rows ≤ length lent
      → words_scanned r p lent st ≡ words_in (shown_lines r p g)
  pub whole : (j : ℕ) → elem j (marks_in r g) ≡ true → (p : ℕ) → marked j (shown_lines r p g)
      ≡ marked j (unhidden r p g)
  pub nothing : (j : ℕ) → elem j (marks_in r g) ≡ false → (p : ℕ) → marked j (shown_lines r p g) ≡ []

abbrev pub HistoryLandsWhole : Type 0
HistoryLandsWhole =
    (s : Start) (st : Store) → Made s st → (calls : List Call) (r : Reader)
    → is_open_in r (ledger_after s st calls) ≡ true → LandsWhole r (ledger_after s st calls) (store_after s st calls)
