-- The worked session of 01 "A session", the edges of "Marked for proof", of 01's refusals and of 02, and the order
-- of the refusals.
-- In order: session-holds, edges_hold, order-holds.
-- Assumes nothing.
use mathlib.Core.Path.{◌≡◌, refl}
use mathlib.Core.List.{List, [], ◌∷◌, ◌++◌, map}
use Prim.Native.Nat.{ℕ, zero, suc, ◌-◌, ◌%◌}
use lib.ListN.{replicate, set}
use Rattle.lists.specs.Lists.{over}
use Rattle.rules.specs.Limits.{last_epoch, last_ticket}
use Rattle.rules.specs.Manager.{Writer, writer, readers_of, with_clock, with_ec, with_lse, with_writers, with_readers}
use Rattle.rules.specs.Span.{Span, words_of, entries_of}
use Rattle.rules.specs.Store.{Store, manager_of, state_of, with_manager, with_totals, laid, laid_in_place}
use Rattle.rules.specs.Step.{Call, create, begin, append, clear, commit, rollback, begin_ro, end_ro, scan}
use Rattle.rules.specs.Step.{advance_lse, purge, run}
use Rattle.rules.specs.declared.Reader.{Reader}
use Rattle.rules.specs.declared.Reader.TheVariants.{Rw, Ro}
use Rattle.rules.proofs.Look.{made, Look, lines_of, bytes_to, entries_in}
use Rattle.rules.proofs.Look.{totals_left, Case, observed, alike, agree, IsTrue, yes, passes, table-holds}

-- a line that is only a number, a line of 0 and a value, and that of a commit or roll back: LCE, the oldest open epoch
unfoldable pub only : ℕ → List ℕ
only n = n ∷ []

unfoldable pub ok : ℕ → List ℕ
ok v = 0 ∷ v ∷ []

closed : ℕ → ℕ → List ℕ
closed lce oldest = 0 ∷ lce ∷ oldest ∷ []

unfoldable pub case : Store → List Call → Look → List (List ℕ) → Case
case st cs l e = record { start = st; calls = cs; look = l; expected = e }

look : Reader → Call
look r = scan r 0 (replicate 64 0)

-- ---- 01 "A session"

session : List Call
session =
    begin ∷ append 1 0 (10 ∷ 11 ∷ []) ∷ begin ∷ append 2 0 (20 ∷ []) ∷ commit 1 ∷ begin_ro 0 ∷ clear 2 0 ∷ look (Rw
    2) ∷ commit 2
    ∷ look (Ro 1) ∷ begin_ro 0 ∷ look (Ro 2) ∷ advance_lse 2 ∷ end_ro 1 ∷ advance_lse 0 ∷ purge 0 ∷ append 2 0 (5 ∷ [])
    ∷ []

pub session_case : Case
session_case =
    case (made 1) [] (lines_of session)
    (ok 1 ∷ ok 2 ∷ ok 2 ∷ ok 3 ∷ closed 1 2 ∷ ok 1 ∷ ok 3 ∷ only 0 ∷ closed 2 0
    ∷ (0 ∷ 10 ∷ 11 ∷ []) ∷ ok 2 ∷ only 0 ∷ only 10 ∷ ok 1 ∷ ok 2 ∷ ok 1 ∷ only 2 ∷ [])

pub session-holds : observed session_case ≡ session_case.expected
unfolding observed session_case session case look closed ok only
session-holds = refl

-- ---- edges

-- two rows of 1, then a delete of 2 that ends at row 3; a snapshot at 1 is open
gap : Store
gap =
    let st = run (begin ∷ begin ∷ commit 1 ∷ begin_ro 0 ∷ commit 2 ∷ []) (made 1) in record {
      state = state_of (manager_of st) (record {
        at = set st.state.partitions.at 0 (record { area = 0; rows = 3; entries = 2 });
        spare = 8;
      })
          st.state.totals;
      rows = st.rows;
      entries = over 0 (record { epoch = 1; end = 2; mark = 0 } ∷ record { epoch = 2; end = 3; mark = 1 } ∷ [])
          st.entries;
    }

-- 02 (iii): 5 and 7 of load 1, which landed, 9 of load 2, which is open; a row of partition 1 that load 1 cleared
weighed : Store
weighed =
    run (begin ∷ append 1 0 (4294967301 ∷ 7 ∷ []) ∷ append 1 1 (3 ∷ []) ∷ clear 1 1 ∷ begin ∷ append 2 0 (9 ∷ []) ∷
    commit 1
    ∷ []) (made 1)

-- its rows, from row i on, or its totals, overwritten
rows_spoilt : ℕ → List ℕ → Store
rows_spoilt i ws = record { state = weighed.state; rows = over i ws weighed.rows; entries = weighed.entries }

totals_spoilt : List ℕ → Store
totals_spoilt ts = with_totals (over 0 ts weighed.state.totals) weighed

totals : ℕ → List ℕ
totals n = n ∷ replicate 7 0

pub edges : List Case
edges =
    -- 512 rows fit, the 513th does not, and a batch is added whole or not at all
    case (made 1) (begin ∷ append 1 0 (replicate 511 7) ∷ [])
    (lines_of (append 1 0 (7 ∷ 7 ∷ []) ∷ append 1 0 (7 ∷ []) ∷ append 1 0 (7 ∷ []) ∷ [])) (only 8 ∷ ok 512 ∷ only
    8 ∷ [])
    -- the 33rd transaction, read-write (32 open or waiting) and read-only
    ∷ case (made 1) (replicate 32 begin ++ commit 2 ∷ []) (lines_of (begin ∷ commit 1 ∷ begin ∷ []))
    (only 7 ∷ closed 2 3 ∷ ok 33 ∷ [])
    ∷ case (made 1) (replicate 32 (begin_ro 0)) (lines_of (begin_ro 0 ∷ end_ro 5 ∷ begin_ro 0 ∷ [])) (only 7 ∷ ok 31 ∷
    ok 33 ∷ [])
    -- a partition of 9 rows wants 2 bytes, and later bytes stay; one of no rows wants none
    ∷ case (made 1) (begin ∷ append 1 0 (replicate 9 7) ∷ [])
    (lines_of (scan (Rw 1) 0 (0 ∷ []) ∷ scan (Rw 1) 0 (0 ∷ 0 ∷ []) ∷ scan (Rw 1) 1 [] ∷ []))
    (only 3 ∷ (0 ∷ replicate 9 7) ∷ only 0 ∷ [])
    ∷ case (made 1) (begin ∷ append 1 0 (replicate 9 7) ∷ []) (bytes_to (Rw 1) 0 (170 ∷ 170 ∷ 170 ∷ []))
    ((0 ∷ 9 ∷ 9 ∷ []) ∷ (255 ∷ 1 ∷ 170 ∷ []) ∷ [])
    ∷ case (made 1) (begin ∷ begin ∷ append 1 0 (1 ∷ 2 ∷ []) ∷ append 2 0 (3 ∷ []) ∷ []) (bytes_to (Rw 2) 0 (255 ∷
    [])) ((0 ∷ 3 ∷ 1 ∷ []) ∷ (4 ∷ []) ∷ [])
    ∷ case (made 1) (begin ∷ append 1 0 (replicate 9 7) ∷ []) (bytes_to (Rw 1) 0 (170 ∷ [])) ((3 ∷ 0 ∷ 0 ∷ []) ∷
    (170 ∷ []) ∷ [])
    -- the first and the last epoch, and what lies beside them
    ∷ case (made 1) [] (lines_of (create 0 ∷ create (suc last_epoch) ∷ create last_epoch ∷ begin ∷ begin ∷ []))
    (only 4 ∷ only 4 ∷ only 0 ∷ ok last_epoch ∷ only 6 ∷ [])
    -- a waiting transaction is closed: no commit, rollback, append, clear or scan by it
    ∷ case (made 1) (begin ∷ begin ∷ commit 2 ∷ [])
    (lines_of (commit 2 ∷ rollback 2 ∷ append 2 0 [] ∷ clear 2 0 ∷ look (Rw 2) ∷ [])) (only 2 ∷ only 2 ∷ only 2 ∷
    only 2 ∷ only 2 ∷ [])
    -- a rollback moves LCE, lowers later ends and joins what become neighbours
    ∷ case (made 1) (begin ∷ begin ∷ commit 2 ∷ []) (lines_of (rollback 1 ∷ [])) (closed 2 0 ∷ [])
    ∷ case (made 1) (begin ∷ begin ∷ append 1 0 (1 ∷ 2 ∷ []) ∷ append 2 0 (3 ∷ []) ∷ append 1 0 (4 ∷ []) ∷ rollback
    2 ∷ []) (entries_in 0)
    ((1 ∷ 3 ∷ 0 ∷ []) ∷ [])
    -- 02 (i): commit and roll back name the oldest open one, neither the one that they close nor one that waits
    ∷ case (made 1) (begin ∷ begin ∷ []) (lines_of (commit 2 ∷ commit 1 ∷ [])) (closed 0 1 ∷ closed 2 0 ∷ [])
    ∷ case (made 1) (begin ∷ begin ∷ begin ∷ []) (lines_of (commit 2 ∷ rollback 1 ∷ [])) (closed 0 1 ∷ closed 2 3 ∷ [])
    ∷ case (made 1) (begin ∷ []) (lines_of (rollback 1 ∷ rollback 1 ∷ [])) (closed 0 0 ∷ only 2 ∷ [])
    -- 02 (ii): a transaction is shown of a partition that it cleared what it appends from then on; until it commits,
    -- others are shown what they were
    ∷ case (made 1) (begin ∷ append 1 0 (1 ∷ []) ∷ clear 1 0 ∷ append 1 0 (2 ∷ []) ∷ []) (lines_of (look (Rw 1) ∷ []))
    ((0 ∷ 2 ∷ []) ∷ [])
    ∷ case (made 1) (begin ∷ append 1 0 (5 ∷ []) ∷ commit 1 ∷ begin ∷ begin ∷ clear 2 0 ∷ begin_ro 0 ∷ [])
    (lines_of (look (Rw 2) ∷ append 2 0 (6 ∷ []) ∷ look (Rw 2) ∷ look (Rw 3) ∷ look (Ro 1) ∷ []))
    (only 0 ∷ ok 2 ∷ (0 ∷ 6 ∷ []) ∷ (0 ∷ 5 ∷ []) ∷ (0 ∷ 5 ∷ []) ∷ [])
    -- 01 "Where hands go wrong", first: 1 open, 2 committed, 3 begun, 1 committed; LSE stays below 1 while 3
    -- is open
    ∷ case (made 1) (begin ∷ begin ∷ append 1 0 (1 ∷ []) ∷ append 2 0 (2 ∷ []) ∷ commit 2 ∷ begin ∷ commit 1 ∷ [])
    (lines_of (advance_lse 2 ∷ advance_lse 1 ∷ advance_lse 0 ∷ purge 0 ∷ look (Rw 3) ∷ []))
    (only 10 ∷ only 10 ∷ ok 0 ∷ ok 0 ∷ (0 ∷ 2 ∷ []) ∷ [])
    -- a delete whose end lies above the end before it: the row between is of its epoch and stands before it
    ∷ case gap [] (lines_of (look (Ro 1) ∷ begin_ro 2 ∷ look (Ro 2) ∷ [])) ((0 ∷ 77 ∷ 77 ∷ []) ∷ ok 2 ∷ only 0 ∷ [])
    ∷ case gap (end_ro 1 ∷ advance_lse 1 ∷ purge 0 ∷ []) (entries_in 0) ((1 ∷ 2 ∷ 0 ∷ []) ∷ (2 ∷ 3 ∷ 1 ∷ []) ∷ [])
    ∷ case gap (end_ro 1 ∷ advance_lse 2 ∷ []) (lines_of (purge 0 ∷ begin_ro 0 ∷ look (Ro 2) ∷ [])) (ok 1 ∷ ok 2 ∷ only
    0 ∷ [])
    -- 02 (iii): a row's low 32 bits are milligrams; an open transaction's rows, and hidden ones, are not in the total
    ∷ case weighed [] totals_left (totals 12 ∷ [])
    ∷ case (made 1) (begin ∷ append 1 0 (replicate 512 18446744073709551615) ∷ commit 1 ∷ []) totals_left
    (totals 2199023255040 ∷ [])
    -- it moves with roll back as with commit, a clearing that lands takes out what it hides, and purge leaves it
    ∷ case (made 1) (begin ∷ begin ∷ append 1 0 (4 ∷ []) ∷ append 2 0 (8 ∷ []) ∷ commit 2 ∷ []) totals_left (totals 0
    ∷ [])
    ∷ case (made 1) (begin ∷ begin ∷ append 1 0 (4 ∷ []) ∷ append 2 0 (8 ∷ []) ∷ commit 2 ∷ rollback 1 ∷ []) totals_left
    (totals 8 ∷ [])
    ∷ case (made 1) (begin ∷ append 1 0 (4 ∷ []) ∷ commit 1 ∷ begin ∷ clear 2 0 ∷ append 2 0 (6 ∷ []) ∷ []) totals_left
    (totals 4 ∷ [])
    ∷ case (made 1) (begin ∷ append 1 0 (4 ∷ []) ∷ commit 1 ∷ begin ∷ clear 2 0 ∷ append 2 0 (6 ∷ []) ∷ commit 2
    ∷ advance_lse 0 ∷ purge 0 ∷ []) totals_left (totals 6 ∷ [])
    -- a total that is not the sum is unsound, so a shown row whose low bits are others; high bits, a row of an open
    -- transaction, a hidden one, one behind the rows in use, and two shown rows swapped are not
    ∷ case (totals_spoilt (13 ∷ [])) [] (lines_of (begin ∷ [])) (only 5 ∷ [])
    ∷ case (totals_spoilt (12 ∷ 1 ∷ [])) [] (lines_of (begin ∷ [])) (only 5 ∷ [])
    ∷ case (rows_spoilt 0 (4294967302 ∷ [])) [] (lines_of (begin ∷ [])) (only 5 ∷ [])
    ∷ case (rows_spoilt 0 (8589934597 ∷ [])) [] (lines_of (begin ∷ [])) (ok 3 ∷ [])
    ∷ case (rows_spoilt 0 (7 ∷ 5 ∷ 10 ∷ 1 ∷ [])) [] (lines_of (begin ∷ [])) (ok 3 ∷ [])
    ∷ case (rows_spoilt 512 (8 ∷ [])) [] (lines_of (begin ∷ [])) (ok 3 ∷ [])
    -- a ticket is not used again
    ∷ case (made 1) (begin_ro 0 ∷ end_ro 1 ∷ []) (lines_of (begin_ro 0 ∷ end_ro 1 ∷ [])) (ok 2 ∷ only 2 ∷ [])
    ∷ []

edges-pass : IsTrue (passes edges)
unfolding agree alike observed edges gap weighed rows_spoilt totals_spoilt totals case look closed ok only last_epoch
edges-pass = yes

pub edges_hold : map observed edges ≡ map (λ c. c.expected) edges
edges_hold = table-holds edges edges-pass

-- ---- the order of the refusals: each neighbouring pair of each call, both of which hold

-- LSE above LCE
unfoldable pub spoilt : Store → Store
spoilt st = with_manager (with_clock (with_lse (suc (manager_of st).clock.lce) (manager_of st).clock) (manager_of st))
    st

-- no ticket is left
ticketless : Store → Store
ticketless st = with_manager (with_readers (readers_of (manager_of st)) (suc last_ticket) (manager_of st)) st

-- n transactions are open, up to the last epoch
crowd : ℕ → List Writer
crowd zero = []
crowd (suc n) = writer (last_epoch - n) 0 [] ∷ crowd n

crowded : ℕ → Store → Store
crowded n st =
    with_manager (with_writers (crowd n) (with_clock (with_ec (suc last_epoch) (manager_of st).clock)
    (manager_of st))) st

-- partition 0 has n entries, of transactions 2 and 1 in turn; laid at once, which a case computes faster than appends
turns : ℕ → List Span
turns zero = []
turns (suc n) = record { epoch = suc (n % 2); mark = 0; words = n ∷ [] } ∷ turns n

filled : ℕ → Store → Store
filled n st = laid_in_place 0 (turns n) st

pub order : List Case
order =
    case (spoilt (made 1)) [] (lines_of (append 1 8 [] ∷ clear 1 8 ∷ scan (Rw 1) 8 [] ∷ purge 8 ∷ [])) (only 5 ∷
    only 5 ∷ only 5 ∷ only 5 ∷ [])
    ∷ case (spoilt (made 1)) [] (lines_of (commit 1 ∷ rollback 1 ∷ end_ro 1 ∷ begin_ro 9 ∷ advance_lse 9 ∷ []))
    (only 5 ∷ only 5 ∷ only 5 ∷ only 5 ∷ only 5 ∷ [])
    ∷ case (spoilt (run (begin ∷ []) (made last_epoch))) [] (lines_of (begin ∷ [])) (only 5 ∷ [])
    -- a partition of 64 entries; an append that joins the last and a batch of no rows need none, any other needs one,
    -- and so does a clearing
    ∷ case (filled 62 (run (begin ∷ begin ∷ []) (made 1))) (append 2 0 (7 ∷ []) ∷ append 1 0 (7 ∷ []) ∷ [])
    (lines_of (append 9 8 [] ∷ clear 9 8 ∷ scan (Rw 9) 8 []
    ∷ append 9 0 (replicate 513 7) ∷ clear 9 0 ∷ scan (Ro 9) 0 []
    ∷ append 2 0 (replicate 449 7) ∷ append 2 0 (replicate 448 7)
    ∷ append 1 0 (5 ∷ []) ∷ append 2 0 [] ∷ append 2 0 (5 ∷ []) ∷ clear 1 0 ∷ []))
    (only 1 ∷ only 1 ∷ only 1 ∷ only 2 ∷ only 2 ∷ only 2 ∷ only 8 ∷ only 9 ∷ ok 65 ∷ ok 65 ∷ only 9 ∷ only 9 ∷ [])
    ∷ case (crowded 32 (made (last_epoch - 31))) [] (lines_of (begin ∷ [])) (only 6 ∷ [])
    ∷ case (ticketless (made 1)) [] (lines_of (begin_ro 9 ∷ begin_ro 0 ∷ [])) (only 4 ∷ only 6 ∷ [])
    ∷ case (ticketless (run (replicate 32 (begin_ro 0)) (made 1))) [] (lines_of (begin_ro 0 ∷ [])) (only 6 ∷ [])
    ∷ case (made 1) (begin ∷ begin_ro 0 ∷ commit 1 ∷ []) (lines_of (advance_lse 2 ∷ advance_lse 1 ∷ [])) (only 4 ∷ only
    10 ∷ [])
    ∷ []

order-passes : IsTrue (passes order)
unfolding agree alike observed order spoilt ticketless crowded crowd filled turns case ok only last_epoch last_ticket
    laid_in_place laid words_of entries_of
order-passes = yes

pub order-holds : map observed order ≡ map (λ c. c.expected) order
order-holds = table-holds order order-passes
