-- Saved rounds at the edges, by computing. 02 (v).
-- In order: a file; rounds_hold: what a save writes and refuses, what recovery makes of a file, 11, the order of the
-- refusals; cuts_hold: every cut of the file.
-- Assumes nothing.
use mathlib.Core.Path.{◌≡◌, refl}
use mathlib.Core.List.{List, [], ◌∷◌, ◌++◌, map}
use Prim.Native.Nat.{ℕ, zero, suc}
use lib.ListN.{take, replicate}
use Rattle.lists.specs.Lists.{gather}
use Rattle.rules.specs.Limits.{last_epoch}
use Rattle.rules.specs.Checkpoint.{bytes_of, number_of, numbers_in, rows_in, header_ok, last_from, saved_in}
use Rattle.rules.specs.Store.{Store}
use Rattle.rules.specs.Step.{Call, begin, append, clear, commit, begin_ro, advance_lse, scan, save, recover}
use Rattle.rules.specs.Step.{run}
use Rattle.rules.specs.declared.Reader.TheVariants.{Ro}
use Rattle.rules.proofs.Look.{made, lines_of, saved_to, entries_in, totals_left, Case, observed, alike, agree}
use Rattle.rules.proofs.Look.{agree-eq, IsTrue, yes, passes, table-holds}
use Rattle.rules.proofs.Edges.{only, ok, case, spoilt}

-- ---- files

-- a table of contents: the epoch and the counts of eight lots
unfoldable pub contents : ℕ → List ℕ → List ℕ
contents e counts = bytes_of 8 e ++ gather (bytes_of 2) counts

unfoldable pub rows : List ℕ → List ℕ
rows ws = gather (bytes_of 8) ws

-- a round: its table of contents, and the rows of all lots
unfoldable pub round : ℕ → List ℕ → List ℕ → List ℕ
round e counts ws = contents e counts ++ rows ws

-- of 40 bytes each: two rows at 1; a row of lot 0 and one of lot 5 at 3
unfoldable pub file : List ℕ
file = round 1 (2 ∷ replicate 7 0) (10 ∷ 11 ∷ []) ++ round 3 (1 ∷ 0 ∷ 0 ∷ 0 ∷ 0 ∷ 1 ∷ 0 ∷ 0 ∷ []) (20 ∷ 21 ∷ [])

-- ---- stores

-- load 1 is committed, with rows in lots 0 and 7; load 2 is open and appended to lot 0
busy : Store
busy =
    run (begin ∷ append 1 0 (10 ∷ 11 ∷ []) ∷ append 1 7 (18446744073709551615 ∷ []) ∷ begin ∷ append 2 0 (20 ∷ [])
    ∷ commit 1 ∷ []) (made 1)

-- what busy saves at 1
saved : List ℕ
saved = round 1 (2 ∷ 0 ∷ 0 ∷ 0 ∷ 0 ∷ 0 ∷ 0 ∷ 1 ∷ []) (10 ∷ 11 ∷ 18446744073709551615 ∷ [])

shorter : Store → Store
shorter st = record { state = st.state; rows = 0 ∷ st.rows; entries = st.entries }

-- recovery of the first n bytes, and begin, which answers L + 1
cut : ℕ → List Call
cut n = recover (take n file) ∷ begin ∷ []

look : ℕ → Call
look p = scan (Ro 1) p (replicate 64 0)

pub rounds : List Case
rounds =
    -- 24 bytes and 8 a row, low byte first; just enough is accepted, later bytes stay, one less is 3 and writes nothing
    case busy [] (saved_to 1 (replicate 50 170)) (ok 48 ∷ (saved ++ replicate 2 170) ∷ [])
    ∷ case busy [] (saved_to 1 (replicate 48 170)) (ok 48 ∷ saved ∷ [])
    ∷ case busy [] (saved_to 1 (replicate 47 170)) ((3 ∷ 0 ∷ []) ∷ replicate 47 170 ∷ [])
    -- LSE to LCE, where 0 is epoch 0: it has no rows, and is 4 once LSE lies above it
    ∷ case busy [] (saved_to 0 (replicate 24 170)) (ok 24 ∷ replicate 24 0 ∷ [])
    ∷ case busy [] (lines_of (save 2 [] ∷ advance_lse 1 ∷ [])) (only 4 ∷ only 10 ∷ [])
    ∷ case busy (commit 2 ∷ advance_lse 2 ∷ []) (lines_of (save 0 [] ∷ save 1 [] ∷ save 3 [] ∷ save 2 [] ∷ []))
    (only 4 ∷ only 4 ∷ only 4 ∷ only 3 ∷ [])
    -- a clearing that the page applies takes rows out of the round; the store is as it was
    ∷ case (made 1) (begin ∷ append 1 0 (5 ∷ []) ∷ commit 1 ∷ begin ∷ clear 2 0 ∷ append 2 0 (6 ∷ []) ∷ commit 2 ∷ [])
    (saved_to 2 (replicate 32 0)) (ok 32 ∷ round 2 (1 ∷ replicate 7 0) (6 ∷ []) ∷ [])
    ∷ case busy (save 1 (replicate 48 0) ∷ []) (lines_of (append 2 0 (7 ∷ []) ∷ [])) (ok 4 ∷ [])
    -- recovery: no load, no page, the next ticket 1; load L is committed, and its rows are the first of each lot
    ∷ case busy (recover saved ∷ [])
    (lines_of (append 2 0 [] ∷ begin_ro 0 ∷ look 0 ∷ look 7 ∷ look 1 ∷ begin_ro 2 ∷ begin ∷ append 2 0 (12 ∷ []) ∷ []))
    (only 2 ∷ ok 1 ∷ (0 ∷ 10 ∷ 11 ∷ []) ∷ (0 ∷ 18446744073709551615 ∷ []) ∷ only 0 ∷ only 4 ∷ ok 2 ∷ ok 3 ∷ [])
    ∷ case busy (recover saved ∷ []) (entries_in 0) ((1 ∷ 2 ∷ 0 ∷ []) ∷ [])
    ∷ case busy (recover saved ∷ []) (entries_in 1) []
    ∷ case busy (recover saved ∷ []) totals_left ((21 ∷ 0 ∷ 0 ∷ 0 ∷ 0 ∷ 0 ∷ 0 ∷ 4294967295 ∷ []) ∷ [])
    -- a cut: the last whole round, or the store made new at 1
    ∷ case (made 9) [] (lines_of (cut 0 ++ (cut 39 ++ (cut 40 ++ (cut 79 ++ cut 80)))))
    (only 0 ∷ ok 1 ∷ only 0 ∷ ok 1 ∷ only 0 ∷ ok 2 ∷ only 0 ∷ ok 2 ∷ only 0 ∷ ok 4 ∷ [])
    -- 11: a count above 512, L above the last epoch, L below the round before, L = 0 with rows
    ∷ case busy []
    (lines_of (recover (contents 1 (512 ∷ replicate 7 0)) ∷ recover (contents 1 (replicate 7 0 ++ (513 ∷ [])))
    ∷ recover (contents last_epoch (replicate 8 0)) ∷ begin ∷ recover (contents (suc last_epoch) (replicate 8 0))
    ∷ recover (file ++ round 3 (replicate 8 0) []) ∷ recover (file ++ contents 2 (replicate 8 0))
    ∷ recover (contents 0 (replicate 8 0)) ∷ begin ∷ recover (contents 0 (1 ∷ replicate 7 0)) ∷ []))
    (only 0 ∷ only 11 ∷ only 0 ∷ only 6 ∷ only 11 ∷ only 0 ∷ only 11 ∷ only 0 ∷ ok 1 ∷ only 11 ∷ [])
    -- it refuses the whole file, and nothing changes; a table of contents that is cut is not judged
    ∷ case busy (recover (file ++ contents 2 (replicate 8 0)) ∷ []) (lines_of (append 2 0 [] ∷ [])) (ok 3 ∷ [])
    ∷ case busy [] (lines_of (recover (file ++ take 23 (contents 2 (replicate 8 0))) ∷ begin ∷ [])) (only 0 ∷ ok 4 ∷ [])
    -- the order of the refusals; recovery reads no books
    ∷ case (spoilt busy) [] (lines_of (save 9 [] ∷ recover saved ∷ begin_ro 0 ∷ [])) (only 5 ∷ only 0 ∷ ok 1 ∷ [])
    ∷ case (shorter busy) [] (lines_of (save 1 [] ∷ recover (contents 0 (replicate 8 1)) ∷ [])) (only 5 ∷ only 5 ∷ [])
    ∷ case busy [] (lines_of (save 2 [] ∷ save 1 [] ∷ [])) (only 4 ∷ only 3 ∷ [])
    ∷ []

rounds-pass : IsTrue (passes rounds)
unfolding agree alike observed rounds contents rows round file busy saved shorter cut look case spoilt ok
    only last_epoch bytes_of
rounds-pass = yes

pub rounds_hold : map observed rounds ≡ map (λ c. c.expected) rounds
rounds_hold = table-holds rounds rounds-pass

-- ---- every cut of the file, the longest first: the epoch and the rows of its last whole round

unfoldable pub cuts_to : ℕ → List (List (List ℕ))
cuts_to zero = []
cuts_to (suc n) = (((saved_in (take n file)).epoch ∷ []) ∷ (saved_in (take n file)).rows) ∷ cuts_to n

unfoldable pub none : List (List ℕ)
none = replicate 7 []

pub cuts_hold : cuts_to 81
    ≡ (((3 ∷ []) ∷ (20 ∷ []) ∷ [] ∷ [] ∷ [] ∷ [] ∷ (21 ∷ []) ∷ [] ∷ [] ∷ []) ∷ [])
    ++ (replicate 40 ((1 ∷ []) ∷ (10 ∷ 11 ∷ []) ∷ none) ++ replicate 40 ((0 ∷ []) ∷ [] ∷ none))
unfolding agree alike cuts_to none file round rows contents last_epoch bytes_of number_of numbers_in rows_in header_ok
    last_from
cuts_hold = agree-eq _ _ refl
