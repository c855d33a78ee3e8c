-- Cases 1 to 12 of 01 "Marked for proof": one table, one theorem. Each starts from a store made new at 1.
-- Assumes nothing.
use mathlib.Core.Path.{◌≡◌}
use mathlib.Core.List.{List, [], ◌∷◌, ◌++◌, map}
use Prim.Native.Nat.{ℕ}
use lib.ListN.{replicate}
use Rattle.rules.specs.Step.{Call, begin, append, clear, commit, begin_ro, advance_lse, purge, run}
use Rattle.rules.specs.Store.{Store}
use Rattle.rules.specs.declared.Reader.TheVariants.{Ro}
use Rattle.rules.proofs.Look.{made, Look, lines_of, bits_to, entries_in, Case, observed, alike, agree}
use Rattle.rules.proofs.Look.{IsTrue, yes, passes, table-holds}

-- transactions 1 to 8 are begun, write, and commit
written : List Call → Store
written cs = run (replicate 8 begin ++ cs ++ map commit (1 ∷ 2 ∷ 3 ∷ 4 ∷ 5 ∷ 6 ∷ 7 ∷ 8 ∷ [])) (made 1)

-- 004, table III a: 2 rows by 1, 2 by 3, 1 by 1, a delete by 5, 3 by 3, 1 by 7
table_a : List Call
table_a =
    append 1 0 (11 ∷ 12 ∷ []) ∷ append 3 0 (31 ∷ 32 ∷ []) ∷ append 1 0 (13 ∷ []) ∷ clear 5 0
    ∷ append 3 0 (33 ∷ 34 ∷ 35 ∷ []) ∷ append 7 0 (71 ∷ []) ∷ []

-- 004, table III b: 2 by 1, 2 by 3, 1 by 1, a delete by 3, 3 by 1, 3 by 3, 2 by 1
table_b : List Call
table_b =
    append 1 0 (11 ∷ 12 ∷ []) ∷ append 3 0 (31 ∷ 32 ∷ []) ∷ append 1 0 (13 ∷ []) ∷ clear 3 0
    ∷ append 1 0 (14 ∷ 15 ∷ 16 ∷ []) ∷ append 3 0 (33 ∷ 34 ∷ 35 ∷ []) ∷ append 1 0 (17 ∷ 18 ∷ []) ∷ []

from : Store → List Call → Look → List (List ℕ) → Case
from st cs l e = record { start = st; calls = cs; look = l; expected = e }

-- the bits that a read-only transaction at e is shown
snapshot_at : ℕ → Store → List ℕ → Case
snapshot_at e st bits = from st (begin_ro e ∷ []) (bits_to (Ro 1) 0) (bits ∷ [])

-- the entries (epoch, end, mark) after a purge at l
purged_at : ℕ → Store → List (List ℕ) → Case
purged_at l st es = from st (advance_lse l ∷ purge 0 ∷ []) (entries_in 0) es

pub cases : List Case
cases =
    let a = written table_a in
    let b = written table_b in
    -- 1 to 4
    snapshot_at 2 a (1 ∷ 1 ∷ 0 ∷ 0 ∷ 1 ∷ 0 ∷ 0 ∷ 0 ∷ 0 ∷ [])
    ∷ snapshot_at 4 a (1 ∷ 1 ∷ 1 ∷ 1 ∷ 1 ∷ 1 ∷ 1 ∷ 1 ∷ 0 ∷ [])
    ∷ snapshot_at 6 a (0 ∷ 0 ∷ 0 ∷ 0 ∷ 0 ∷ 0 ∷ 0 ∷ 0 ∷ 0 ∷ [])
    ∷ snapshot_at 8 a (0 ∷ 0 ∷ 0 ∷ 0 ∷ 0 ∷ 0 ∷ 0 ∷ 0 ∷ 1 ∷ [])
    -- 5 to 8
    ∷ snapshot_at 2 b (1 ∷ 1 ∷ 0 ∷ 0 ∷ 1 ∷ 1 ∷ 1 ∷ 1 ∷ 0 ∷ 0 ∷ 0 ∷ 1 ∷ 1 ∷ [])
    ∷ snapshot_at 4 b (0 ∷ 0 ∷ 0 ∷ 0 ∷ 0 ∷ 0 ∷ 0 ∷ 0 ∷ 1 ∷ 1 ∷ 1 ∷ 0 ∷ 0 ∷ [])
    ∷ snapshot_at 6 b (0 ∷ 0 ∷ 0 ∷ 0 ∷ 0 ∷ 0 ∷ 0 ∷ 0 ∷ 1 ∷ 1 ∷ 1 ∷ 0 ∷ 0 ∷ [])
    ∷ snapshot_at 8 b (0 ∷ 0 ∷ 0 ∷ 0 ∷ 0 ∷ 0 ∷ 0 ∷ 0 ∷ 1 ∷ 1 ∷ 1 ∷ 0 ∷ 0 ∷ [])
    -- 9, 10
    ∷ purged_at 3 a ((3 ∷ 5 ∷ 0 ∷ []) ∷ (5 ∷ 5 ∷ 1 ∷ []) ∷ (3 ∷ 8 ∷ 0 ∷ []) ∷ (7 ∷ 9 ∷ 0 ∷ []) ∷ [])
    ∷ purged_at 5 a ((7 ∷ 1 ∷ 0 ∷ []) ∷ [])
    -- 11 (004, table I): LCE 1, 1, 3; the oldest open one 2, 2, none
    ∷ from (made 1) (begin ∷ begin ∷ begin ∷ []) (lines_of (commit 1 ∷ commit 3 ∷ commit 2 ∷ []))
    ((0 ∷ 1 ∷ 2 ∷ []) ∷ (0 ∷ 1 ∷ 2 ∷ []) ∷ (0 ∷ 3 ∷ 0 ∷ []) ∷ [])
    -- 12: target 1 is held while 2 is open
    ∷ from (made 1) (begin ∷ begin ∷ commit 1 ∷ []) (lines_of (advance_lse 1 ∷ commit 2 ∷ advance_lse 1 ∷ []))
    ((10 ∷ []) ∷ (0 ∷ 2 ∷ 0 ∷ []) ∷ (0 ∷ 1 ∷ []) ∷ [])
    ∷ []

cases-pass : IsTrue (passes cases)
unfolding agree alike observed cases from snapshot_at purged_at written table_a table_b
cases-pass = yes

pub cases_hold : map observed cases ≡ map (λ c. c.expected) cases
cases_hold = table-holds cases cases-pass
