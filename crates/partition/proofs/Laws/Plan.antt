-- Laws of inRange, append_at, append_plan and clear_plan, case by case as code goes through them.
-- Definitions: specs/Append.antt.
-- Assumes nothing.
use mathlib.Core.Path.{◌≡◌}
use mathlib.Core.Bool.{true, false}
use Prim.Native.Nat.{ℕ, ◌*◌, ◌≤◌, ◌<◌}
use borrow.Author.Tests.{lt-ltb, le-leb, eq-eqb, ne_eqb}
use lib.Dec.{leb}
use Rattle.std.specs.Prelude.{Ok}
use Rattle.rules.specs.Limits.{areas_max, rows_max, entries_max}
use Rattle.rules.specs.declared.Entry.{Entry}
use Rattle.rules.specs.declared.Partition.{Partition}
use Rattle.partition.specs.Append.{in_range, where_room, stays, kept_in, append_at, append_plan}
use Rattle.partition.specs.Append.{placed, clear_plan}

-- ---- words in range

pub record Within (q : Partition) : Type 0 where
  pub area : q.area < areas_max
  pub rows : q.rows ≤ rows_max
  pub entries : q.entries ≤ entries_max

pub in_range-within : (q : Partition) → Within q → in_range q ≡ true
unfolding in_range
in_range-within q w = rw (lt-ltb q.area areas_max w.area, le-leb q.rows rows_max w.rows)
    (le-leb q.entries entries_max w.entries)

-- ---- append

module _ (last : Entry) (q : Partition) (i k : ℕ) where
  module _ (t : in_range q ≡ true) where
    pub append_plan-none : k ≡ 0 → append_plan last q i k ≡ Ok (stays q)
    unfolding append_plan
    append_plan-none h = rw (t, eq-eqb k 0 h)

    module _ (some : k ≡ 0 → ⊥) where
      pub append_plan-kept : append_plan last q i k ≡ append_at (kept_in last q i) q i k
      unfolding append_plan
      append_plan-kept = rw (t, ne_eqb k 0 some)

-- ---- clear

module _ (q : Partition) (i : ℕ) where
  module _ (t : in_range q ≡ true) where
    pub clear_plan-within : clear_plan q i ≡ where_room false (leb entries_max q.entries)
        (placed q.entries q (rows_max * areas_max) (record { epoch = i; end = q.rows; mark = 1 }))
    unfolding clear_plan
    clear_plan-within = rw t
