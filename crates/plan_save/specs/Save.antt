-- What a save decides by value. 02 (v).
-- In order: where the partitions' rows begin, their sizes, the plan of a save, the bytes written. Laws:
-- proofs/Laws/Written.antt, proofs/Laws/Planned.antt, and recovery/proofs/Laws/Save.antt.
-- Assumes nothing.
use Rattle.std.specs.Prelude.{Bool, Result, Ok, Err, not, ◌&&◌, cond, ℕ, zero, suc, ◌+◌, ◌-◌, ◌*◌, get_or, ltb, eqb}
use mathlib.Core.List.{List, foldl, map}
use Rattle.rules.specs.Limits.{rows_max, areas_max, partitions_max}
use Rattle.rules.specs.Manager.{manager_in}
use Rattle.rules.specs.WellFormed.{manager_ok}
use Rattle.rules.specs.Calls.{within}
use Rattle.rules.specs.Checkpoint.{header_size, sum_of, body_size}
use Rattle.rules.specs.Store.{partition_numbers}
use Rattle.rules.specs.declared.Partitions.{Partitions}
use Rattle.rules.specs.declared.Refusal.{Refusal}
use Rattle.rules.specs.declared.Refusal.TheVariants.{ShortOutput, OutOfRange, Unsound}
use Rattle.rules.specs.declared.State.{State}
use Rattle.area.specs.Area.{base_of}
use Rattle.area.specs.Load.{partition_in}
use Rattle.checkpoint.specs.Rows.{header_put, rows_put, after_rows}
use Rattle.plan_save.specs.Runs.{Run, runs_in, words_at, counts_of}
use Rattle.plan_save.specs.declared.Save.{Save}
use Rattle.plan_save.specs.declared.Sizes.{Sizes}

unfoldable pub bases_of : Partitions → List ℕ
bases_of ps = map (λ p. base_of rows_max (partition_in ps p).area) partition_numbers

abbrev pub sizes_of : List ℕ → Sizes
sizes_of ws = record { counts = counts_of ws; rows = sum_of (counts_of ws) }

-- the bytes of a header and of the rows of runs
abbrev pub size_of_runs : List ℕ → ℕ
size_of_runs ws = header_size + body_size (counts_of ws)

abbrev pub accepted_save : Partitions → List ℕ → ℕ → Save
accepted_save ps ws e = record {
  epoch = e;
  counts = counts_of ws;
  bases = bases_of ps;
  at = ws;
  size = size_of_runs ws;
}

-- 01's order: 5, 4, 3; with the runs ws and k bytes lent
unfoldable pub save_plan : State → Bool → List ℕ → ℕ → ℕ → Result Save Refusal
save_plan s rest ws k e =
    cond (not (rest && manager_ok (manager_in s))) (Err Unsound)
    (cond (not (within s.clock.lse s.clock.lce e)) (Err OutOfRange)
    (cond (ltb k (size_of_runs ws)) (Err ShortOutput)
    (Ok (accepted_save s.partitions ws e))))

-- ---- the bytes written

-- the output, and where the next rows go
pub record Put : Type 0 where
  pub at : ℕ
  pub out : List ℕ

abbrev pub put_to : ℕ → List ℕ → Put
put_to at out = record { at = at; out = out }

-- the rows of a run, of a partition whose rows stand from row base on
abbrev pub run_put : ℕ → List ℕ → Put → Run → Put
run_put base rows x r = let n = r.end - r.from in
    put_to (after_rows x.at (base + r.from) n rows x.out) (rows_put x.at (base + r.from) n rows x.out)

-- of all its runs; nothing where base is past the rows that are lent
unfoldable pub runs_put : ℕ → List ℕ → List ℕ → Put → Put
runs_put base rows ws x = cond (ltb (rows_max * areas_max) base) x (foldl (run_put base rows) x (runs_in ws))

-- the partitions below p
unfoldable pub lots_put : List ℕ → List ℕ → List ℕ → Put → ℕ → Put
lots_put bases ws rows x zero = x
lots_put bases ws rows x (suc p) = runs_put (get_or bases p 0) rows (words_at ws p) (lots_put bases ws rows x p)

-- nothing of a plan of no bytes, which no save makes
unfoldable pub save_written : Save → List ℕ → List ℕ → List ℕ
save_written w rows out =
    cond (eqb w.size 0) out
    (lots_put w.bases w.at rows (put_to header_size (header_put w.epoch w.counts out)) partitions_max).out
