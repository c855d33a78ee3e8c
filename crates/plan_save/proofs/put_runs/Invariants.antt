-- The runs left, put behind what is put so far, leave what all do. Assumes nothing.
use Rattle.std.proofs.Common.{◌≡◌, drop}
use mathlib.Core.List.{foldl}
use Rattle.plan_save.specs.Runs.{runs_in}
use Rattle.plan_save.specs.Save.{put_to, run_put}
use Rattle.plan_save.proofs.put_runs.Given as goal

abbrev pub invariant-loop-w : goal.invariant-loop-w
invariant-loop-w l =
    foldl (run_put l.base l.rows) (put_to l.at l.out) (runs_in (drop l.w-index l.ws))
    ≡ foldl (run_put l.base l.rows) (put_to l.fn.start l.fn.out) (runs_in l.ws)
