-- What purge decides by value. 01 "Lots", Purge.
-- In order: a rewrite, a partition, purge. Laws: store/proofs/Laws/Purge.antt.
-- Assumes nothing.
use Rattle.std.specs.Prelude.{Bool, ◌&&◌, cond, ℕ, Result, Ok, Err}
use Rattle.rules.specs.Manager.{manager_in}
use Rattle.rules.specs.Rewrite.{skips}
use Rattle.rules.specs.WellFormed.{manager_ok}
use Rattle.rules.specs.declared.Partition.{Partition}
use Rattle.rules.specs.declared.Refusal.{Refusal}
use Rattle.rules.specs.declared.State.{State}
use Rattle.rewrite_plan.specs.Plan.{spans_in, plan_of, purge_epochs}
use Rattle.rewrite.specs.Kept.{rewritten_of}
use Rattle.rewrite.specs.Move.{move_to_spare}
use Rattle.area.specs.declared.Area.{Area}
use Rattle.rewrite_plan.specs.declared.Plan.{Plan}
use Rattle.admit.specs.Admit.{admitted, by_admission}
use Rattle.plan_purge.specs.declared.Purge.{Purge}
use Rattle.plan_purge.specs.declared.Purge.TheVariants.{Skip, Rewrite}

abbrev pub plan_at : ℕ → Area → Plan
plan_at l a = plan_of (purge_epochs l (spans_in a) (spans_in a))

-- partition p, which is q with the entries of area a, purged at l into the spare area
abbrev pub rewrite_at : Area → ℕ → ℕ → ℕ → Partition → Purge
rewrite_at a spare l p q =
    let done = rewritten_of a (plan_at l a) in
    Rewrite p done.rows (move_to_spare a (plan_at l a) done.area q.area spare)

-- partition p, which is q with the entries of area a: skipped or rewritten
abbrev pub purge_at : Area → ℕ → ℕ → ℕ → Partition → Purge
purge_at a spare l p q = cond (skips l (spans_in a)) (Skip q.rows) (rewrite_at a spare l p q)

-- 01's order: 5, 1
unfoldable pub purge_plan : State → Bool → Area → ℕ → Result Purge Refusal
purge_plan s rest a p =
    by_admission Err (λ q. Ok (purge_at a s.partitions.spare s.clock.lse p q))
    (admitted (rest && manager_ok (manager_in s)) s.partitions p)
