-- Of a sound store the plan of an accepted save holds what a read-only transaction (01: page) is shown, and writes the
-- checkpoint (02: round) of it. Definitions: specs/Save.antt; rules/specs/Recovery.antt.
-- In order: where the partitions' rows stand; plan-size, plan_writes.
-- Elsewhere: it is what step leaves (recovery/proofs/Laws/Save.antt).
-- Assumes nothing.
use mathlib.Core.Path.{◌≡◌, refl, ◌∙◌, ap}
use mathlib.Core.List.{List, [], ◌∷◌}
use Prim.Native.Nat.{ℕ, ◌+◌, ◌*◌, ◌≤◌, ◌<◌}
use native.Mathlib.Omega.{arith}
use lib.ListN.{length, get_or}
use borrow.Author.Tests.{lt-ltb}
use Rattle.lists.specs.Lists.{gather}
use Rattle.lists.proofs.Laws.Select.{gather_append}
use Rattle.rules.specs.Limits.{rows_max, areas_max, partitions_max}
use Rattle.rules.specs.Checkpoint.{bytes_of, Checkpoint, encoded, body_size}
use Rattle.rules.specs.Store.{Store, partition_at, partition_numbers}
use Rattle.rules.specs.Recovery.{shown_at, checkpoint_at}
use Rattle.rules.specs.Step.{saved_over}
use Rattle.rules.specs.declared.Partitions.{Partitions}
use Rattle.laws.proofs.Laws.Checkpoint.{bodies_of, length-encoded}
use Rattle.laws.proofs.Laws.WellFormed.{StoreOk}
use Rattle.area.specs.Area.{base_of}
use Rattle.area.specs.Load.{partition_in}
use Rattle.partition_sound.specs.declared.Verdict.{Verdict}
use Rattle.plan_save.specs.Runs.{runs_in, runs_of, words_at}
use Rattle.plan_save.specs.Save.{bases_of, size_of_runs, accepted_save, save_written}
use Rattle.laws.proofs.Laws.Each.{each_at}
use Rattle.plan_save.proofs.Laws.Joined.{run_rows}
use Rattle.plan_save.proofs.Laws.Shown.{WholeShown, runs-ok, rows_at, counts-are}
use Rattle.plan_save.proofs.Laws.Written.{written}

gather-gather : {A B C : Type 0} (f : B → List C) (g : A → List B) (xs : List A)
    → gather f (gather g xs) ≡ gather (λ x. gather f (g x)) xs
gather-gather f g [] = refl
gather-gather f g (x ∷ xs) = gather_append f (g x) (gather g xs) ∙ rw (gather-gather f g xs)

module _ (st : Store) (ok : StoreOk st) (v : Verdict) (e : ℕ) (whole : WholeShown st v e) where
  abbrev ps : Partitions
  ps = st.state.partitions

  abbrev ws : List ℕ
  ws = (runs_of st.entries ps v e).at

  abbrev c : Checkpoint
  c = checkpoint_at e st

  eight : length c.rows ≡ partitions_max
  unfolding checkpoint_at
  eight = refl

  epoch-same : e ≡ c.epoch
  unfolding checkpoint_at
  epoch-same = refl

  base-at : (i : ℕ) → i < partitions_max → get_or (bases_of ps) i 0 ≡ rows_max * (partition_at i st).area
  unfolding bases_of
  base-at i h = each_at 0 (λ p. base_of rows_max (partition_in ps p).area) i h
      ∙ rw (lt-ltb (partition_at i st).area areas_max (ok.areas.inside i h))

  there : (i : ℕ) → i < partitions_max → get_or (bases_of ps) i 0 + rows_max ≤ length st.rows
  there i h = let b = base-at i h in let a = ok.areas.inside i h in let l = ok.rows-length in omega arith

  holds : (i : ℕ) → i < partitions_max
      → gather (run_rows st.rows (get_or (bases_of ps) i 0)) (runs_in (words_at ws i)) ≡ shown_at e i st
  holds i h = rw (base-at i h) (rows_at st ok v e whole i h)

  bodies : gather (bytes_of 8) (gather (λ p. shown_at e p st) partition_numbers) ≡ bodies_of c
  unfolding checkpoint_at
  bodies = gather-gather (bytes_of 8) (λ p. shown_at e p st) partition_numbers

  pub plan-size : size_of_runs ws ≡ length (encoded c)
  plan-size = let n = length-encoded c eight in let s = ap body_size (counts-are st ok v e whole) in omega arith

  pub plan_writes : (out : List ℕ) → size_of_runs ws ≤ length out
      → save_written (accepted_save ps ws e) st.rows out ≡ saved_over c out
  plan_writes out room = written (accepted_save ps ws e) st.rows out c (λ p. shown_at e p st) eight epoch-same
      (counts-are st ok v e whole) there ok.rows-length (runs-ok st ok v e whole) holds bodies refl room
