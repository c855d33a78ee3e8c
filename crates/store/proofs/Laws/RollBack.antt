-- What a roll back leaves is what step leaves. Definitions: specs/Kept.antt `roll_back_kept`, `rest_kept`,
-- specs/Done.antt.
-- In order: the areas and partitions after it; the totals; the call.
-- Assumes nothing.
use mathlib.Core.Path.{◌≡◌, refl, sym, ap, ◌∙◌}
use mathlib.Core.Bool.{Bool, true, false}
use mathlib.Core.List.{List}
use Prim.Native.Nat.{ℕ, ◌≤◌, ◌<◌}
use lib.ListN.{length}
use Rattle.lists.proofs.Laws.Bools.{split, and_left, and_right}
use Rattle.rules.specs.Store.{Store, spans_at, total_at, totals_of}
use Rattle.rules.specs.Store.{state_of, with_partitions_in, with_manager, rolled_back_below}
use Rattle.rules.specs.Manager.{Manager, manager_in, writers_of, has_open}
use Rattle.rules.specs.Limits.{partitions_max}
use Rattle.rules.specs.Close.{dropped_txns, settled, rolled_back_manager}
use Rattle.rules.specs.Rewrite.{rolled_back}
use Rattle.rules.specs.Weight.{total}
use Rattle.rules.specs.Answers.{accepted}
use Rattle.rules.specs.WellFormed.{sound, manager_ok}
use Rattle.rules.specs.Calls.{close_answer}
use Rattle.rules.specs.Step.{step, rollback}
use Rattle.rules.specs.declared.Entry.{Entry}
use Rattle.rules.specs.declared.Kept.{Kept}
use Rattle.rules.specs.declared.Partitions.{Partitions}
use Rattle.rules.specs.declared.State.{State}
use Rattle.laws.proofs.Laws.Calls.{close_passed}
use Rattle.laws.proofs.Laws.Close.{settled-rises}
use Rattle.laws.proofs.Laws.Epochs.{has_open-range}
use Rattle.laws.proofs.Laws.Store.{spans_with-manager, rollback-spans}
use Rattle.laws.proofs.Laws.Totals.{SoundOk, sound-facts, totals-by}
use Rattle.txn_close.specs.Close.{lce_after}
use Rattle.txn_close.proofs.Laws.Close.{lce-after}
use Rattle.partition_sound.specs.Asked.{asked_for}
use Rattle.partition_sound.specs.Rest.{landed_below, rest_found}
use Rattle.partition_sound.specs.declared.Verdict.{Verdict}
use Rattle.partition_sound.proofs.Laws.Lands.{lands-rollback}
use Rattle.undo.specs.Lots.{rolling_of, rolled_lots}
use Rattle.undo.proofs.Laws.Lots.{lots_rolled, lots-left}
use Rattle.store.specs.Kept.{store_of, Left, roll_back_kept, records_of, asked_roll_back, rest_kept}
use Rattle.store.specs.Done.{done_rewrite}
use Rattle.store.proofs.Laws.Kept.{rest_in, sound-is, rest_for}

-- what the lots' part leaves of lent areas and partitions
abbrev pub Rolls : List Entry → List ℕ → Partitions → ℕ → Bool → Partitions → List Entry → List ℕ → Type 0
Rolls es rs ps i go ps' es' rs' = rolling_of es' rs' ps' ≡ rolled_lots go i (rolling_of es rs ps)

module _ (s : State) (n : length s.partitions.at ≡ partitions_max) (n' : length s.totals ≡ partitions_max)
    (es : List Entry) (rs : List ℕ) (i : ℕ) where
  abbrev st : Store
  st = store_of s rs es

  abbrev m : Manager
  m = manager_in s

  abbrev next : Manager
  next = rolled_back_manager i m

  -- what the lots' test finds, and the manager's part, with the totals of what lands
  abbrev found : Verdict
  found = rest_found es rs (asked_roll_back s.clock s.writers s.partitions s.totals i)

  abbrev pub rolls_back : Kept
  rolls_back = rest_kept (roll_back_kept s found.ok i) found

  rises : m.clock.lce ≤ next.clock.lce
  unfolding rolled_back_manager settled
  rises = settled-rises m.clock.lce (dropped_txns i (writers_of m))

  at_left : SoundOk st → (p : ℕ) → p < partitions_max
      → total_at p (with_manager next (rolled_back_below i partitions_max st))
      ≡ total next.clock.lce (rolled_back i (spans_at p st))
  unfolding total_at
  at_left ok p l = ap (total next.clock.lce) (spans_with-manager next p (rolled_back_below i partitions_max st)
      ∙ rollback-spans i st ok.shape p l)

  -- they are those worked out afresh of the partitions that are left
  fresh : SoundOk st → rest_in s es rs ≡ true → manager_ok m ≡ true → has_open i m ≡ true
      → found.totals ≡ totals_of (with_manager next (rolled_back_below i partitions_max st))
  fresh ok f g o = let h = next.clock.lce in
      ap (λ k. (landed_below es rs (asked_for s.clock s.writers s.partitions s.totals k i) partitions_max
      ).totals) (lce-after false i s g)
      ∙ (lands-rollback st ok n n' h rises i (has_open-range m ok.shape.manager i o).0 (rest_for s es rs h i ∙ f)
      ∙ sym (totals-by (with_manager next (rolled_back_below i partitions_max st))
      (λ p. total h (rolled_back i (spans_at p st))) (at_left ok)))

  module _ (ps' : Partitions) (es' : List Entry) (rs' : List ℕ) where
    pub roll-back-left : Rolls es rs s.partitions i (accepted rolls_back.answer) ps' es' rs'
        → Left (step (rollback i) st) (done_rewrite rolls_back.state ps' rolls_back.answer) rs' es'
    unfolding step
    roll-back-left rel =
        let a = close_answer i (sound st) m next in
        let high = lce_after false i s.clock.lce (records_of s.writers) in
        let r = rw (rest_for s es rs high i, sound-is s es rs) at rel in
        rw (rest_for s es rs high i, sound-is s es rs) (split (accepted a)
        (λ t. let k = close_passed i (sound st) m next t in let ok = sound-facts st n k.sound in
        let y = sound-is s es rs ∙ k.sound in
        let e = (rw t at r) ∙ lots_rolled i st ok.shape in
        let f = fresh ok (and_left (rest_in s es rs) (manager_ok m) y) (and_right (rest_in s es rs) (manager_ok m) y)
        k.pending in
        rw t (refl, λ j. store_of (state_of next (e j).places (f j)) (e j).rows (e j).entries))
        (λ f. let e = (rw f at r) ∙ lots-left i (rolling_of es rs s.partitions) in
        rw f (refl, λ j. store_of (with_partitions_in (e j).places s) (e j).rows (e j).entries)))
