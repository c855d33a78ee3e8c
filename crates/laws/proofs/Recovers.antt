-- Recovery of a cut file, of a file without a whole checkpoint (02: round), and of what was saved. Statements:
-- rules/specs/Saving.antt.
-- In order: a cut; no checkpoint; one checkpoint; history-recovers.
-- Elsewhere: every cut of a file (Cuts.antt), what a save writes (Saving.antt).
-- Assumes nothing.
use mathlib.Core.Path.{◌≡◌, refl, sym, ◌∙◌, ap, subst}
use mathlib.Core.Bool.{true}
use mathlib.Core.List.{List, [], ◌∷◌, append-nil}
use Prim.Native.Nat.{ℕ, zero, suc, ◌-◌, ◌≤◌, ◌<◌}
use native.Mathlib.Omega.{arith}
use lib.ListN.{length, get_or, replicate}
use borrow.Author.Tests.{le-leb}
use Rattle.rules.specs.Limits.{last_epoch, last_ticket, partitions_max}
use Rattle.rules.specs.Sees.{up_to}
use Rattle.rules.specs.Hides.{hidden, shown, shown_in}
use Rattle.rules.specs.Weight.{weight, weight_by, total}
use Rattle.rules.specs.Checkpoint.{Checkpoint, no_checkpoint, encoded, checkpoint_of, saved_in}
use Rattle.rules.specs.Store.{Store, manager_of, partition_at, spans_at, total_at, with_totals, refreshed}
use Rattle.rules.specs.Store.{created_store}
use Rattle.rules.specs.Store.{laid_in_place, totals_of}
use Rattle.rules.specs.Recovery.{checkpoint_at, recovered_spans, recovered_below, recovered_store, recover_answer}
use Rattle.rules.specs.WellFormed.{lengths_ok}
use Rattle.rules.specs.Answers.{accepted}
use Rattle.rules.specs.Begin.{created_manager}
use Rattle.rules.specs.Bitmap.{bytes_for}
use Rattle.rules.specs.ReadOnly.{snapshot_epoch}
use Rattle.rules.specs.Calls.{begin_ro_answer}
use Rattle.rules.specs.Step.{recover, begin_ro, step}
use Rattle.rules.specs.Claim.{event_of, words_scanned, of_file, first_ledger}
use Rattle.rules.specs.Totals.{shown_now}
use Rattle.rules.specs.declared.Reader.TheVariants.{Ro}
use Rattle.rules.specs.Histories.{store_after}
use Rattle.rules.specs.declared.Answer.TheVariants.{BegunRo, Recovered}
use Rattle.rules.specs.Ledger.{Ledger, heard}
use Rattle.rules.specs.Saving.{savable, RecoversCut, RecoversNone}
use Rattle.rules.specs.Saving.{HistoryRecovers}
use Rattle.laws.proofs.Laws.Begin.{created-ok as createdManager-ok}
use Rattle.laws.proofs.Laws.WellFormed.{StoreOk}
use Rattle.laws.proofs.Laws.Checkpoint.{CheckpointOk, none-ok, saved-ok}
use Rattle.laws.proofs.Laws.Follows.{Follows}
use Rattle.laws.proofs.Laws.Laid.{laid_same}
use Rattle.laws.proofs.Laws.Store.{created-ok, created-spans}
use Rattle.laws.proofs.Laws.Totals.{sound-ok, totals-by}
use Rattle.laws.proofs.Laws.Recovery.{recovered-manager, recovered-spans}
use Rattle.laws.proofs.Cuts.{every-cut, last_fits, encoded-saved}
use Rattle.laws.proofs.History.{follows-step, follows_agrees, follows-made}
use Rattle.laws.proofs.Totals.{follows-now}
use Rattle.laws.proofs.Saving.{epoch-is, history_saves}

-- ---- a cut

pub recovers-cut : RecoversCut
unfolding step recover_answer
recovers-cut cs t n st h = rw (h, every-cut last_epoch last_fits cs t n) (refl, refl)

-- ---- no checkpoint: nothing is laid into the store made new at 1

module _ (st : Store) (h : lengths_ok st ≡ true) where
  made_ok : StoreOk (created_store 1 st)
  made_ok = created-ok 1 st h (createdManager-ok 1 (omega arith) (omega arith))

  -- no span into an empty partition
  laid_one : (n : ℕ) → n < partitions_max → laid_in_place n [] (created_store 1 st) ≡ created_store 1 st
  laid_one n l = ap (λ ss. laid_in_place n ss (created_store 1 st)) (sym (created-spans 1 st n l))
      ∙ laid_same (created_store 1 st) made_ok n l

  module _ (c : Checkpoint) (z : c.epoch ≡ 0) (none : (p : ℕ) → get_or c.rows p [] ≡ []) where
    laid_none : (n : ℕ) → n ≤ partitions_max → recovered_below c n st ≡ created_store 1 st
    unfolding recovered_below
    laid_none zero l = ap (λ e. created_store (suc e) st) z
    laid_none (suc n) l =
        (λ i. laid_in_place n (recovered_spans c.epoch (none n i)) (laid_none n (omega arith) i))
        ∙ laid_one n (omega arith)

  totals-none : totals_of (created_store 1 st) ≡ replicate partitions_max 0
  unfolding total_at total weight_by weight shown shown_in
  totals-none = totals-by (created_store 1 st) (λ p. 0) (λ p l. rw (created-spans 1 st p l))

  none_left : recovered_store no_checkpoint st ≡ created_store 1 st
  unfolding recovered_store
  none_left = let k = none-ok last_epoch in
      ap refreshed (laid_none no_checkpoint refl (k.none refl) partitions_max (omega arith))
      ∙ (ap (λ ts. with_totals ts (created_store 1 st)) totals-none ∙ same-state)
    where
      same-state : with_totals (replicate partitions_max 0) (created_store 1 st) ≡ created_store 1 st
      same-state = unfold created_store in refl

pub recovers-none : RecoversNone
recovers-none st h = none_left st h

-- ---- recovery of what was saved

-- one span of rows is shown whole
pub shown-recovered : (e : ℕ) (ws : List ℕ) → shown (up_to e) (up_to e) (recovered_spans e ws) ≡ ws
unfolding shown shown_in hidden
shown-recovered e [] = refl
shown-recovered e (w ∷ ws) = rw (le-leb e e (omega arith)) (append-nil (w ∷ ws))

module _ (c : Checkpoint) (ok : savable last_epoch 0 c ≡ true) (st : Store) (h : lengths_ok st ≡ true) where
  is-saved : saved_in (encoded c) ≡ c
  is-saved = ap checkpoint_of (encoded-saved c ok)

  abbrev after : Store
  after = (step (recover (encoded c)) st).store

  recovers : (step (recover (encoded c)) st).answer ≡ Recovered
  unfolding step recover_answer
  recovers = rw (h, encoded-saved c ok)

  abbrev g : Ledger
  g = first_ledger (of_file (encoded c))

  follows-saved : Follows after g
  follows-saved = follows-made st (of_file (encoded c)) (ap accepted recovers)

  fits : CheckpointOk last_epoch c
  fits = subst (CheckpointOk last_epoch) is-saved (saved-ok (encoded c))

  after_is : after ≡ recovered_store c st
  unfolding step
  after_is = rw recovers (ap (λ d. recovered_store d st) is-saved)

  manager-is : manager_of after ≡ created_manager (suc c.epoch)
  manager-is = ap manager_of after_is ∙ recovered-manager c fits st h

  lce-is : (manager_of after).clock.lce ≡ c.epoch
  lce-is = ap (λ m. m.clock.lce) manager-is ∙ created-lce
    where
      created-lce : (created_manager (suc c.epoch)).clock.lce ≡ c.epoch
      created-lce = unfold created_manager in omega arith

  now-shows : (t p : ℕ) → p < partitions_max → shown_now t p g ≡ get_or c.rows p []
  now-shows t p l = sym (follows-now follows-saved t p l)
      ∙ ((λ i. shown (up_to (lce-is i)) (up_to (lce-is i)) (spans-are i))
      ∙ shown-recovered c.epoch (get_or c.rows p []))
    where
      spans-are : spans_at p after ≡ recovered_spans c.epoch (get_or c.rows p [])
      spans-are = ap (spans_at p) after_is ∙ recovered-spans c fits st h p l

  -- a page at LCE gets ticket 1
  opens : (step (begin_ro 0) after).answer ≡ BegunRo 1
  unfolding step begin_ro_answer snapshot_epoch created_manager last_ticket
  opens = let e = suc c.epoch - 1 in rw (sound-ok after follows-saved.ok, manager-is, le-leb e e (omega arith))

  scans : (p : ℕ) → p < partitions_max → (lent : List ℕ)
      → let opened = (step (begin_ro 0) after).store in
      bytes_for (partition_at p opened).rows ≤ length lent → words_scanned (Ro 1) p lent opened ≡ shown_now 1 p g
  unfolding heard event_of
  scans p l lent n = let F = follows-step (begin_ro 0) follows-saved in
      (follows_agrees (rw opens at F) (Ro 1) p l lent n).shows refl

pub history-recovers : HistoryRecovers
history-recovers s st h calls e lent w t st' h' =
    let at = store_after s st calls in let k = history_saves s st h calls e lent w t in
    let c = checkpoint_at e at in let ok = k.ok 0 (omega arith) in
    record {
      answer = recovers c ok st' h';
      lce = lce-is c ok st' h' ∙ epoch-is e at;
      shown = λ t p l. now-shows c ok st' h' t p l ∙ k.shown p l;
      scans = λ p l lent n. scans c ok st' h' p l lent n ∙ (now-shows c ok st' h' 1 p l ∙ k.shown p l);
    }
