-- Standing totals: after every history, and after every call on a sound store. Statements: rules/specs/Totals.antt.
-- In order: what a page at LCE is shown is what the ledger shows one that is opened now; history-totals; totals-fresh;
-- totals-stay.
-- Assumes nothing.
use mathlib.Core.Path.{◌≡◌, refl, sym, ap, ◌∙◌}
use mathlib.Core.Bool.{true, ◌&&◌}
use mathlib.Core.List.{List}
use Prim.Native.Nat.{ℕ, ◌<◌, ◌≤◌}
use native.Mathlib.Omega.{arith}
use lib.Dec.{leb}
use borrow.Author.Tests.{le-leb}
use Rattle.lists.specs.Lists.{elem, keep_if}
use Rattle.lists.proofs.Laws.Bools.{split}
use Rattle.lists.proofs.Laws.Tests.{no_proof}
use Rattle.rules.specs.Limits.{partitions_max}
use Rattle.rules.specs.Sees.{up_to}
use Rattle.rules.specs.Hides.{shown}
use Rattle.rules.specs.Weight.{weight, weight_by, total}
use Rattle.rules.specs.Store.{Store, manager_of, spans_at, total_at, laid, laid_in_place, laid_in_spare}
use Rattle.rules.specs.Store.{purged_store}
use Rattle.rules.specs.Answers.{accepted}
use Rattle.rules.specs.WellFormed.{sound}
use Rattle.rules.specs.Rewrite.{skips}
use Rattle.rules.specs.Calls.{manager_answer, manager_after, append_answer, clear_answer, purge_answer}
use Rattle.rules.specs.Step.{Call, create, manage, append, clear, rollback, scan, purge, save, recover, step}
use Rattle.rules.specs.Ledger.{Ledger, latest, lines_at, shows_by, reader_shows}
use Rattle.rules.specs.Totals.{kept_total, shown_now, HistoryTotals, TotalsFresh, leaves_totals, TotalsStay}
use Rattle.rules.specs.declared.ManagerCall.{ManagerCall}
use Rattle.laws.proofs.Laws.Hides.{shown-lines}
use Rattle.laws.proofs.Laws.Lines.{shows_ext}
use Rattle.laws.proofs.Laws.Manager.{manager-facts}
use Rattle.laws.proofs.Laws.ManagerCalls.{lce-stays}
use Rattle.laws.proofs.Laws.PartitionFollows.{follows-shown}
use Rattle.laws.proofs.Laws.Totals.{SoundOk, sound-facts, total_kept, total-still}
use Rattle.laws.proofs.Laws.Tracks.{alive, marks_of-first, tracks-latest}
use Rattle.laws.proofs.Laws.TracksReadOnly.{snapshot-marks}
use Rattle.laws.proofs.Laws.Follows.{Follows}
use Rattle.laws.proofs.Laws.Sound.{sound-step}
use Rattle.laws.proofs.Promises.{follows-history}

-- ---- a page that is opened now

module _ {st : Store} {g : Ledger} (F : Follows st g) where
  abbrev lce : ℕ
  lce = (manager_of st).clock.lce

  -- the marks in its snapshot
  abbrev now : List ℕ
  now = keep_if (λ c. leb c (latest g)) g.committed

  now-marks : (j : ℕ) → alive g j && leb j lce ≡ elem j now
  now-marks j = sym (ap (λ (e : ℕ). elem j (keep_if (λ c. leb c e) g.committed)) (sym (tracks-latest F.tracks))
      ∙ snapshot-marks F.tracks lce (omega arith) j)

  low : (j : ℕ) → j ≤ (manager_of st).clock.lse → leb j lce ≡ true
  low j h = let k = (manager-facts (manager_of st) F.ok.shape.manager).clock.lse-low in le-leb j lce (omega arith)

  shown-now : (t p : ℕ) → shown_now t p g ≡ shows_by now (lines_at p g)
  unfolding reader_shows
  shown-now t p = ap (λ (ms : List ℕ). shows_by ms (lines_at p g)) (marks_of-first t now g.readers)

  -- what the spans show at LCE is what the ledger shows it
  pub follows-now : (t p : ℕ) → p < partitions_max → shown (up_to lce) (up_to lce) (spans_at p st) ≡ shown_now t p g
  follows-now t p h = shown-lines (up_to lce) (up_to lce) (spans_at p st)
      ∙ (follows-shown (F.partition p h) (up_to lce) (up_to lce) low low
      ∙ (shows_ext (λ j. alive g j && leb j lce) (λ k. alive g k && leb k lce) (λ j. elem j now) (λ k. elem k now)
      now-marks now-marks (lines_at p g)
      ∙ sym (shown-now t p)))

  pub follows-total : (t p : ℕ) → p < partitions_max → total_at p st ≡ weight (shown_now t p g)
  unfolding total_at total weight_by
  follows-total t p h = ap weight (follows-now t p h)

pub history-totals : HistoryTotals
history-totals s st h calls p l t = let F = follows-history s st h calls in
    total_kept _ F.ok p l ∙ follows-total F t p l

-- ---- a call on a sound store

pub totals-fresh : TotalsFresh
totals-fresh c st n h p l = total_kept (step c st).store (sound-step c st (sound-facts st n h)) p l

module _ (st : Store) (ok : SoundOk st) (p : ℕ) (l : p < partitions_max) where
  managed : (c : ManagerCall) → leaves_totals (manage c) ≡ true
      → kept_total p (step (manage c) st).store ≡ kept_total p st
  unfolding step
  managed c h = split (accepted (manager_answer c (sound st) (manager_of st)))
      (λ t. rw t (total-still st ok (manager_after c (manager_of st)) (lce-stays c (manager_of st) h) p l)) (λ f. rw f)

  stays : (c : Call) → leaves_totals c ≡ true → kept_total p (step c st).store ≡ kept_total p st
  unfolding step laid_in_place laid_in_spare laid purged_store
  stays (create s) h = no_proof h
  stays (manage c) h = managed c h
  stays (append i q batch) h = split (accepted (append_answer i q batch st)) (λ t. rw t) (λ f. rw f)
  stays (clear i q) h = split (accepted (clear_answer i q st)) (λ t. rw t) (λ f. rw f)
  stays (rollback i) h = no_proof h
  stays (scan r q lent) h = refl
  stays (purge q) h = split (accepted (purge_answer q st))
      (λ t. rw t (split (skips (manager_of st).clock.lse (spans_at q st)) (λ u. rw u) (λ f. rw f))) (λ f. rw f)
  stays (save e lent) h = refl
  stays (recover file) h = no_proof h

pub totals-stay : TotalsStay
totals-stay c st n h k p l = stays st (sound-facts st n h) p l c k
