-- Demand 3: after every list of calls, each open reader is shown exactly what the ledger shows. Statement:
-- rules/specs/Claim.antt.
-- In order: a call keeps the store beside the ledger, a list of calls does, a scan then agrees,
-- history-shows.
-- Assumes nothing.
use mathlib.Core.Path.{◌≡◌, sym, ◌∙◌, ap}
use mathlib.Core.Bool.{true, ◌&&◌}
use mathlib.Core.List.{List, [], ◌∷◌}
use Prim.Native.Nat.{ℕ, ◌≤◌, ◌<◌}
use native.Mathlib.Omega.{arith}
use lib.ListN.{length}
use borrow.Author.Tests.{eqb-true, eq-eqb}
use Rattle.lists.specs.Lists.{elem}
use Rattle.lists.proofs.Laws.Bools.{split}
use Rattle.rules.specs.Limits.{partitions_max}
use Rattle.rules.specs.Close.{rolled_back_manager}
use Rattle.rules.specs.Store.{Store, manager_of, partition_at}
use Rattle.rules.specs.Bitmap.{bytes_for}
use Rattle.rules.specs.Checkpoint.{saved_in}
use Rattle.rules.specs.Recovery.{recover_answer}
use Rattle.rules.specs.Answers.{reply_of, accepted}
use Rattle.rules.specs.WellFormed.{sound, lengths_ok}
use Rattle.rules.specs.Calls.{create_answer, close_answer}
use Rattle.rules.specs.Calls.{append_answer, clear_answer, purge_answer, is_reader}
use Rattle.rules.specs.Calls.{sees_of}
use Rattle.rules.specs.Calls.{applies_of}
use Rattle.rules.specs.Step.{Call, create, manage, append, clear, rollback, scan, purge, save, recover, step, run}
use Rattle.rules.specs.Ledger.{Ledger, heard, lines_at}
use Rattle.rules.specs.Claim.{event_of, history, ledger_of, shown_by, Agrees, Start, at_epoch, of_file, first_call}
use Rattle.rules.specs.Claim.{first_ledger}
use Rattle.rules.specs.Claim.{HistoryShows}
use Rattle.rules.specs.declared.Reader.{Reader}
use Rattle.laws.proofs.Laws.Lines.{shows_ext}
use Rattle.laws.proofs.Laws.Safe.{low-sees, low_applies}
use Rattle.laws.proofs.Laws.Shown.{spans_show, scan-admits, scan-counts, scan-spans}
use Rattle.laws.proofs.Laws.Calls.{create-passed, close_passed}
use Rattle.laws.proofs.Laws.Calls.{append-passed, clear-passed, purge-passed}
use Rattle.laws.proofs.Laws.Tracks.{alive, shown_by-marks, tracks-admits}
use Rattle.rules.specs.Promises.{marks_in}
use Rattle.laws.proofs.Laws.Tracks.{tracks-sees}
use Rattle.laws.proofs.Laws.Tracks.{tracks_applies}
use Rattle.laws.proofs.Laws.PartitionFollows.{follows-shown}
use Rattle.laws.proofs.Laws.ManagerCalls.{both-or, manager-follows}
use Rattle.laws.proofs.Laws.Checkpoint.{saved-ok}
use Rattle.laws.proofs.Laws.Recovery.{follows-recovered, recover-passed}
use Rattle.laws.proofs.Laws.Follows.{Follows, follows-create}
use Rattle.laws.proofs.Laws.Follows.{follows-rollback}
use Rattle.laws.proofs.Laws.Follows.{follows-append}
use Rattle.laws.proofs.Laws.Follows.{follows-clear, follows-purge}

-- ---- a call

pub follows-step : (c : Call) {st : Store} {g : Ledger} → Follows st g
    → Follows (step c st).store (heard (event_of c (reply_of (step c st).answer)) g)
unfolding step heard event_of
follows-step (create s) {st} F = both-or (create_answer s (lengths_ok st)) F
    (λ t. let k = create-passed s (lengths_ok st) t in follows-create s st k.sound k.low k.high)
follows-step (manage c) F = manager-follows c F
follows-step (append i p batch) {st} F = both-or (append_answer i p batch st) F
    (λ t. let k = append-passed i p st batch (λ w h. let q = F.ok.shape.partition p h in let c = q.row_count in let
    n =
    q.spans-ok.rows_fit in omega arith) t in
    follows-append F i p k.write.partition k.write.pending batch k.rows k.entries)
follows-step (clear i p) {st} F = both-or (clear_answer i p st) F
    (λ t. let k = clear-passed i p st t in follows-clear F i p k.0.partition k.0.pending k.1)
follows-step (rollback i) {st} F = both-or (close_answer i (sound st) (manager_of st) (rolled_back_manager i
    (manager_of st))) F
    (λ t. follows-rollback F i (close_passed i (sound st) (manager_of st) _ t).pending)
follows-step (scan r p lent) F = F
follows-step (purge p) {st} F = split (accepted (purge_answer p st))
    (λ a. rw a (follows-purge F p (purge-passed p st a).1))
    (λ f. rw f F)
follows-step (save e lent) F = F
follows-step (recover file) {st} F = both-or (recover_answer file (lengths_ok st)) F
    (λ t. follows-recovered (saved_in file) (saved-ok file) st (recover-passed file (lengths_ok st) t).sound)

-- ---- a list of calls

pub follows-run : (calls : List Call) {st : Store} {g : Ledger} → Follows st g → Follows (run calls st) (ledger_of
    (history calls st) g)
unfolding run history ledger_of
follows-run [] F = F
follows-run (c ∷ cs) F = follows-run cs (follows-step c F)

-- ---- a scan

module _ {st : Store} {g : Ledger} (F : Follows st g) (r : Reader) (p : ℕ) (h : p < partitions_max) where
  -- what the spans show an open reader is what the ledger shows
  shown : is_reader r (manager_of st) ≡ true → spans_show r p st ≡ shown_by r p g
  shown o = let m = manager_of st in
      follows-shown (F.partition p h) (sees_of r m) (applies_of r m) (low-sees m F.ok.shape.manager r o)
      (low_applies m F.ok.shape.manager r o)
      ∙ (shows_ext (λ j. alive g j && sees_of r m j) (λ k. alive g k && applies_of r m k) (λ j. elem j (marks_in r g))
      (λ k. elem k (marks_in r g)) (tracks-sees F.tracks r o) (tracks_applies F.tracks r o) (lines_at p g)
      ∙ sym (shown_by-marks r p g))

  pub follows_agrees : (lent : List ℕ) → bytes_for (partition_at p st).rows ≤ length lent → Agrees st g r p lent
  follows_agrees lent enough =
      let same = tracks-admits F.tracks r in let admits = scan-admits st F.ok r p h lent enough ∙ same in
      let number = (reply_of (step (scan r p lent) st).answer).number in record {
        admits = (λ n. sym admits ∙ eq-eqb number 0 n, λ e. eqb-true number 0 (admits ∙ e));
        counts = λ e. scan-counts st F.ok r p h lent enough (same ∙ e) ∙ ap length (shown (same ∙ e));
        shows = λ e. scan-spans st F.ok r p h lent enough (same ∙ e) ∙ shown (same ∙ e);
      }

-- ---- demand 3

pub follows-made : (st : Store) (s : Start) → accepted (step (first_call s) st).answer ≡ true
    → Follows (step (first_call s) st).store (first_ledger s)
unfolding step
follows-made st (at_epoch s) t = let k = create-passed s (lengths_ok st) t in
    rw t (follows-create s st k.sound k.low k.high)
follows-made st (of_file file) t =
    rw t (follows-recovered (saved_in file) (saved-ok file) st (recover-passed file (lengths_ok st) t).sound)

pub history-shows : HistoryShows
history-shows st s t calls r p lent h enough =
    follows_agrees (follows-run calls (follows-made st s t)) r p h lent enough
