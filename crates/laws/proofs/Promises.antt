-- What a history leaves, and what demand 3 comes to for the readers of a store. Statements: rules/specs/Histories.antt,
-- rules/specs/Promises.antt.
-- In order: a history is followed by its ledger; it is sound; LCE; the load that holds it back; a page; a load; a load
-- lands whole; the first call.
-- Elsewhere: demand 3 itself (History.antt), single calls (Laws/Stays.antt).
-- Assumes nothing.
use mathlib.Core.Path.{◌≡◌, refl, sym, ◌∙◌, ap}
use mathlib.Core.Bool.{Bool, true, false}
use mathlib.Core.List.{List, [], ◌∷◌}
use Prim.Native.Nat.{ℕ, ◌≤◌, ◌<◌}
use lib.ListN.{length}
use lib.Dec.{eqb}
use borrow.Author.Tests.{eqb-true, eq-eqb, lt-leb}
use Rattle.lists.specs.Lists.{keep_if, all_of, elem}
use Rattle.lists.proofs.Laws.All.{All_every, keep_if-keep_if, keep_if_ext, keep_if-none}
use Rattle.lists.proofs.Laws.Bools.{split, and_left, and_right, and-true, and-false}
use Rattle.rules.specs.Limits.{partitions_max}
use Rattle.rules.specs.Bitmap.{bytes_for}
use Rattle.rules.specs.Manager.{Manager}
use Rattle.rules.specs.Close.{committed_manager, rolled_back_manager}
use Rattle.rules.specs.Store.{Store, manager_of, partition_at}
use Rattle.rules.specs.Answers.{reply_of, second_value, accepted}
use Rattle.rules.specs.WellFormed.{sound}
use Rattle.rules.specs.Calls.{close_answer, scan_answer}
use Rattle.rules.specs.Step.{Call, clear, rollback, commit, step, run}
use Rattle.rules.specs.Ledger.{Line, row, delete, Ledger, heard, lines_at, concealed, shows_in, shows}
use Rattle.rules.specs.Claim.{event_of, history, ledger_of, is_open_in, shown_by, words_scanned, Start, at_epoch}
use Rattle.rules.specs.Claim.{of_file}
use Rattle.rules.specs.Claim.{first_ledger}
use Rattle.rules.specs.Histories.{Made, store_after, ledger_after, HistorySound, HistoryLce, oldest, ledger_next}
use Rattle.rules.specs.Histories.{StartClosesAll, NamesOldest, HistoryNamesOldest, HistoryNamesHolder}
use Rattle.rules.specs.Promises.{spares, own_step, own_run, HistoryPageUnchanged, HistoryLoadByOwn, HistoryReloads}
use Rattle.rules.specs.Promises.{marks_in, unhidden_in, unhidden, shown_lines, marked, words_in, HistoryLandsWhole}
use Rattle.rules.specs.declared.Reader.{Reader}
use Rattle.rules.specs.declared.Reader.TheVariants.{Rw, Ro}
use Rattle.laws.proofs.Laws.Totals.{sound-ok}
use Rattle.laws.proofs.Laws.Sound.{sound-answers}
use Rattle.laws.proofs.Laws.Calls.{close_passed, clear-passed}
use Rattle.laws.proofs.Laws.Oldest.{tracks-oldest}
use Rattle.laws.proofs.Laws.Tracks.{Tracks, shown_by-marks, tracks-admits, tracks-latest, tracks_holder}
use Rattle.laws.proofs.Laws.Stays.{own_step-page, Stays, stays-still, stays_twice, stays_step}
use Rattle.laws.proofs.Laws.Follows.{Follows}
use Rattle.laws.proofs.History.{follows-step, follows-run, follows_agrees, follows-made}

pub follows-history : (s : Start) (st : Store) → Made s st → (calls : List Call)
    → Follows (store_after s st calls) (ledger_after s st calls)
follows-history s st h calls = follows-run calls (follows-made st s h)

pub history-sound : HistorySound
history-sound s st h calls = let ok = (follows-history s st h calls).ok in
    (sound-ok (store_after s st calls) ok, λ c. sound-answers c (store_after s st calls) ok)

pub history-lce : HistoryLce
history-lce s st h calls = tracks-latest (follows-history s st h calls).tracks

-- ---- the load that holds LCE back

module _ {st : Store} {g : Ledger} (F : Follows st g) (i : ℕ) where
  abbrev m : Manager
  m = manager_of st

  -- next is what the call leaves of the manager, g' of the ledger
  names-oldest : (next : Manager) (g' : Ledger) → Tracks next g'
      → accepted (close_answer i (sound st) m next) ≡ true
      → second_value (reply_of (close_answer i (sound st) m next)) ≡ oldest g'
  names-oldest next g' T t = rw (close_passed i (sound st) m next t).is (tracks-oldest T)

  commit_names : NamesOldest (commit i) st g
  unfolding step history ledger_of
  commit_names t = names-oldest (committed_manager i m) _ (rw t at (follows-step (commit i) F).tracks) t

  rollback_names : NamesOldest (rollback i) st g
  unfolding step history ledger_of
  rollback_names t = names-oldest (rolled_back_manager i m) _ (rw t at (follows-step (rollback i) F).tracks) t

pub history_names-oldest : HistoryNamesOldest
history_names-oldest s st h calls i = let F = follows-history s st h calls in (commit_names F i, rollback_names F i)

-- an accepted commit is in the ledger
commit-heard : (st : Store) (g : Ledger) (i : ℕ) → accepted (step (commit i) st).answer ≡ true
    → elem i (ledger_next (commit i) st g).committed ≡ true
unfolding history ledger_of heard event_of
commit-heard st g i t = rw (t, eq-eqb i i refl)

pub history_names_holder : HistoryNamesHolder
unfolding history ledger_of
history_names_holder s st h calls i t l =
    let F = follows-history s st h calls in let at = store_after s st calls in let g = ledger_after s st calls in
    let T = (follows-step (commit i) F).tracks in
    rw (commit_names F i t) (tracks_holder T i (commit-heard at g i t) l)

-- ---- what a reader is shown that no call closes, its own calls change, and no other does

stays-run : (r : Reader) (calls : List Call) {st : Store} {g : Ledger} → Follows st g → is_open_in r g ≡ true
    → all_of (spares r) calls ≡ true → Stays r g (ledger_of (history calls st) g) (λ p. own_run r p calls st)
unfolding history ledger_of
stays-run r [] {st} {g} F o h = stays-still r g o
stays-run r (c ∷ cs) {st} {g} F o h =
    let S = stays_step F r o c (and_left (spares r c) (all_of (spares r) cs) h) in
    stays_twice r g _ _ (λ p. own_step r p c (step c st).answer) (λ p. own_run r p cs (step c st).store) S
    (stays-run r cs (follows-step c F) S.opened (and_right (spares r c) (all_of (spares r) cs) h))

-- and so with what scans show
scans-run : (r : Reader) (calls : List Call) {st : Store} {g : Ledger} → Follows st g → is_open_in r g ≡ true
    → all_of (spares r) calls ≡ true → (p : ℕ) → p < partitions_max → (lent : List ℕ)
    → bytes_for (partition_at p st).rows ≤ length lent → bytes_for (partition_at p (run calls st)).rows ≤ length lent
    → words_scanned r p lent (run calls st) ≡ own_run r p calls st (words_scanned r p lent st)
scans-run r calls {st} F o h p k lent n n' = let S = stays-run r calls F o h in
    (follows_agrees (follows-run calls F) r p k lent n').shows S.opened
    ∙ (S.shown p k ∙ ap (own_run r p calls st) (sym ((follows_agrees F r p k lent n).shows o)))

own_run-page : (t p : ℕ) (calls : List Call) (st : Store) (ws : List ℕ) → own_run (Ro t) p calls st ws ≡ ws
own_run-page t p [] st ws = refl
own_run-page t p (c ∷ cs) st ws = rw (own_step-page t p c (step c st).answer ws)
    (own_run-page t p cs (step c st).store ws)

pub history-page-unchanged : HistoryPageUnchanged
history-page-unchanged s st h before t o calls k =
    let F = follows-history s st h before in let at = store_after s st before in let g = ledger_after s st before in
    let S = stays-run (Ro t) calls F o k in
    record {
      opened = S.opened;
      shown = λ p l. S.shown p l ∙ own_run-page t p calls at (shown_by (Ro t) p g);
      scans = λ p l lent n n'. scans-run (Ro t) calls F o k p l lent n n'
          ∙ own_run-page t p calls at (words_scanned (Ro t) p lent at);
    }

pub history-load-by-own : HistoryLoadByOwn
history-load-by-own s st h before i o calls k =
    let F = follows-history s st h before in let S = stays-run (Rw i) calls F o k in
    record { opened = S.opened; shown = S.shown; scans = scans-run (Rw i) calls F o k }

pub history_reloads : HistoryReloads
unfolding step run event_of
history_reloads s st h before i p t calls k lent n =
    let F = follows-history s st h before in let c = (clear-passed i p (store_after s st before) t).0 in
    let o = F.tracks.writers.same i ∙ c.pending in let S = stays-run (Rw i) (clear i p ∷ calls) F o k in
    (follows_agrees (follows-run (clear i p ∷ calls) F) (Rw i) p c.partition lent n).shows S.opened
    ∙ (S.shown p c.partition ∙ rw (eq-eqb i i refl, eq-eqb p p refl, t))

-- ---- a load lands whole

-- the words of the rows that are not hidden and whose mark passes are those that shows has
words-unhidden : (s a : ℕ → Bool) (all ls : List Line)
    → words_in (keep_if (λ x. s x.0) (unhidden_in a all ls)) ≡ shows_in s a all ls
unfolding shows_in
words-unhidden s a all [] = refl
words-unhidden s a all (row j w ∷ ls) = let ih = words-unhidden s a all ls in split (concealed a all ls j)
    (λ c. rw (c, and-false (s j)) ih)
    (λ n. rw (n, and-true (s j)) (split (s j) (λ t. rw (t, ih)) (λ f. rw f ih)))
words-unhidden s a all (delete k ∷ ls) = words-unhidden s a all ls

words-shown : (r : Reader) (p : ℕ) (g : Ledger) → words_in (shown_lines r p g) ≡ shown_by r p g
unfolding shows
words-shown r p g = let s : ℕ → Bool = λ j. elem j (marks_in r g) in
    words-unhidden s s (lines_at p g) (lines_at p g) ∙ sym (shown_by-marks r p g)

-- of the rows whose mark passes s, those marked j
module _ (s : ℕ → Bool) (j : ℕ) (xs : List (ℕ × ℕ)) where
  marked-seen : s j ≡ true → marked j (keep_if (λ x. s x.0) xs) ≡ marked j xs
  marked-seen t = keep_if-keep_if (λ x. eqb x.0 j) (λ x. s x.0) xs ∙ keep_if_ext _ _ xs (All_every _
      (λ (x : ℕ × ℕ). split (eqb x.0 j) (λ e. rw (e, eqb-true x.0 j e) (rw t)) (λ n. rw n (and-false (s x.0))))
      xs)

  marked-unseen : s j ≡ false → marked j (keep_if (λ x. s x.0) xs) ≡ []
  marked-unseen f = keep_if-keep_if (λ x. eqb x.0 j) (λ x. s x.0) xs ∙ keep_if-none _ xs (All_every _
      (λ (x : ℕ × ℕ). split (eqb x.0 j) (λ e. rw (eqb-true x.0 j e, f)) (λ n. rw n (and-false (s x.0)))) xs)

pub history_lands-whole : HistoryLandsWhole
history_lands-whole s st h calls r o =
    let F = follows-history s st h calls in let g = ledger_after s st calls in
    record {
      shown = λ p. words-shown r p g;
      scans = λ p l lent n. (follows_agrees F r p l lent n).shows o ∙ sym (words-shown r p g);
      whole = λ j t p. marked-seen (λ k. elem k (marks_in r g)) j (unhidden r p g) t;
      nothing = λ j f p. marked-unseen (λ k. elem k (marks_in r g)) j (unhidden r p g) f;
    }

-- ---- the first call closes all

none_open : (s : Start) (r : Reader) → is_open_in r (first_ledger s) ≡ false
none_open (at_epoch s) (Rw i) = refl
none_open (at_epoch s) (Ro t) = refl
none_open (of_file file) (Rw i) = refl
none_open (of_file file) (Ro t) = refl

pub start-closes-all : StartClosesAll
unfolding step scan_answer
start-closes-all s st h r p l lent = let F = follows-made st s h in
    rw (sound-ok _ F.ok, lt-leb partitions_max p l, tracks-admits F.tracks r, none_open s r)
