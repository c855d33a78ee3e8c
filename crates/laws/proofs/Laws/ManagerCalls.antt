-- The calls on the manager: all that demand 3 and the promises want of each. Definitions: rules/specs/Calls.antt
-- `manager_answer`, `manager_after`, rules/specs/Claim.antt `event_of`. In order: it answers no 5 on a sound manager;
-- accepted, it keeps a store sound; what it does to LCE; the ledger follows it; it keeps the snapshot of a reader
-- that it does not close, and all lines.
-- Assumes nothing.
use mathlib.Core.Path.{◌≡◌, refl, ◌∙◌}
use mathlib.Core.Bool.{Bool, true, false, not, cond}
use Prim.Native.Nat.{suc, ◌≤◌}
use native.Mathlib.Omega.{arith}
use lib.Dec.{leb, eqb}
use borrow.Author.Tests.{not-true}
use Rattle.lists.proofs.Laws.Bools.{split}
use Rattle.rules.specs.Limits.{last_epoch, last_ticket, writers_max, readers_max}
use Rattle.lists.proofs.Laws.Tests.{no_proof}
use Rattle.rules.specs.Manager.{has_open, has_reader, writers_of}
use Rattle.rules.specs.Begin.{begun_manager}
use Rattle.rules.specs.Close.{committed_txns, settled, committed_manager}
use Rattle.rules.specs.ReadOnly.{snapshot_epoch, begun_ro_manager, ended_ro_manager}
use Rattle.rules.specs.Safe.{blocked, target_of, advanced_manager}
use Rattle.rules.specs.Store.{Store, manager_of, with_manager}
use Rattle.rules.specs.Answers.{reply_of, accepted}
use Rattle.rules.specs.WellFormed.{sound}
use Rattle.rules.specs.Calls.{within, begin_answer, close_answer, begin_ro_answer, end_ro_answer, advance_lse_answer}
use Rattle.rules.specs.Calls.{manager_answer, manager_after}
use Rattle.rules.specs.Step.{manage, step}
use Rattle.rules.specs.Ledger.{Ledger, heard}
use Rattle.rules.specs.Claim.{event_of, is_open_in}
use Rattle.rules.specs.Promises.{is_load, is_page, spares}
use Rattle.rules.specs.Totals.{leaves_totals}
use Rattle.rules.specs.Manager.{Manager}
use Rattle.rules.specs.declared.ManagerCall.{ManagerCall}
use Rattle.rules.specs.declared.ManagerCall.TheVariants.{Begin, Commit, BeginRo, EndRo, AdvanceLse}
use Rattle.rules.specs.declared.Reader.{Reader}
use Rattle.rules.specs.declared.Refusal.TheVariants.{NotOpen, OutOfRange, Exhausted, TxnsFull, Blocked}
use Rattle.rules.specs.declared.Answer.{Answer}
use Rattle.laws.proofs.Laws.NotUnsound.{Not5, ends, past}
use Rattle.laws.proofs.Laws.Calls.{begin-passed, close_passed, begin_ro-passed, advance-passed}
use Rattle.laws.proofs.Laws.Begin.{begun_ok}
use Rattle.laws.proofs.Laws.Close.{settled-rises, committed-ok}
use Rattle.laws.proofs.Laws.ReadOnly.{begun_ro-ok, ended_ro-ok}
use Rattle.laws.proofs.Laws.Safe.{advanced-ok}
use Rattle.laws.proofs.Laws.Epochs.{begun-epoch_ok, committed-epoch_ok, begun_ro-epoch_ok, ended_ro-epoch_ok}
use Rattle.laws.proofs.Laws.Epochs.{advanced-epoch_ok}
use Rattle.laws.proofs.Laws.WellFormed.{StoreOk}
use Rattle.laws.proofs.Laws.Store.{with-manager-ok}
use Rattle.laws.proofs.Laws.Follows.{Follows, follows-begin, follows-commit, follows-begin_ro, follows-end_ro}
use Rattle.laws.proofs.Laws.Follows.{follows-advance}
use Rattle.laws.proofs.Laws.Snapshots.{Keeps, keeps_same, keeps-begin, keeps-close}
use Rattle.laws.proofs.Laws.Snapshots.{keeps-begin_ro, keeps-end_ro}

-- ---- no 5

pub manager-not_5 : (c : ManagerCall) (m : Manager) → Not5 (manager_answer c true m)
unfolding begin_answer close_answer begin_ro_answer end_ro_answer advance_lse_answer
manager-not_5 Begin m = past Exhausted (eqb m.clock.ec (suc last_epoch)) _ refl
    (past TxnsFull (leb writers_max m.writers.count) _ refl (ends _ refl))
manager-not_5 (Commit i) m = past NotOpen (not (has_open i m)) _ refl (ends _ refl)
manager-not_5 (BeginRo e) m = past OutOfRange (not (within m.clock.lse m.clock.lce (snapshot_epoch e m))) _ refl
    (past Exhausted (eqb m.readers.next (suc last_ticket)) _ refl
    (past TxnsFull (leb readers_max m.readers.count) _ refl (ends _ refl)))
manager-not_5 (EndRo t) m = past NotOpen (not (has_reader t m)) _ refl (ends _ refl)
manager-not_5 (AdvanceLse n) m =
    past OutOfRange (not (within m.clock.lse m.clock.lce (target_of n m))) _ refl
    (past Blocked (blocked (target_of n m) m) _ refl (ends _ refl))

-- ---- sound

-- only on a sound store is one accepted
pub manager-passed : (c : ManagerCall) (b : Bool) (m : Manager) → accepted (manager_answer c b m) ≡ true → b ≡ true
unfolding end_ro_answer
manager-passed Begin b m t = (begin-passed b m t).sound
manager-passed (Commit i) b m t = (close_passed i b m (committed_manager i m) t).sound
manager-passed (BeginRo e) b m t = (begin_ro-passed e b m t).sound
manager-passed (EndRo n) true m t = refl
manager-passed (EndRo n) false m t = t
manager-passed (AdvanceLse n) b m t = (advance-passed n b m t).sound

pub manager-sound : (c : ManagerCall) (st : Store) → StoreOk st
    → accepted (manager_answer c (sound st) (manager_of st)) ≡ true
    → StoreOk (with_manager (manager_after c (manager_of st)) st)
manager-sound Begin st ok t = let m = manager_of st in let k = begin-passed (sound st) m t in
    with-manager-ok (begun_manager m) st ok (begun_ok m ok.manager k.last k.room) (begun-epoch_ok m)
manager-sound (Commit i) st ok t = let m = manager_of st in
    with-manager-ok (committed_manager i m) st ok (committed-ok i m ok.manager) (committed-epoch_ok i m)
manager-sound (BeginRo e) st ok t = let m = manager_of st in let k = begin_ro-passed e (sound st) m t in
    with-manager-ok (begun_ro_manager e m) st ok
    (begun_ro-ok e m ok.manager k.low k.high k.last k.room) (λ j q. begun_ro-epoch_ok e m j ∙ q)
manager-sound (EndRo n) st ok t = let m = manager_of st in
    with-manager-ok (ended_ro_manager n m) st ok (ended_ro-ok n m ok.manager) (λ j q. ended_ro-epoch_ok n m j ∙ q)
manager-sound (AdvanceLse n) st ok t = let m = manager_of st in let k = advance-passed n (sound st) m t in
    with-manager-ok (advanced_manager n m) st ok (advanced-ok n m ok.manager k.high k.free)
    (λ j q. advanced-epoch_ok n m j ∙ q)

-- ---- LCE

-- no call lowers it
pub lce-rises : (c : ManagerCall) (m : Manager) → m.clock.lce ≤ (manager_after c m).clock.lce
unfolding begun_manager begun_ro_manager ended_ro_manager advanced_manager committed_manager settled
lce-rises Begin m = omega arith
lce-rises (Commit i) m = settled-rises m.clock.lce (committed_txns i (writers_of m))
lce-rises (BeginRo e) m = omega arith
lce-rises (EndRo n) m = omega arith
lce-rises (AdvanceLse n) m = omega arith

-- only a commit moves it
pub lce-stays : (c : ManagerCall) (m : Manager) → leaves_totals (manage c) ≡ true
    → (manager_after c m).clock.lce ≡ m.clock.lce
unfolding begun_manager begun_ro_manager ended_ro_manager advanced_manager
lce-stays Begin m h = refl
lce-stays (Commit i) m h = no_proof h
lce-stays (BeginRo e) m h = refl
lce-stays (EndRo n) m h = refl
lce-stays (AdvanceLse n) m h = refl

-- ---- the ledger follows

-- an accepted call changes both, a refused one neither
pub both-or : (a : Answer) {st next : Store} {g later : Ledger} → Follows st g
    → (accepted a ≡ true → Follows next later)
    → Follows (cond (accepted a) next st) (cond (accepted a) later g)
both-or a F h = split (accepted a) (λ t. rw t (h t)) (λ f. rw f F)

pub manager-follows : (c : ManagerCall) {st : Store} {g : Ledger} → Follows st g
    → Follows (step (manage c) st).store (heard (event_of (manage c) (reply_of (step (manage c) st).answer)) g)
unfolding step heard event_of
manager-follows Begin {st} F = both-or (begin_answer (sound st) (manager_of st)) F (λ t.
    let k = begin-passed (sound st) (manager_of st) t in rw k.is (follows-begin F k.last k.room))
manager-follows (Commit i) {st} F = both-or (close_answer i (sound st) (manager_of st)
    (committed_manager i (manager_of st))) F
    (λ t. follows-commit F i (close_passed i (sound st) (manager_of st) _ t).pending)
manager-follows (BeginRo e) {st} F = both-or (begin_ro_answer e (sound st) (manager_of st)) F (λ t.
    let k = begin_ro-passed e (sound st) (manager_of st) t in
    rw k.is (follows-begin_ro F e k.low k.high k.last k.room))
manager-follows (EndRo n) {st} F = both-or (end_ro_answer n (sound st) (manager_of st)) F (λ _. follows-end_ro F n)
manager-follows (AdvanceLse n) {st} F = split (accepted (advance_lse_answer n (sound st) (manager_of st)))
    (λ t. let k = advance-passed n (sound st) (manager_of st) t in
    rw t (follows-advance F n k.low k.high k.free))
    (λ f. rw f F)

-- ---- readers keep their snapshots

pub record Left (r : Reader) (g g' : Ledger) : Type 0 where
  pub snapshot : Keeps r g g'
  pub lines : g'.lines ≡ g.lines

-- only an accepted call changes the ledger
left_or : (r : Reader) (a : Answer) {g next : Ledger} → is_open_in r g ≡ true → (accepted a ≡ true → Left r g next)
    → Left r g (cond (accepted a) next g)
left_or r a {g} o h = split (accepted a) (λ t. rw t (h t))
    (λ f. rw f (record { snapshot = keeps_same g r o; lines = refl }))

pub manager-keeps : (c : ManagerCall) {st : Store} {g : Ledger} → Follows st g → (r : Reader) → is_open_in r g ≡ true
    → spares r (manage c) ≡ true → Left r g (heard (event_of (manage c) (reply_of (step (manage c) st).answer)) g)
unfolding step heard event_of
manager-keeps Begin {st} F r o h = let m = manager_of st in left_or r (begin_answer (sound st) m) o (λ t.
    rw (begin-passed (sound st) m t).is (record { snapshot = keeps-begin F.tracks r o; lines = refl }))
manager-keeps (Commit i) {st} {g} F r o h = let m = manager_of st in
    left_or r (close_answer i (sound st) m (committed_manager i m)) o (λ t. record {
      snapshot = keeps-close g _ i r o (not-true (is_load i r) h);
      lines = refl;
    })
manager-keeps (BeginRo e) {st} F r o h = let m = manager_of st in left_or r (begin_ro_answer e (sound st) m) o (λ t.
    rw (begin_ro-passed e (sound st) m t).is
    (record { snapshot = keeps-begin_ro F.tracks e r o; lines = refl }))
manager-keeps (EndRo n) {st} {g} F r o h = left_or r (end_ro_answer n (sound st) (manager_of st)) o (λ t. record {
  snapshot = keeps-end_ro g n r o (not-true (is_page n r) h);
  lines = refl;
})
manager-keeps (AdvanceLse n) {g = g} F r o h = record { snapshot = keeps_same g r o; lines = refl }
