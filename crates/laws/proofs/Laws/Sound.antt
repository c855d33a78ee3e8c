-- Every call keeps a sound store sound and answers no 5 on it; a refused call changes nothing. 01 "Refusals".
-- In order: sound-step, the test, a list of calls, no 5, target 0, refused calls, a rewrite's size.
-- Definition: rules/specs/Step.antt.
-- Elsewhere: the calls on the manager (Laws/ManagerCalls.antt), that each change of a partition keeps the store sound
-- (Laws/Store.antt).
-- Assumes nothing.
use mathlib.Core.Path.{◌≡◌, refl}
use mathlib.Core.Bool.{Bool, true, false, not, cond}
use mathlib.Core.List.{List, [], ◌∷◌, map}
use Prim.Native.Nat.{ℕ, ◌-◌, ◌≤◌, ◌<◌}
use native.Mathlib.Omega.{arith}
use lib.ListN.{length}
use lib.Dec.{ltb, leb, eqb}
use borrow.Author.Tests.{eqb-false, le-leb}
use Rattle.lists.proofs.Laws.Bools.{split}
use Rattle.lists.proofs.Laws.Filter.{length-keep_if}
use Rattle.lists.specs.Lists.{keep_if}
use Rattle.rules.specs.Limits.{last_epoch, partitions_max, rows_max}
use Rattle.rules.specs.Limits.{entries_max}
use Rattle.rules.specs.Manager.{has_open}
use Rattle.rules.specs.Close.{rolled_back_manager}
use Rattle.rules.specs.Safe.{target_of}
use Rattle.rules.specs.Span.{Span, words_of}
use Rattle.rules.specs.Append.{appended}
use Rattle.rules.specs.Rewrite.{rolled_back, purged_in, purged, skips}
use Rattle.rules.specs.Bitmap.{bytes_for}
use Rattle.rules.specs.Checkpoint.{encoded, corrupt_in, saved_in}
use Rattle.rules.specs.Recovery.{checkpoint_at, save_answer, recover_answer}
use Rattle.rules.specs.Store.{Store, manager_of, partition_at, spans_at, laid, laid_in_place}
use Rattle.rules.specs.Ledger.{row, delete}
use Rattle.rules.specs.Answers.{reply_of, accepted}
use Rattle.rules.specs.WellFormed.{sound, lengths_ok}
use Rattle.rules.specs.Calls.{refuse, within, is_reader, create_answer, close_answer, manager_answer}
use Rattle.rules.specs.Calls.{advance_lse_answer, append_answer, clear_answer, purge_answer}
use Rattle.rules.specs.Calls.{scan_answer}
use Rattle.rules.specs.Step.{Call, create, manage, append, clear, rollback, scan, advance_lse, purge, save, recover}
use Rattle.rules.specs.Step.{step, run}
use Rattle.rules.specs.declared.Refusal.TheVariants.{UnknownPartition, NotOpen, ShortOutput}
use Rattle.rules.specs.declared.Refusal.TheVariants.{OutOfRange, Corrupt}
use Rattle.rules.specs.declared.Refusal.TheVariants.{RowsFull, EntriesFull}
use Rattle.rules.specs.declared.Answer.{Answer}
use Rattle.laws.proofs.Laws.Begin.{created-ok as createdManager-ok}
use Rattle.laws.proofs.Laws.Close.{rolled_back-ok}
use Rattle.laws.proofs.Laws.Safe.{target-zero}
use Rattle.laws.proofs.Laws.Lines.{AllLines-rows}
use Rattle.laws.proofs.Laws.LinesOf.{lines-appended, lines-cleared}
use Rattle.laws.proofs.Laws.Epochs.{has_open-epoch_ok}
use Rattle.laws.proofs.Laws.Epochs.{rolled_back-epoch_ok}
use Rattle.laws.proofs.Laws.Rewrite.{words-joined, length-joined, words-keep_if, length-purged_in}
use Rattle.laws.proofs.Laws.Live.{words-purged, purge-live-refused}
use Rattle.laws.proofs.Laws.WellFormed.{StoreOk, lengths-ok}
use Rattle.laws.proofs.Laws.Totals.{SoundOk, sound-facts, sound-ok, sound-refreshed, totals_created}
use Rattle.laws.proofs.Laws.Totals.{sound-added}
use Rattle.laws.proofs.Laws.Totals.{sound-purged}
use Rattle.laws.proofs.Laws.Store.{created-ok, append-changed, clear-changed}
use Rattle.laws.proofs.Laws.Store.{rollback-ok}
use Rattle.laws.proofs.Laws.Calls.{create-passed}
use Rattle.laws.proofs.Laws.Calls.{append-passed}
use Rattle.laws.proofs.Laws.Calls.{clear-passed, purge-passed}
use Rattle.laws.proofs.Laws.Answers.{refused-values}
use Rattle.laws.proofs.Laws.NotUnsound.{Not5, ends, past, either_way}
use Rattle.laws.proofs.Laws.ManagerCalls.{manager-not_5, manager-sound}
use Rattle.laws.proofs.Laws.Checkpoint.{saved-ok}
use Rattle.laws.proofs.Laws.Recovery.{recovered-sound, recover-passed}

-- ---- a call

-- an accepted call leaves the next store, a refused one the store it had
either : (a : Answer) {st next : Store} → SoundOk st → (accepted a ≡ true → SoundOk next)
    → SoundOk (cond (accepted a) next st)
either a ok h = split (accepted a) (λ t. rw t (h t)) (λ f. rw f ok)

pub sound_created : (s : ℕ) (st : Store) → accepted (step (create s) st).answer ≡ true
    → SoundOk (step (create s) st).store
unfolding step
sound_created s st t = let k = create-passed s (lengths_ok st) t in
    rw t (record {
      shape = created-ok s st k.sound (createdManager-ok s k.low (omega (arith, k.high)));
      totals = totals_created s st;
    })

pub sound-recovered : (file : List ℕ) (st : Store) → accepted (step (recover file) st).answer ≡ true
    → SoundOk (step (recover file) st).store
unfolding step
sound-recovered file st t =
    rw t (recovered-sound (saved_in file) (saved-ok file) st (recover-passed file (lengths_ok st) t).sound)

module _ (st : Store) (ok : SoundOk st) where
  pub rows-room : (p : ℕ) → p < partitions_max → (partition_at p st).rows ≤ rows_max
  rows-room p h = let q = ok.shape.partition p h in let c = q.row_count in let n = q.spans-ok.rows_fit in
      omega arith

  sound-append : (i p : ℕ) (batch : List ℕ) → SoundOk (step (append i p batch) st).store
  unfolding step laid_in_place laid
  sound-append i p batch = either (append_answer i p batch st) ok (λ t.
      let k = append-passed i p st batch (λ w h. rows-room p h) t in let w = k.write in
      sound-added st ok i p _ _ (map (row i) batch) w.pending
      (append-changed st ok.shape p w.partition i batch
      (has_open-epoch_ok (manager_of st) ok.shape.manager i w.pending) k.rows k.entries) refl
      (lines-appended i batch (spans_at p st)) (AllLines-rows (λ j. j ≡ i) i batch refl))

  sound-clear : (i p : ℕ) → SoundOk (step (clear i p) st).store
  unfolding step laid_in_place laid
  sound-clear i p = either (clear_answer i p st) ok (λ t. let k = clear-passed i p st t in let w = k.0 in
      sound-added st ok i p _ _ (delete i ∷ []) w.pending
      (clear-changed st ok.shape p w.partition i
      (has_open-epoch_ok (manager_of st) ok.shape.manager i w.pending) k.1) refl
      (lines-cleared i (spans_at p st)) (refl, tt))

  sound-purge : (p : ℕ) → SoundOk (step (purge p) st).store
  unfolding step
  sound-purge p = either (purge_answer p st) ok (λ t. sound-purged st ok p (purge-passed p st t).1)

pub sound-step : (c : Call) (st : Store) → SoundOk st → SoundOk (step c st).store
unfolding step
sound-step (create s) st ok = split (accepted (create_answer s (lengths_ok st)))
    (λ t. sound_created s st t) (λ f. rw f ok)
sound-step (manage c) st ok = either (manager_answer c (sound st) (manager_of st)) ok
    (λ t. sound-refreshed _ (manager-sound c st ok.shape t))
sound-step (append i p batch) st ok = sound-append st ok i p batch
sound-step (clear i p) st ok = sound-clear st ok i p
sound-step (rollback i) st ok = let m = manager_of st in let n = rolled_back_manager i m in
    either (close_answer i (sound st) m n) ok (λ t. sound-refreshed _
    (rollback-ok i st ok.shape n (rolled_back-ok i m ok.shape.manager)
    (λ j q ne. rolled_back-epoch_ok i m j ne q)))
sound-step (scan r p lent) st ok = ok
sound-step (purge p) st ok = sound-purge st ok p
sound-step (save e lent) st ok = ok
sound-step (recover file) st ok = split (accepted (recover_answer file (lengths_ok st)))
    (λ t. sound-recovered file st t) (λ f. rw f ok)

-- ---- as the test; an array of the source has its length by its type

pub sound-kept : (c : Call) (st : Store) → length st.state.partitions.at ≡ partitions_max
    → sound st ≡ true → sound (step c st).store ≡ true
sound-kept c st n h = sound-ok (step c st).store (sound-step c st (sound-facts st n h))

-- from any store whatever
pub sound-made : (s : ℕ) (st : Store) → accepted (step (create s) st).answer ≡ true
    → sound (step (create s) st).store ≡ true
sound-made s st t = sound-ok (step (create s) st).store (sound_created s st t)

-- ---- a list of calls

pub sound-run : (calls : List Call) (st : Store) → SoundOk st → SoundOk (run calls st)
unfolding run
sound-run [] st ok = ok
sound-run (c ∷ cs) st ok = sound-run cs (step c st).store (sound-step c st ok)

-- ---- no call on a sound store answers 5

module _ (st : Store) (ok : SoundOk st) where
  write-not_5 : (i p : ℕ) (a : Answer) → Not5 a
      → Not5 (refuse UnknownPartition (leb partitions_max p) (refuse NotOpen (not (has_open i (manager_of st))) a))
  write-not_5 i p a k = past UnknownPartition (leb partitions_max p) _ refl
      (past NotOpen (not (has_open i (manager_of st))) a refl k)

answers-not_5 : (c : Call) (st : Store) → SoundOk st → Not5 (step c st).answer
unfolding step create_answer close_answer append_answer clear_answer purge_answer scan_answer save_answer recover_answer
answers-not_5 (create s) st ok = rw (lengths-ok st ok.shape)
    (past OutOfRange (not (within 1 last_epoch s)) _ refl (ends _ refl))
answers-not_5 (manage c) st ok = rw (sound-ok st ok) (manager-not_5 c (manager_of st))
answers-not_5 (append i p batch) st ok = rw (sound-ok st ok) (write-not_5 st ok i p _
    (past RowsFull (ltb (rows_max - (partition_at p st).rows) (length batch)) _ refl
    (past EntriesFull (ltb entries_max (length (appended i batch (spans_at p st)))) _ refl (ends _ refl))))
answers-not_5 (clear i p) st ok = rw (sound-ok st ok)
    (write-not_5 st ok i p _ (past EntriesFull (leb entries_max (partition_at p st).entries) _ refl (ends _ refl)))
answers-not_5 (rollback i) st ok = rw (sound-ok st ok)
    (past NotOpen (not (has_open i (manager_of st))) _ refl (ends _ refl))
answers-not_5 (scan r p lent) st ok = rw (sound-ok st ok)
    (past UnknownPartition (leb partitions_max p) _ refl (past NotOpen (not (is_reader r (manager_of st))) _ refl
    (past ShortOutput (ltb (length lent) (bytes_for (partition_at p st).rows)) _ refl (ends _ refl))))
answers-not_5 (purge p) st ok = rw (sound-ok st ok) (past UnknownPartition (leb partitions_max p) _ refl
    (either_way (skips (manager_of st).clock.lse (spans_at p st)) _ _ (ends _ refl) (ends _ refl)))
answers-not_5 (save e lent) st ok = rw (sound-ok st ok)
    (past OutOfRange (not (within (manager_of st).clock.lse (manager_of st).clock.lce e)) _ refl
    (past ShortOutput (ltb (length lent) (length (encoded (checkpoint_at e st)))) _ refl (ends _ refl)))
answers-not_5 (recover file) st ok = rw (lengths-ok st ok.shape)
    (past Corrupt (corrupt_in file) _ refl (ends _ refl))

pub sound-answers : (c : Call) (st : Store) → SoundOk st → (reply_of (step c st).answer).number ≡ 5 → ⊥
sound-answers c st ok = eqb-false (reply_of (step c st).answer).number 5 (answers-not_5 c st ok).number

-- 01: the value 0 means the greatest target that is not held, so it is never refused
pub target-zero-accepted : (st : Store) → SoundOk st → (reply_of (step (advance_lse 0) st).answer).number ≡ 0
unfolding step advance_lse_answer
target-zero-accepted st ok = let m = manager_of st in let t = target_of 0 m in let g = target-zero m ok.shape.manager in
    rw (sound-ok st ok, le-leb m.clock.lse t g.low, le-leb t m.clock.lce g.high, g.free)

-- ---- a refused call

-- the bytes that a call is lent to write: the bitmap of a scan, the output of a save
abbrev pub lent_to : Call → List ℕ
lent_to (create s) = []
lent_to (manage c) = []
lent_to (append i p batch) = []
lent_to (clear i p) = []
lent_to (rollback i) = []
lent_to (scan r p lent) = lent
lent_to (purge p) = []
lent_to (save e lent) = lent
lent_to (recover file) = []

-- 01: a refusal has no other answers, and nothing changes
pub record RefusedSame (c : Call) (st : Store) : Type 0 where
  pub store : (step c st).store ≡ st
  pub bytes : (step c st).bytes ≡ lent_to c
  pub live : (step c st).live ≡ []
  pub values : (reply_of (step c st).answer).values ≡ []

record Same (c : Call) (st : Store) : Type 0 where
  store : (step c st).store ≡ st
  bytes : (step c st).bytes ≡ lent_to c
  live : (step c st).live ≡ []

same_of : (c : Call) (st : Store) → accepted (step c st).answer ≡ false → Same c st
unfolding step
same_of (create s) st f = record { store = rw f; bytes = refl; live = refl }
same_of (manage c) st f = record { store = rw f; bytes = refl; live = refl }
same_of (append i p batch) st f = record { store = rw f; bytes = refl; live = refl }
same_of (clear i p) st f = record { store = rw f; bytes = refl; live = refl }
same_of (rollback i) st f = record { store = rw f; bytes = refl; live = refl }
same_of (scan r p lent) st f = record { store = refl; bytes = rw f; live = refl }
same_of (purge p) st f = record { store = rw f; bytes = refl; live = purge-live-refused p st f }
same_of (save e lent) st f = record { store = refl; bytes = rw f; live = refl }
same_of (recover file) st f = record { store = rw f; bytes = refl; live = refl }

pub refused-same : (c : Call) (st : Store) → accepted (step c st).answer ≡ false → RefusedSame c st
refused-same c st f = let k = same_of c st f in
    record { store = k.store; bytes = k.bytes; live = k.live; values = refused-values (step c st).answer f }

-- ---- a rewrite fits: no more rows and entries than the spans ss had, and those are at most what an area
-- holds

pub record RewriteFits (ts ss : List Span) : Type 0 where
  pub rows : length (words_of ts) ≤ length (words_of ss)
  pub rows-room : length (words_of ss) ≤ rows_max
  pub entries : length ts ≤ length ss
  pub entries-room : length ss ≤ entries_max

words-rolled_back : (i : ℕ) (ss : List Span) → length (words_of (rolled_back i ss)) ≤ length (words_of ss)
unfolding rolled_back
words-rolled_back i ss = let q : Span → Bool = λ s. not (eqb s.epoch i) in
    rw (words-joined (keep_if q ss)) (words-keep_if q ss)

pub length-rolled_back : (i : ℕ) (ss : List Span) → length (rolled_back i ss) ≤ length ss
unfolding rolled_back
length-rolled_back i ss = let q : Span → Bool = λ s. not (eqb s.epoch i) in
    let a = length-joined (keep_if q ss) in let b = length-keep_if q ss in omega arith

length-purged : (l : ℕ) (ss : List Span) → length (purged l ss) ≤ length ss
unfolding purged
length-purged l ss = let a = length-joined (purged_in l ss ss) in let b = length-purged_in l ss ss in omega arith

pub rewrite-fits : (st : Store) → StoreOk st → (p : ℕ) → p < partitions_max → (l i : ℕ)
    → RewriteFits (purged l (spans_at p st)) (spans_at p st)
    × RewriteFits (rolled_back i (spans_at p st)) (spans_at p st)
rewrite-fits st ok p h l i = let ss = spans_at p st in let k = (ok.partition p h).spans-ok in (
  record {
    rows = words-purged l ss;
    entries = length-purged l ss;
    rows-room = k.rows_fit;
    entries-room = k.entries_fit;
  },
  record {
    rows = words-rolled_back i ss;
    entries = length-rolled_back i ss;
    rows-room = k.rows_fit;
    entries-room = k.entries_fit;
  },
)
