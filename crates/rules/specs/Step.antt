-- One call on the store, for all input, and a list of calls. 01 "Refusals": a refusal changes nothing.
-- In order: Call, the calls on the manager by name, call_of, on_scan, Outcome, step, run. Laws:
-- laws/proofs/Laws/Sound.antt.
-- Assumes nothing.
use Rattle.std.specs.Prelude.{cond, List, [], ◌∷◌, ◌++◌, ℕ, ◌*◌, length, drop}
use Rattle.lists.specs.Lists.{part}
use Rattle.rules.specs.Limits.{partitions_max, rows_max}
use Rattle.rules.specs.Close.{rolled_back_manager}
use Rattle.rules.specs.Append.{appended, cleared}
use Rattle.rules.specs.Bitmap.{bitmap_after}
use Rattle.rules.specs.Checkpoint.{Checkpoint, encoded, saved_in}
use Rattle.rules.specs.Store.{Store, manager_of, partition_at, spans_at, with_manager, laid_in_place}
use Rattle.rules.specs.Store.{refreshed, created_store, rolled_back_below, purged_store}
use Rattle.rules.specs.Answers.{accepted, live_part}
use Rattle.rules.specs.WellFormed.{sound, lengths_ok}
use Rattle.rules.specs.Calls.{create_answer, manager_answer, manager_after, append_answer, clear_answer, close_answer}
use Rattle.rules.specs.Calls.{scan_answer, purge_answer, flags_at}
use Rattle.rules.specs.Recovery.{checkpoint_at, save_answer, recovered_store, recover_answer}
use Rattle.rules.specs.declared.Reader.{Reader}
use Rattle.rules.specs.declared.Answer.{Answer}
use Rattle.rules.specs.declared.ManagerCall.{ManagerCall}
use Rattle.rules.specs.declared.ManagerCall.TheVariants.{Begin, Commit, BeginRo, EndRo, AdvanceLse}
use Rattle.rules.specs.declared.Command.{Command}
use Rattle.rules.specs.declared.Command.TheVariants.{Create, Manage, Append, Clear, RollBack, Scan, Purge}
use Rattle.rules.specs.declared.Command.TheVariants.{Save, Recover}

-- a call on the manager changes nothing else; append and clear name the transaction, then the partition; a scan has
-- the bitmap that it is lent, a save (02 (v)) the epoch and the output, a recovery the file
pub data Call : Type 0 where
  create : ℕ → Call
  manage : ManagerCall → Call
  append : ℕ → ℕ → List ℕ → Call
  clear : ℕ → ℕ → Call
  rollback : ℕ → Call
  scan : Reader → ℕ → List ℕ → Call
  purge : ℕ → Call
  save : ℕ → List ℕ → Call
  recover : List ℕ → Call

-- the calls on the manager, by name
abbrev pub begin : Call
begin = manage Begin

abbrev pub commit : ℕ → Call
commit i = manage (Commit i)

abbrev pub begin_ro : ℕ → Call
begin_ro e = manage (BeginRo e)

abbrev pub end_ro : ℕ → Call
end_ro t = manage (EndRo t)

abbrev pub advance_lse : ℕ → Call
advance_lse t = manage (AdvanceLse t)

-- the call that a command names, with the batch and the bytes that are lent beside it
abbrev pub call_of : Command → List ℕ → List ℕ → Call
call_of (Create s) batch lent = create s
call_of (Manage c) batch lent = manage c
call_of (Append i p) batch lent = append i p batch
call_of (Clear i p) batch lent = clear i p
call_of (RollBack i) batch lent = rollback i
call_of (Scan r p) batch lent = scan r p lent
call_of (Purge p) batch lent = purge p
call_of (Save e) batch lent = save e lent
call_of Recover batch lent = recover lent

-- ---- where only a scan matters: f of it, d of another call

abbrev pub on_scan : {A : Type 0} → Call → (Reader → ℕ → List ℕ → A) → A → A
on_scan (create s) f d = d
on_scan (manage c) f d = d
on_scan (append i p batch) f d = d
on_scan (clear i p) f d = d
on_scan (rollback i) f d = d
on_scan (scan r p lent) f d = f r p lent
on_scan (purge p) f d = d
on_scan (save e lent) f d = d
on_scan (recover file) f d = d

abbrev pub on_scan_command : {A : Type 0} → Command → (Reader → ℕ → A) → A → A
on_scan_command c f d = on_scan (call_of c [] []) (λ (r : Reader) (p : ℕ) (lent : List ℕ). f r p) d

-- ---- what a call does

-- the answer, the store and the bytes that it was lent to write as the call leaves them, and the part that it returns
pub record Outcome : Type 0 where
  pub answer : Answer
  pub store : Store
  pub bytes : List ℕ
  pub live : List ℕ

-- a call that is lent no bytes to write and returns no part; a refused one changes nothing
abbrev pub outcome : Answer → Store → Store → Outcome
outcome a next st = record { answer = a; store = cond (accepted a) next st; bytes = []; live = [] }

-- a call that changes nothing but the bytes lent
abbrev pub write_outcome : Answer → List ℕ → List ℕ → Store → Outcome
write_outcome a next lent st = record { answer = a; store = st; bytes = cond (accepted a) next lent; live = [] }

-- a checkpoint at the front of the output; later bytes stay
unfoldable pub saved_over : Checkpoint → List ℕ → List ℕ
saved_over c lent = encoded c ++ drop (length (encoded c)) lent

-- the words of area a
abbrev pub area_rows : ℕ → Store → List ℕ
area_rows a st = part (rows_max * a) rows_max st.rows

-- purge returns a part of the area that the partition had, or of the area that was spare
abbrev pub purge_outcome : ℕ → Answer → Store → Store → Outcome
purge_outcome p a next st =
    let end = cond (accepted a) next st in
    record {
      answer = a;
      store = end;
      bytes = [];
      live = live_part (area_rows (partition_at p st).area end) (area_rows st.state.partitions.spare end) a;
    }

unfoldable pub step : Call → Store → Outcome
step (create s) st = outcome (create_answer s (lengths_ok st)) (created_store s st) st
step (manage c) st =
    outcome (manager_answer c (sound st) (manager_of st))
    (refreshed (with_manager (manager_after c (manager_of st)) st)) st
step (append i p batch) st =
    outcome (append_answer i p batch st) (laid_in_place p (appended i batch (spans_at p st)) st) st
step (clear i p) st = outcome (clear_answer i p st) (laid_in_place p (cleared i (spans_at p st)) st) st
step (rollback i) st =
    let next = rolled_back_manager i (manager_of st) in
    outcome (close_answer i (sound st) (manager_of st) next)
    (refreshed (with_manager next (rolled_back_below i partitions_max st))) st
step (scan r p lent) st = write_outcome (scan_answer r p lent st) (bitmap_after (flags_at r p st) lent) lent st
step (purge p) st = purge_outcome p (purge_answer p st) (purged_store p st) st
step (save e lent) st = write_outcome (save_answer e lent st) (saved_over (checkpoint_at e st) lent) lent st
step (recover file) st = outcome (recover_answer file (lengths_ok st)) (recovered_store (saved_in file) st) st

-- the store after a list of calls
unfoldable pub run : List Call → Store → Store
run [] st = st
run (c ∷ cs) st = run cs (step c st).store
