-- What a call by value keeps, and what a public call leaves, beside rules' step.
-- In order: store_of, Left, Showed, the calls on the manager, a roll back's part, what lands. Laws:
-- proofs/Laws/Kept.antt.
-- Assumes nothing.
use Rattle.std.specs.Prelude.{◌≡◌, Bool, true, false, ◌&&◌, cond, List, [], map, ℕ, take}
use Rattle.rules.specs.Store.{Store, created_state, with_totals_in}
use Rattle.rules.specs.Answers.{accepted}
use Rattle.rules.specs.WellFormed.{manager_ok}
use Rattle.rules.specs.Close.{rolled_back_manager}
use Rattle.rules.specs.Calls.{create_answer, close_answer, manager_answer, manager_after}
use Rattle.rules.specs.Step.{Outcome}
use Rattle.rules.specs.declared.Answer.{Answer}
use Rattle.rules.specs.declared.Clock.{Clock}
use Rattle.rules.specs.declared.ManagerCall.{ManagerCall}
use Rattle.rules.specs.declared.ManagerCall.TheVariants.{Begin, Commit, BeginRo, EndRo, AdvanceLse}
use Rattle.rules.specs.declared.Partitions.{Partitions}
use Rattle.rules.specs.declared.RwTxns.{RwTxns}
use Rattle.rules.specs.declared.Entry.{Entry}
use Rattle.rules.specs.Manager.{Writer, view, manager_in}
use Rattle.rules.specs.declared.State.{State}
use Rattle.txn.specs.Kept.{kept_of}
use Rattle.txn_close.specs.Close.{lce_after}
use Rattle.partition_sound.specs.Asked.{lengths_are, asked_for}
use Rattle.partition_sound.specs.declared.Asked.{Asked}
use Rattle.partition_sound.specs.declared.Verdict.{Verdict}
use Rattle.rules.specs.declared.Kept.{Kept}

-- the store of the books and the lent areas
abbrev pub store_of : State → List ℕ → List Entry → Store
store_of s rows entries = record { state = s; rows = rows; entries = entries }

-- a call answers what step says; the books that it hands back, and the lent areas at its end, are step's store
abbrev pub Left : Outcome → Kept → List ℕ → List Entry → Type 0
Left out r rows entries = (r.answer ≡ out.answer) × (store_of r.state rows entries ≡ out.store)

-- a scan answers what step says and leaves these bytes; the store st that it read is step's at the end too
abbrev pub Showed : Outcome → Answer → List ℕ → Store → Type 0
Showed out r bytes st = (r ≡ out.answer) × (bytes ≡ out.bytes) × (st ≡ out.store)

-- ---- calls on the manager

-- making new reads no state
abbrev pub create_kept : State → ℕ → ℕ → ℕ → Kept
create_kept s n m a =
    let answer = create_answer a (lengths_are n m) in
    record { state = cond (accepted answer) (created_state a) s; answer = answer }

-- rest says whether the rest of the store is sound
abbrev pub manager_kept : State → Bool → ManagerCall → Kept
manager_kept s rest c =
    kept_of (manager_answer c (rest && manager_ok (manager_in s)) (manager_in s)) (manager_after c (manager_in s)) s

-- the manager's part of rolling back transaction i
abbrev pub roll_back_kept : State → Bool → ℕ → Kept
roll_back_kept s rest i =
    let m = manager_in s in let next = rolled_back_manager i m in
    kept_of (close_answer i (rest && manager_ok m) m next) next s

-- ---- the totals brought up to date (02 (iii))

-- the records without their deps
abbrev pub records_of : RwTxns → List Writer
records_of ts = map (view []) (take ts.count ts.at)

-- LCE after a call on the manager: only a commit moves it
abbrev pub reached_by : Clock → RwTxns → ManagerCall → ℕ
reached_by c ts Begin = c.lce
reached_by c ts (Commit i) = lce_after true i c.lce (records_of ts)
reached_by c ts (BeginRo e) = c.lce
reached_by c ts (EndRo t) = c.lce
reached_by c ts (AdvanceLse t) = c.lce

-- what is asked of the lots: the epochs land that LCE then reaches
abbrev pub asked_call : Clock → RwTxns → Partitions → List ℕ → ManagerCall → Asked
asked_call c ts ps totals call = asked_for c ts ps totals (reached_by c ts call) 0

abbrev pub asked_commit : Clock → RwTxns → Partitions → List ℕ → ℕ → Asked
asked_commit c ts ps totals i = asked_call c ts ps totals (Commit i)

-- where transaction i is rolled back its own epoch does not
abbrev pub asked_roll_back : Clock → RwTxns → Partitions → List ℕ → ℕ → Asked
asked_roll_back c ts ps totals i = asked_for c ts ps totals (lce_after false i c.lce (records_of ts)) i

-- the totals of an accepted call; a refused one changes nothing
abbrev pub landed_kept : Kept → List ℕ → Kept
landed_kept done ts = record {
  state = cond (accepted done.answer) (with_totals_in ts done.state) done.state;
  answer = done.answer;
}

-- a call by value on the manager, by what the lots' test found
abbrev pub rest_kept : Kept → Verdict → Kept
rest_kept done r = landed_kept done r.totals
