-- What is written in a whole run is the answers to all lines of the input that came. Definitions: specs/Run.antt.
-- In order: run-owed, run-answers; what is reached, as the code goes.
-- Assumes nothing.
use mathlib.Core.Path.{◌≡◌, refl, sym, ◌∙◌, ap}
use mathlib.Core.Bool.{Bool, true, false, ◌&&◌}
use mathlib.Core.List.{List, [], ◌++◌, append_assoc, append-nil}
use Prim.Native.Nat.{ℕ}
use lib.ListN.{take, drop}
use Rattle.lists.proofs.Laws.Bools.{split, and_left, and_right, and_both}
use Rattle.lists.proofs.Laws.Tests.{no_proof}
use Rattle.rules.specs.Store.{Store}
use Rattle.session_line.specs.Session.{answers_to}
use Rattle.replay.specs.Lines.{lines_in, bytes_of}
use Rattle.replay.specs.Chunks.{session_lines}
use Rattle.serve.specs.Turn.{held_in, came_in, ended_by, owed, Standing, Opened, Turned}
use Rattle.serve.specs.Run.{Run, opened, next, Reached, RunTo}
use Rattle.std.specs.Prelude.{Result, Ok}
use Rattle.std.specs.Result.{IsErr}
use Rattle.serve.specs.declared.Failure.{Failure}
use Rattle.serve.specs.declared.turn.Session.{Session}
use Rattle.serve.proofs.Laws.Turn.{front_rest, opened-none}

-- once the input has ended nothing comes
none_came : (s : Session) (n : ℕ) (input more : List ℕ) (ends : Bool) → s.reads && s.ended ≡ false
    → ends ≡ ended_by s n → (ends ≡ true → more ≡ []) → s.ended ≡ true
    → came_in s n input ++ more ≡ []
none_came s n input more ends live e m y =
    split s.reads (λ t. no_proof (sym live ∙ and_both s.reads s.ended t y))
    (λ f. rw f (m (e ∙ (rw f y))))

-- whatever comes after: what the whole input is owed is what was written, then what is owed now
pub run-owed : (start : Store) {came said : List ℕ} {s : Session} {input : List ℕ} {st : Store}
    → Run start came said s input st → (more : List ℕ) → (s.ended ≡ true → more ≡ [])
    → owed came more start ≡ said ++ owed (held_in s input) more st
run-owed start (opened s input none begun) more m = rw none
run-owed start (next came' said' s' left st' run live n input' same r now out after t) more m =
    let c = came_in s' n input' in let o = take r.written out in
    let ih = run-owed start run (c ++ more)
    (none_came s' n input' more r.ended live t.ended m) in
    let h : held_in s' left ≡ held_in s' input' = ap (drop s'.from) (sym same) in
    ap (λ (l : List ℕ). answers_to (session_lines l) start) (append_assoc came' c more)
    ∙ (ih ∙ (ap (λ (l : List ℕ). said' ++ owed l (c ++ more) st') h
    ∙ (ap (λ (l : List ℕ). said' ++ answers_to (session_lines l) st') (sym (append_assoc (held_in s' input') c more))
    ∙ (ap (λ (l : List ℕ). said' ++ l) (t.owing more m)
    ∙ sym (append_assoc said' o (owed (held_in r now) more after))))))

pub run-answers : (start : Store) (came said : List ℕ) (s : Session) (input : List ℕ) (st : Store)
    → Run start came said s input st → Standing s input → s.reads && s.ended ≡ true
    → said ≡ answers_to (session_lines came) start
unfolding lines_in answers_to bytes_of
run-answers start came said s input st run stands done =
    let t = and_left s.reads s.ended done in let y = and_right s.reads s.ended done in
    let none : held_in s input ≡ [] = sym (front_rest (held_in s input) (stands.lines t)) ∙ stands.last y in
    let o = rw none at (run-owed start run [] (λ _. refl)) in
    sym (rw (append-nil came, append-nil said) at o)

-- ---- what is reached

pub reached-first : (s : Session) (input : List ℕ) (st : Store) → Opened s → Reached st s input st
reached-first s input st o =
    record { came = []; said = []; left = input; run = opened s input (opened-none s input o) o.ended; same = refl }

module _ (start : Store) (s : Session) (input : List ℕ) (st : Store) (k : Reached start s input st) (now : List ℕ)
    (same : take s.end now ≡ take s.end input) where
  -- more is read behind the bytes held
  pub reached-read : Reached start s now st
  reached-read = record { came = k.came; said = k.said; left = k.left; run = k.run; same = same ∙ k.same }

  -- and a turn is taken
  pub reached-next : s.reads && s.ended ≡ false → (n : ℕ) (r : Session) (last out : List ℕ) (after : Store)
      → Turned s n now st r last out after → Reached start r last after
  reached-next live n r last out after t = record {
    came = k.came ++ came_in s n now;
    said = k.said ++ take r.written out;
    left = last;
    run = next k.came k.said s k.left st k.run live n now (same ∙ k.same) r last out after t;
    same = refl;
  }

module _ (start : Store) (s : Session) (input : List ℕ) (st : Store) (k : Reached start s input st) where
  pub run-failed : (how : Result (Unit {0}) Failure) → IsErr how → RunTo start how s input st
  run-failed how h = record { reached = k; whole = λ e. no_proof (rw e at h) }

  pub run-all : s.reads && s.ended ≡ true → Standing s input → RunTo start (Ok tt) s input st
  run-all done stands = record { reached = k; whole = λ _. (done, stands) }
