-- Laws of a session's lines. Definitions: specs/Session.antt.
-- In order: lines are rules' calls; lines one after the other.
-- Assumes nothing.
use mathlib.Core.Path.{◌≡◌, refl, sym, ◌∙◌, ap}
use mathlib.Core.List.{List, [], ◌∷◌, ◌++◌, append_assoc}
use Prim.Native.Nat.{ℕ}
use Rattle.lists.specs.Lists.{gather}
use Rattle.rules.specs.Step.{Call, run}
use Rattle.rules.specs.Store.{Store}
use Rattle.session_text.specs.Grammar.{parsed}
use Rattle.std.specs.Prelude.{Option, None, Some}
use Rattle.session_text.specs.declared.Call.{Call as Read}
use Rattle.session_line.specs.Session.{after_is, after_line, answer_to, after_lines, answers_to, calls_is, calls_of}

-- ---- lines are calls

after_is_lem : (line : List ℕ) (p : Option Read) (calls : List Call) (st : Store)
    → run (calls_is line p ++ calls) st ≡ run calls (after_is line p st)
unfolding run
after_is_lem line (Some c) calls st = refl
after_is_lem line None calls st = refl

pub lines-run : (lines : List (List ℕ)) (st : Store) → after_lines lines st ≡ run (gather calls_of lines) st
unfolding after_lines run after_line calls_of
lines-run [] st = refl
lines-run (l ∷ ls) st = lines-run ls (after_is l (parsed l) st)
    ∙ sym (after_is_lem l (parsed l) (gather calls_of ls) st)

-- ---- lines one after the other

pub after-append : (ls ms : List (List ℕ)) (st : Store) → after_lines (ls ++ ms) st ≡ after_lines ms (after_lines ls st)
unfolding after_lines
after-append [] ms st = refl
after-append (l ∷ ls) ms st = after-append ls ms (after_line l st)

pub answers-append : (ls ms : List (List ℕ)) (st : Store)
    → answers_to (ls ++ ms) st ≡ answers_to ls st ++ answers_to ms (after_lines ls st)
unfolding answers_to after_lines
answers-append [] ms st = refl
answers-append (l ∷ ls) ms st = let a = answer_to l st in let next = after_line l st in
    ap (λ (bs : List ℕ). a ++ bs) (answers-append ls ms next)
    ∙ sym (append_assoc a (answers_to ls next) (answers_to ms (after_lines ls next)))
