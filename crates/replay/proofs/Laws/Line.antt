-- Laws of one line, as the code goes: parse, turn, show, print. Definitions: specs/Replay.antt, specs/Rooms.antt,
-- specs/Shown.antt.
-- In order: the rows shown after a call; a line that is none; one that is a call.
-- Assumes nothing.
use mathlib.Core.Path.{◌≡◌, refl, sym, ◌∙◌, ap}
use mathlib.Core.Bool.{cond}
use mathlib.Core.List.{List}
use Prim.Native.Nat.{ℕ, ◌-◌, ◌≤◌}
use native.Mathlib.Omega.{arith}
use lib.Dec.{leb}
use lib.ListN.{length, take, drop}
use lib.Seq.{take_all}
use borrow.Author.Tests.{le-leb}
use Rattle.lists.specs.Lists.{over}
use Rattle.lists.proofs.Laws.Parts.{length_over}
use Rattle.rules.specs.Step.{call_of, step}
use Rattle.rules.specs.Store.{Store}
use Rattle.rules.specs.declared.Command.{Command}
use Rattle.rules.specs.declared.Entry.{Entry}
use Rattle.laws.proofs.Laws.Step.{scan-or}
use Rattle.session_text.specs.Grammar.{numbers_in, parsed, is_call}
use Rattle.session_text.specs.Lines.{size_in, written_in}
use Rattle.session_text.specs.Print.{printed, question}
use Rattle.std.specs.Prelude.{Option, None, Some}
use Rattle.session_text.specs.declared.Call.{Call}
use Rattle.store.specs.Kept.{store_of}
use Rattle.rules.specs.declared.Kept.{Kept}
use Rattle.dispatch.specs.Dispatch.{bytes_left, Did}
use Rattle.session_line.specs.Session.{bits, call_in, rows_shown, after_line, answer_to}
use Rattle.session_line.specs.Rooms.{numbers_max, answer_max, held_after}
use Rattle.session_line.specs.Shown.{shown_in, fitting}
use Rattle.session_line.proofs.Laws.Rooms.{fit_line, room-parsed, rows-batch, shown-few, printed-few}

-- ---- the rows shown

-- by what the call left
shown-after : (c : Command) (batch : List ℕ) (st : Store) → let out = step (call_of c batch bits) st in
    shown_in c out.answer out.store.state.partitions (bytes_left c out bits) out.store.rows ≡ rows_shown c st
unfolding step
shown-after c batch st = scan-or
    (λ c. let out = step (call_of c batch bits) st in
    shown_in c out.answer out.store.state.partitions (bytes_left c out bits) out.store.rows
    ≡ rows_shown c st)
    (λ r p. refl) (λ c o. o _ _ _ ∙ sym (o _ _ _)) c

-- ---- a line answered: the store, how many bytes, the output and the numbers

abbrev pub Said : List ℕ → List ℕ → List ℕ → Store → Store → ℕ → List ℕ → List ℕ → Type 0
Said line numbers out st after size o v = (after ≡ after_line line st) × ((size ≡ length (answer_to line st))
    × ((o ≡ over 0 (answer_to line st) out) × (v ≡ held_after line st numbers)))

-- ---- a line parsed, with room for every line

module _ (line numbers out : List ℕ) (st : Store) (room-n : numbers_max ≤ length numbers)
    (room_o : answer_max ≤ length out) (r : Option Call) (w : List ℕ)
    (parses : r ≡ cond (leb (length (numbers_in line)) (length numbers)) (parsed line) None)
    (writes : w ≡ cond (is_call r) (over 0 (numbers_in line) numbers) numbers) where
  is-line : parsed line ≡ r
  is-line = sym (parses ∙ room-parsed (length (numbers_in line)) (length numbers) (parsed line) (fit_line line) room-n)

  -- one that is none
  pub line-bad : r ≡ None → (size : ℕ) (o : List ℕ) → size ≡ size_in question out → o ≡ written_in question out
      → Said line numbers out st st size o w
  unfolding after_line answer_to held_after
  line-bad is size o p q = let l = le-leb (length question) (length out) (omega arith) in
      rw (is-line ∙ is) (refl, (rw l at p, (rw l at q, rw is at writes)))

  -- one that is a call
  module _ (p : Call) (is : r ≡ Some p) where
    abbrev c : Command
    c = p.command

    abbrev k : ℕ
    k = p.rows

    fit : (k ≡ length (numbers_in line) - 2) × (length (numbers_in line) ≤ numbers_max)
    fit = rw (is-line ∙ is) at (fit_line line)

    numbers-at : w ≡ over 0 (numbers_in line) numbers
    numbers-at = rw is at writes

    length-parsed : length w ≡ length numbers
    length-parsed = rw numbers-at (length_over 0 (numbers_in line) numbers (omega (arith, fit.1)))

    -- its rows lie in the buffer
    batch : take k (drop 2 w) ≡ drop 2 (numbers_in line)
    batch = rw (fit.0, numbers-at) (rows-batch (numbers_in line) numbers)

    module _ (t : Kept) (rows bytes : List ℕ) (entries : List Entry)
        (turns : Did c (step (call_of c (take k (drop 2 w)) bits) st) t rows entries bits bytes) where
      did : Did c (step (call_in line c) st) t rows entries bits bytes
      did = rw batch at turns

      abbrev left : List ℕ
      left = fitting (shown_in c t.answer t.state.partitions bytes rows) w

      all : left ≡ rows_shown c st
      all = let shown : shown_in c t.answer t.state.partitions bytes rows ≡ rows_shown c st =
          rw (
            did.0.0,
            did.1,
            ap (λ (s : Store). s.state.partitions) did.0.1,
            ap (λ (s : Store). s.rows) did.0.1,
          ) (shown-after c (drop 2 (numbers_in line)) st) in
          rw shown (take_all (length w) (rows_shown c st) (omega (arith, shown-few c st, length-parsed, room-n)))

      pub line-called : (size : ℕ) (o v : List ℕ) → size ≡ size_in (printed c t.answer left) out
          → o ≡ written_in (printed c t.answer left) out → v ≡ over 0 left w
          → Said line numbers out st (store_of t.state rows entries) size o v
      unfolding after_line answer_to held_after
      line-called size o v p q shows = let a = printed c (step (call_in line c) st).answer (rows_shown c st) in
          let l = le-leb (length a) (length out) (omega (
            arith,
            printed-few c (step (call_in line c) st).answer (rows_shown c st) (shown-few c st),
          )) in
          rw (is-line ∙ is) (
            did.0.1,
            (
              rw (all, did.0.0, l) at p,
              (
                rw (all, did.0.0, l) at q,
                rw (all, numbers-at) at shows,
              ),
            ),
          )
