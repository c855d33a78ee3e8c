-- Laws of one turn of the loop over lines. Definitions: session_line/specs/Turn.antt.
-- In order: a line as the turn takes it; the loop, with what holds at each turn, at its start,
-- from one turn to the next, and at its end.
-- Assumes nothing.
use mathlib.Core.Path.{◌≡◌, refl, sym, ◌∙◌, ap}
use mathlib.Core.Bool.{true, false, cond}
use mathlib.Core.List.{List, ◌∷◌, ◌++◌}
use Prim.Native.Nat.{ℕ, ◌+◌, ◌-◌, ◌≤◌, ◌<◌, min}
use native.Mathlib.Omega.{arith}
use lib.Dec.{leb, eqb}
use lib.ListN.{length, take, drop, length-drop}
use borrow.Author.Tests.{leb-true, leb-false, le-leb, eqb-true, eq-eqb}
use Rattle.lists.specs.Lists.{over, part}
use Rattle.lists.proofs.Laws.Bools.{split}
use Rattle.lists.proofs.Laws.Over.{over-nil}
use Rattle.lists.proofs.Laws.Tests.{no_proof}
use Rattle.rules.specs.Step.{call_of, step}
use Rattle.rules.specs.Store.{Store}
use Rattle.rules.specs.declared.Entry.{Entry}
use Rattle.rules.specs.declared.State.{State}
use Rattle.session_text.specs.Grammar.{numbers_in, is_call}
use Rattle.session_text.specs.Lines.{size_in, written_in, line_end}
use Rattle.std.specs.Prelude.{Option, None, Some}
use Rattle.session_text.specs.declared.Call.{Call}
use Rattle.store.specs.Kept.{store_of}
use Rattle.rules.specs.declared.Kept.{Kept}
use Rattle.dispatch.specs.Dispatch.{Did}
use Rattle.dispatch.proofs.Nothing.{purge-none}
use Rattle.session_line.specs.Session.{bits}
use Rattle.session_line.specs.Rooms.{numbers_max, answer_max}
use Rattle.replay.specs.Lines.{lines_in}
use Rattle.session_line.specs.Turn.{room_for, cursor_at, cursor_after, line_at, parsed_in, words_in, command_in}
use Rattle.session_line.specs.Turn.{rows_in}
use Rattle.session_line.specs.Turn.{said_in, shown_of}
use Rattle.session_line.specs.declared.turn.Cursor.{Cursor}
use Rattle.replay.proofs.Laws.Line.{Said, line-called, line-bad}
use Rattle.replay.proofs.Laws.Lines.{lines-some, Rest, rest-start, Done, done-short, done_none, done_full}
use Rattle.replay.proofs.Laws.Lines.{rest-made}

-- ---- a line, handed on as the command that it is, or as one that does nothing

module _ (line numbers out : List ℕ) (st : Store) (room-n : numbers_max ≤ length numbers)
    (room_o : answer_max ≤ length out) (k : Kept) (rows bytes : List ℕ) (entries : List Entry) where
  said-by : (p : Option Call) (w : List ℕ) → p ≡ parsed_in line numbers
      → w ≡ cond (is_call p) (over 0 (numbers_in line) numbers) numbers
      → Did (command_in p) (step (call_of (command_in p) (part 2 (rows_in p) w) bits) st) k rows entries bits bytes
      → let a = said_in p k bytes rows w in
      Said line numbers out st (store_of k.state rows entries) (size_in a out) (written_in a out)
      (over 0 (shown_of p k bytes rows w) w)
  said-by (Some c) w parses writes did = line-called line numbers out st room-n room_o (Some c) w parses writes c
      refl k rows bytes entries did _ _ _ refl refl refl
  said-by None w parses writes did = rw (did.0.1 ∙ purge-none st, over-nil 0 w)
      (line-bad line numbers out st room-n room_o None w parses writes refl _ _ refl refl)

-- ---- the loop

least-left : (i n : ℕ) → i ≤ n → min i n ≡ i
least-left i n h = omega arith

pub record Loop : Type 0 where
  pub state : State
  pub entries : List Entry
  pub rows : List ℕ
  pub numbers : List ℕ
  pub out : List ℕ
  pub at : Cursor

abbrev pub stored : Loop → Store
stored t = store_of t.state t.rows t.entries

module _ (input : List ℕ) (s : State) (es : List Entry) (rs ns os : List ℕ) where
  abbrev pub room : ℕ
  room = room_for (length ns) (length os)

  -- where it starts
  abbrev pub first : Loop
  first = record { state = s; entries = es; rows = rs; numbers = ns; out = os; at = cursor_at input room 0 0 }

  abbrev Left : Loop → Type 0
  Left t = Rest input ns os (stored first) t.numbers t.out (stored t) t.at.used t.at.written

  abbrev pub Ended : Loop → Type 0
  Ended t = Done input ns os (stored first) t.numbers t.out (stored t) t.at.used t.at.written

  pub record Inv (t : Loop) : Type 0 where
    pub used_in : t.at.used ≤ length input
    pub written_in_lem : t.at.written ≤ length t.out
    pub rows_same : length t.rows ≡ length rs
    pub numbers-same : length t.numbers ≡ length ns
    pub out-same : length t.out ≡ length os
    pub cursor : t.at ≡ cursor_at input room t.at.used t.at.written
    pub rest : numbers_max ≤ length ns → Left t
    pub short : length ns < numbers_max → Ended t

  pub inv-start : Inv first
  inv-start = record {
    used_in = omega arith;
    written_in_lem = omega arith;
    rows_same = refl;
    numbers-same = refl;
    out-same = refl;
    cursor = refl;
    rest = rest-start input ns os (stored first);
    short = done-short input ns os (stored first);
  }

  module _ (t : Loop) (inv : Inv t) where
    abbrev e : ℕ
    e = line_end input t.at.used

    more-is : t.at.more ≡ cond (eqb e (length input)) false (leb answer_max (room - t.at.written))
    more-is = ap (λ (c : Cursor). c.more) inv.cursor

    end_is : t.at.end ≡ e
    end_is = ap (λ (c : Cursor). c.end) inv.cursor

    room-full : numbers_max ≤ length ns → room ≡ length t.out
    room-full h = rw (le-leb numbers_max (length ns) h) (sym inv.out-same)

    pub inv-end : t.at.more ≡ false → Ended t
    inv-end none = split (leb numbers_max (length ns))
        (λ y. let h = leb-true numbers_max (length ns) y in split (eqb e (length input))
        (λ at-end. done_none input ns os (stored first) t.numbers t.out (stored t) t.at.used
        t.at.written (inv.rest h) inv.used_in (eqb-true e (length input) at-end))
        (λ f. done_full input ns os (stored first) t.numbers t.out (stored t) t.at.used t.at.written
        (inv.rest h) (full h (leb-false answer_max (room - t.at.written) (sym (rw f at more-is) ∙ none)))))
        (λ n. inv.short (leb-false numbers_max (length ns) n))
      where
        full : numbers_max ≤ length ns → room - t.at.written < answer_max
            → length t.out - t.at.written < answer_max
        full h l = rw (← room-full h) l

    module _ (some : t.at.more ≡ true) where
      has_room : answer_max ≤ room - t.at.written
      has_room = split (eqb e (length input)) (λ y. no_proof (sym (rw y at more-is) ∙ some))
          (λ f. leb-true answer_max (room - t.at.written) (sym (rw f at more-is) ∙ some))

      not_end : e ≡ length input → ⊥
      not_end q = no_proof (sym (more-is ∙ rw (eq-eqb e (length input) q) refl) ∙ some)

      enough : numbers_max ≤ length ns
      enough = split (leb numbers_max (length ns)) (λ y. leb-true numbers_max (length ns) y)
          (λ f. absurd (omega (arith, rw f at has_room)))

      room_o : answer_max ≤ length t.out - t.at.written
      room_o = rw (← room-full enough) has_room

      abbrev line : List ℕ
      line = take (e - t.at.used) (drop t.at.used input)

      some-line : (t.at.used ≤ e) × (e < length input) × (lines_in (drop t.at.used input)
          ≡ line ∷ lines_in (drop (e + 1) input))
      some-line = lines-some input t.at.used e refl inv.used_in not_end

      line-is : line_at t.at input ≡ line
      line-is = rw (
        end_is,
        least-left e (length input) (omega (arith, some-line.1)),
        least-left t.at.used e some-line.0,
      ) refl

      -- what the callees left, one after the other
      module _ (p : Option Call) (w : List ℕ) (parses : p ≡ parsed_in (line_at t.at input) t.numbers)
          (writes : w ≡ words_in (line_at t.at input) t.numbers) (b : List ℕ) (batch : b ≡ part 2 (rows_in p) w)
          (k : Kept) (rows bytes : List ℕ) (entries : List Entry)
          (did : Did (command_in p) (step (call_of (command_in p) b bits) (stored t)) k rows entries bits bytes)
          (c : Cursor) (o v : List ℕ) where
        abbrev pub next : Loop
        next = record { state = k.state; entries = entries; rows = rows; numbers = v; out = o; at = c }

        abbrev said : List ℕ
        said = said_in p k bytes rows w

        abbrev tail : List ℕ
        tail = drop t.at.written t.out

        least : min t.at.written (length t.out) ≡ t.at.written
        least = least-left t.at.written (length t.out) inv.written_in_lem

        read : p ≡ parsed_in line t.numbers
        read = rw line-is at parses

        put : w ≡ cond (is_call p) (over 0 (numbers_in line) t.numbers) t.numbers
        put = rw (line-is, ← read) at writes

        is_said : v ≡ over 0 (shown_of p k bytes rows w) w
            → Said line t.numbers tail (stored t) (stored next) (size_in said tail) (written_in said tail) v
        is_said h = rw h (said-by line t.numbers tail (stored t) (omega (arith, enough, inv.numbers-same))
            (omega (arith, room_o, length-drop t.at.written t.out)) k rows bytes entries p w read put
            (rw batch at did))

        moved : c ≡ cursor_after said input t.out t.at
            → c ≡ cursor_at input room (e + 1) (t.at.written + size_in said tail)
        moved h = h ∙ (rw (end_is, least, least-left (e + 1) (length input) (omega (arith, some-line.1)))
            (ap (λ (r : ℕ). cursor_at input r (e + 1) (t.at.written + size_in said tail)) (sym (room-full enough))))

        pub inv-next : c ≡ cursor_after said input t.out t.at
            → (let m = min t.at.written (length t.out) in
            o ≡ take m t.out ++ written_in said (drop m t.out))
            → v ≡ over 0 (shown_of p k bytes rows w) w → length rows ≡ length t.rows
            → length v ≡ length t.numbers → length o ≡ length t.out
            → Inv next × (length input - c.used < length input - t.at.used)
        inv-next moves is-o is-v same-r same-v same-o =
            let to = moved moves in let used : c.used ≡ e + 1 = ap (λ (z : Cursor). z.used) to in
            let written : c.written ≡ t.at.written + size_in said tail = ap (λ (z : Cursor). z.written) to in
            let whole : o ≡ take t.at.written t.out ++ written_in said tail = rw least at is-o in
            let r = rest-made input ns os (stored first) t.numbers t.out (stored t) t.at.used t.at.written
            (inv.rest enough) e refl inv.used_in not_end room_o (written_in said tail) v (stored next)
            (size_in said tail) (is_said is-v) in (
              record {
                used_in = omega (arith, used, some-line.1);
                written_in_lem = omega (arith, written, r.1.0, ap length whole);
                rows_same = same-r ∙ inv.rows_same;
                numbers-same = same-v ∙ inv.numbers-same;
                out-same = same-o ∙ inv.out-same;
                cursor = to ∙ (ap (λ (i : ℕ). cursor_at input room i (t.at.written + size_in said tail)) (sym used)
                    ∙ ap (λ (i : ℕ). cursor_at input room c.used i) (sym written));
                rest = λ _. rw (whole, used, written) r.0;
                short = λ l. absurd (omega (arith, enough, l));
              },
              omega (arith, used, some-line.0, some-line.1),
            )
