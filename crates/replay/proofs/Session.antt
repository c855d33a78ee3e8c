-- Demand 3 in a session's lines: whatever lines went before, a scan by an open reader prints the rows that the ledger
-- shows, in order. 01 "A session", "The ledger of demand 3".
-- In order: ledger_in, session_agrees, session-shows.
-- Assumes nothing.
use mathlib.Core.Path.{◌≡◌}
use mathlib.Core.Bool.{true}
use mathlib.Core.List.{List}
use Prim.Native.Nat.{ℕ, ◌*◌, ◌≤◌, ◌<◌}
use native.Mathlib.Omega.{arith}
use lib.ListN.{length}
use Rattle.lists.specs.Lists.{gather}
use Rattle.rules.specs.Bitmap.{bytes_for}
use Rattle.rules.specs.Claim.{Agrees, at_epoch, history, is_open_in, ledger_of, shown_by}
use Rattle.rules.specs.Ledger.{Ledger, new_ledger}
use Rattle.rules.specs.Limits.{rows_max, areas_max, partitions_max}
use Rattle.rules.specs.Step.{run}
use Rattle.rules.specs.Store.{Store, partition_at, created_state}
use Rattle.rules.specs.declared.Command.TheVariants.{Scan}
use Rattle.rules.specs.declared.Reader.{Reader}
use Rattle.laws.proofs.History.{history-shows}
use Rattle.laws.proofs.Promises.{follows-history}
use Rattle.laws.proofs.Laws.Sound.{rows-room}
use Rattle.lent.specs.Entries.{filled0}
use Rattle.session_text.specs.Grammar.{parsed}
use Rattle.session_text.specs.Print.{line_of, printed}
use Rattle.std.specs.Prelude.{Some}
use Rattle.store.specs.Kept.{store_of}
use Rattle.session_line.specs.Session.{bits, calls_of, after_lines, answer_to}
use Rattle.replay.specs.Start.{started}
use Rattle.session_line.proofs.Laws.Session.{lines-run}
use Rattle.replay.proofs.Laws.Start.{start-accepted}

-- 64 bytes have a bit for each row of a partition
bits-enough : (n : ℕ) → n ≤ rows_max → bytes_for n ≤ length bits
unfolding bytes_for
bits-enough n h = omega arith

module _ (rows : List ℕ) (size : length rows ≡ rows_max * areas_max) (lines : List (List ℕ)) where
  -- the ledger of a session, fed by its calls
  abbrev pub ledger_in : Ledger
  ledger_in = ledger_of (history (gather calls_of lines) (started rows).store) (new_ledger 1)

  -- the store after its lines
  abbrev pub after : Store
  after = after_lines lines (started rows).store

  pub session_agrees : (r : Reader) (p : ℕ) → p < partitions_max → Agrees after ledger_in r p bits
  unfolding started
  session_agrees r p h = let st = store_of (created_state 1) rows filled0 in let calls = gather calls_of lines in
      let end = run calls (started rows).store in
      let room = rows-room end (follows-history (at_epoch 1) st (start-accepted rows size) calls).ok p h in
      rw (lines-run lines (started rows).store) (history-shows st (at_epoch 1) (start-accepted rows size) calls r p bits
      h (bits-enough (partition_at p end).rows room))

  pub session-shows : (line : List ℕ) (r : Reader) (p n : ℕ)
      → parsed line ≡ Some (record { command = Scan r p; rows = n })
      → p < partitions_max
      → is_open_in r ledger_in ≡ true → answer_to line after ≡ line_of 83 0 (shown_by r p ledger_in)
  unfolding answer_to printed
  session-shows line r p n is h o = let agrees = session_agrees r p h in
      let zero = agrees.admits.1 o in
      rw is (rw (zero, agrees.shows o))
