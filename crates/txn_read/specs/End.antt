-- Closing a page on the records alone. 01 "The books"; "Refusals that come from the input", 2. The whole:
-- rules/specs/ReadOnly.antt.
-- Laws: proofs/Laws/ReadOnly.antt.
-- Assumes nothing.
use Rattle.std.specs.Prelude.{List, ℕ, Option, Some, None, ◌+◌, length, take}
use Rattle.rules.specs.declared.Answer.TheVariants.{EndedRo, Refused}
use Rattle.rules.specs.declared.Refusal.TheVariants.{NotOpen}
use Rattle.rules.specs.declared.RoTxn.{RoTxn}
use Rattle.rules.specs.declared.RoTxns.{RoTxns}
use Rattle.txn.specs.Records.{cut, readers_with}
use Rattle.txn_find.specs.Find.{reader_at}
use Rattle.txn_read.specs.declared.Ended.{Ended}

-- these records are left
abbrev pub ended_with : List RoTxn → ℕ → Ended
ended_with ps next = record { answer = EndedRo (length ps); readers = readers_with ps next }

-- by what the search for the ticket found
abbrev pub ended_by : Option ℕ → RoTxns → Ended
ended_by (Some j) ps = ended_with (cut j (j + 1) (take ps.count ps.at)) ps.next
ended_by None ps = record { answer = Refused NotOpen; readers = ps }

unfoldable pub ended_at : ℕ → RoTxns → Ended
ended_at t ps = ended_by (reader_at t ps) ps
