-- What the dispatcher leaves, beside rules' step. 01 "Refusals": a call that is lent no bytes to write writes none.
-- In order: bytes_left, Did, kept_in, turned_of.
-- Assumes nothing.
use Rattle.std.specs.Prelude.{◌≡◌, List, ℕ}
use Rattle.rules.specs.Step.{Outcome}
use Rattle.rules.specs.declared.Command.{Command}
use Rattle.rules.specs.declared.Command.TheVariants.{Create, Manage, Append, Clear, RollBack, Scan, Purge, Save}
use Rattle.rules.specs.declared.Command.TheVariants.{Recover}
use Rattle.rules.specs.declared.Entry.{Entry}
use Rattle.store.specs.Kept.{Left}
use Rattle.rules.specs.declared.Kept.{Kept}
use Rattle.dispatch.specs.declared.Turned.{Turned}

-- the lent bytes after a command: a scan's and a save's are step's, and no other call writes them
abbrev pub bytes_left : Command → Outcome → List ℕ → List ℕ
bytes_left (Create s) out lent = lent
bytes_left (Manage c) out lent = lent
bytes_left (Append i p) out lent = lent
bytes_left (Clear i p) out lent = lent
bytes_left (RollBack i) out lent = lent
bytes_left (Scan r p) out lent = out.bytes
bytes_left (Purge p) out lent = lent
bytes_left (Save e) out lent = out.bytes
bytes_left Recover out lent = lent

-- the answer, the books and the lent areas at the end are step's; the bytes were lent as `lent` and are `bytes` at the
-- end
abbrev pub Did : Command → Outcome → Kept → List ℕ → List Entry → List ℕ → List ℕ → Type 0
Did c out r rows entries lent bytes = Left out r rows entries × (bytes ≡ bytes_left c out lent)

-- the answer and the books of a call whose entries are kept by value
abbrev pub kept_in : Turned → Kept
kept_in t = record { answer = t.answer; state = t.state }

abbrev pub turned_of : Kept → List Entry → Turned
turned_of k entries = record { answer = k.answer; state = k.state; table = record { at = entries } }
