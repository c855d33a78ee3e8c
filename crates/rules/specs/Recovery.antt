-- Saving a checkpoint (02: round) of the store, and recovery of the store from a file of them. 02 (v).
-- In order: what a save writes, what it answers; the store that recovery makes, what it answers. Laws:
-- laws/proofs/Laws/Recovery.antt.
-- Assumes nothing.
use Rattle.std.specs.Prelude.{Bool, not, List, [], ◌∷◌, map, ℕ, zero, suc, length, get_or, ltb}
use Rattle.rules.specs.Limits.{partitions_max}
use Rattle.rules.specs.Span.{Span}
use Rattle.rules.specs.Sees.{up_to}
use Rattle.rules.specs.Hides.{shown}
use Rattle.rules.specs.Checkpoint.{Checkpoint, encoded, corrupt_in}
use Rattle.rules.specs.Store.{Store, manager_of, spans_at, partition_numbers, laid_in_place, refreshed, created_store}
use Rattle.rules.specs.WellFormed.{sound}
use Rattle.rules.specs.Calls.{refuse, within}
use Rattle.rules.specs.declared.Refusal.TheVariants.{ShortOutput, OutOfRange, Unsound, Corrupt}
use Rattle.rules.specs.declared.Answer.{Answer}
use Rattle.rules.specs.declared.Answer.TheVariants.{Saved, Recovered}

-- ---- saving at e: the partitions (01: lots) as a read-only transaction (01: page) at e is shown them

abbrev pub shown_at : ℕ → ℕ → Store → List ℕ
shown_at e p st = shown (up_to e) (up_to e) (spans_at p st)

unfoldable pub checkpoint_at : ℕ → Store → Checkpoint
checkpoint_at e st = record { epoch = e; rows = map (λ p. shown_at e p st) partition_numbers }

-- LSE ≤ e ≤ LCE, where 0 is epoch 0; lent is the output
unfoldable pub save_answer : ℕ → List ℕ → Store → Answer
save_answer e lent st =
    let size = length (encoded (checkpoint_at e st)) in
    refuse Unsound (not (sound st))
    (refuse OutOfRange (not (within (manager_of st).clock.lse (manager_of st).clock.lce e))
    (refuse ShortOutput (ltb (length lent) size)
    (Saved size)))

-- ---- recovery: the store made new at L + 1, so that LCE = LSE = L; partition p in area p, with one entry (L, count)
-- where it has rows; the totals of these

abbrev pub recovered_spans : ℕ → List ℕ → List Span
recovered_spans e [] = []
recovered_spans e (w ∷ ws) = record { epoch = e; mark = 0; words = w ∷ ws } ∷ []

-- with the partitions below n
unfoldable pub recovered_below : Checkpoint → ℕ → Store → Store
recovered_below c zero st = created_store (suc c.epoch) st
recovered_below c (suc n) st =
    laid_in_place n (recovered_spans c.epoch (get_or c.rows n [])) (recovered_below c n st)

unfoldable pub recovered_store : Checkpoint → Store → Store
recovered_store c st = refreshed (recovered_below c partitions_max st)

-- recovery reads no state: of 5 only the lengths apply
unfoldable pub recover_answer : List ℕ → Bool → Answer
recover_answer file lengths =
    refuse Unsound (not lengths)
    (refuse Corrupt (corrupt_in file)
    Recovered)
