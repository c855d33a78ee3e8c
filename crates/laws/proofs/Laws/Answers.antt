-- An answer is a refusal, a purge's, or another. Definitions: rules/specs/Answers.antt.
-- In order: refused, the cases of an answer, how many values it has, what a refused call answers.
-- Assumes nothing.
use mathlib.Core.Path.{◌≡◌, refl, sym, ◌∙◌}
use mathlib.Core.Bool.{true, false}
use mathlib.Core.List.{List, []}
use Prim.Native.Nat.{ℕ, ◌≤◌}
use native.Mathlib.Omega.{arith}
use lib.ListN.{length}
use Rattle.lists.proofs.Laws.Tests.{no_proof}
use Rattle.rules.specs.Answers.{reply_of, values_max, accepted, live_part}
use Rattle.rules.specs.declared.Refusal.{Refusal}
use Rattle.rules.specs.declared.Refusal.TheVariants.{UnknownPartition, NotOpen, ShortOutput}
use Rattle.rules.specs.declared.Refusal.TheVariants.{OutOfRange, Unsound, Exhausted, TxnsFull}
use Rattle.rules.specs.declared.Refusal.TheVariants.{RowsFull, EntriesFull, Blocked, Corrupt}
use Rattle.rules.specs.declared.Answer.{Answer}
use Rattle.rules.specs.declared.Answer.TheVariants.{Created, Begun, Appended, Cleared, Closed, BegunRo}
use Rattle.rules.specs.declared.Answer.TheVariants.{EndedRo, Scanned, AdvancedLse, Rewritten, Skipped}
use Rattle.rules.specs.declared.Answer.TheVariants.{Saved, Recovered, Refused}

pub refused : (r : Refusal) → accepted (Refused r) ≡ false
refused UnknownPartition = refl
refused NotOpen = refl
refused ShortOutput = refl
refused OutOfRange = refl
refused Unsound = refl
refused Exhausted = refl
refused TxnsFull = refl
refused RowsFull = refl
refused EntriesFull = refl
refused Blocked = refl
refused Corrupt = refl

-- ---- the cases of an answer, where only a refusal or only a purge matters

-- neither a refusal nor a purge's
pub record Ordinary (a : Answer) : Type 0 where
  pub accepts : accepted a ≡ true
  pub partless : (old new : List ℕ) → live_part old new a ≡ []
  pub few : length (reply_of a).values ≤ values_max

plain : {a : Answer} → accepted a ≡ true → ((old new : List ℕ) → live_part old new a ≡ [])
    → length (reply_of a).values ≤ values_max → Ordinary a
plain t p l = record { accepts = t; partless = p; few = l }

pub answer-cases : (P : Answer → Type 0) → ((r : Refusal) → P (Refused r)) → ((n : ℕ) → P (Rewritten n))
    → ((n : ℕ) → P (Skipped n)) → ((a : Answer) → Ordinary a → P a) → (a : Answer) → P a
answer-cases P f w s o Created = o Created (plain refl (λ _ _. refl) (omega arith))
answer-cases P f w s o (Begun e) = o (Begun e) (plain refl (λ _ _. refl) (omega arith))
answer-cases P f w s o (Appended n) = o (Appended n) (plain refl (λ _ _. refl) (omega arith))
answer-cases P f w s o (Cleared n) = o (Cleared n) (plain refl (λ _ _. refl) (omega arith))
answer-cases P f w s o (Closed e k) = o (Closed e k) (plain refl (λ _ _. refl) (omega arith))
answer-cases P f w s o (BegunRo t) = o (BegunRo t) (plain refl (λ _ _. refl) (omega arith))
answer-cases P f w s o (EndedRo n) = o (EndedRo n) (plain refl (λ _ _. refl) (omega arith))
answer-cases P f w s o (Scanned n k) = o (Scanned n k) (plain refl (λ _ _. refl) (omega arith))
answer-cases P f w s o (AdvancedLse e) = o (AdvancedLse e) (plain refl (λ _ _. refl) (omega arith))
answer-cases P f w s o (Rewritten n) = w n
answer-cases P f w s o (Skipped n) = s n
answer-cases P f w s o (Saved n) = o (Saved n) (plain refl (λ _ _. refl) (omega arith))
answer-cases P f w s o Recovered = o Recovered (plain refl (λ _ _. refl) (omega arith))
answer-cases P f w s o (Refused r) = f r

pub refused-or : (P : Answer → Type 0) → ((r : Refusal) → P (Refused r)) → ((a : Answer) → accepted a ≡ true → P a)
    → (a : Answer) → P a
refused-or P f g = answer-cases P f (λ n. g (Rewritten n) refl) (λ n. g (Skipped n) refl) (λ a o. g a o.accepts)

pub values-few : (a : Answer) → length (reply_of a).values ≤ values_max
values-few = answer-cases (λ a. length (reply_of a).values ≤ values_max) (λ r. omega arith) (λ n. omega arith)
    (λ n. omega arith) (λ a o. o.few)

-- ---- what a refused call answers: no values, no part

pub refused-values : (a : Answer) → accepted a ≡ false → (reply_of a).values ≡ []
refused-values = refused-or (λ a. accepted a ≡ false → (reply_of a).values ≡ []) (λ r h. refl)
    (λ a t h. no_proof (sym h ∙ t))

pub refused-part : (old new : List ℕ) (a : Answer) → accepted a ≡ false → live_part old new a ≡ []
refused-part old new = refused-or (λ a. accepted a ≡ false → live_part old new a ≡ []) (λ r h. refl)
    (λ a t h. no_proof (sym h ∙ t))
