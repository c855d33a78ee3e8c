-- What it says that a starting epoch was taken, or was not. Definitions: specs/Epochs.antt.
-- Assumes nothing.
use mathlib.Core.Path.{◌≡◌, ap}
use mathlib.Core.Bool.{true, false}
use Prim.Native.Nat.{ℕ}
use native.Mathlib.Omega.{arith}
use Rattle.std.specs.Prelude.{Some, None}
use Rattle.lists.proofs.Laws.Bools.{split}
use Rattle.rules.specs.Limits.{last_epoch}
use Rattle.rules.specs.Calls.{within}
use Rattle.epoch.specs.Epochs.{start_of}
use Rattle.epoch.specs.declared.Epoch.{Epoch}

pub start-at : (s : ℕ) (e : Epoch) → start_of s ≡ Some e → (within 1 last_epoch s ≡ true) × (e.number ≡ s)
unfolding start_of
start-at s e h = split (within 1 last_epoch s)
    (λ t. let g = rw t at h in let q : e ≡ record { number = s } = cc in (t, ap (λ (x : Epoch). x.number) q))
    (λ n. let g = rw n at h in absurd (let z : ◌≡◌ {A = ℕ} 0 1 = cc in omega arith))

pub start-out : (s : ℕ) → start_of s ≡ None → within 1 last_epoch s ≡ false
unfolding start_of
start-out s h = split (within 1 last_epoch s)
    (λ t. let g = rw t at h in absurd (let z : ◌≡◌ {A = ℕ} 0 1 = cc in omega arith))
    (λ n. n)
