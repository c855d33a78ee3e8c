-- A command is a scan, or another. Definitions: rules/specs/Step.antt.
-- Assumes nothing.
use mathlib.Core.Path.{◌≡◌, refl}
use Prim.Native.Nat.{ℕ}
use Rattle.rules.specs.Step.{on_scan_command}
use Rattle.rules.specs.declared.Command.{Command}
use Rattle.rules.specs.declared.Command.TheVariants.{Create, Manage, Append, Clear, RollBack, Scan, Purge}
use Rattle.rules.specs.declared.Command.TheVariants.{Save, Recover}
use Rattle.rules.specs.declared.Reader.{Reader}

-- a command that is no scan
abbrev pub NoScan : Command → Type 1
NoScan c = (A : Type 0) (f : Reader → ℕ → A) (d : A) → on_scan_command c f d ≡ d

pub scan-or : (P : Command → Type 0) → ((r : Reader) (p : ℕ) → P (Scan r p)) → ((c : Command) → NoScan c → P c)
    → (c : Command) → P c
scan-or P s o (Create a) = o (Create a) (λ A f d. refl)
scan-or P s o (Manage c) = o (Manage c) (λ A f d. refl)
scan-or P s o (Append i p) = o (Append i p) (λ A f d. refl)
scan-or P s o (Clear i p) = o (Clear i p) (λ A f d. refl)
scan-or P s o (RollBack i) = o (RollBack i) (λ A f d. refl)
scan-or P s o (Scan r p) = s r p
scan-or P s o (Purge p) = o (Purge p) (λ A f d. refl)
scan-or P s o (Save e) = o (Save e) (λ A f d. refl)
scan-or P s o Recover = o Recover (λ A f d. refl)
