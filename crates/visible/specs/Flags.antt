-- The flags of entries: of each row in order, whether a reader is shown it. 01 "Who sees a row".
-- Laws: proofs/Laws/Flags.antt.
-- Assumes nothing.
use Rattle.std.specs.Prelude.{Bool, List, ℕ}
use Rattle.rules.specs.declared.Entry.{Entry}
use Rattle.rules.specs.Hides.{flags}
use Rattle.rules.specs.Bare.{bare}

unfoldable pub flags_of : (ℕ → Bool) → (ℕ → Bool) → List Entry → List Bool
flags_of sees applies es = flags sees applies (bare 0 es)
