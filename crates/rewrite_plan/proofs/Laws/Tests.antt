-- The tests of a rewrite, entry by entry. Definitions: rules' has_epoch and skips, over bare entries.
-- In order: has_epoch; skips. Where an entry's rows begin makes no difference.
-- Assumes nothing.
use mathlib.Core.Path.{◌≡◌, refl}
use mathlib.Core.Bool.{Bool, not, ◌&&◌}
use mathlib.Core.List.{List, [], ◌∷◌}
use Prim.Native.Nat.{ℕ}
use lib.Dec.{leb, eqb}
use Rattle.std.specs.List.{list_any, list_all}
use Rattle.rules.specs.declared.Entry.{Entry}
use Rattle.rules.specs.Rewrite.{has_epoch, skips}
use Rattle.rules.specs.Bare.{bare}

pub has-entries : (i m : ℕ) (es : List Entry) → has_epoch i (bare m es) ≡ list_any (λ e. eqb e.epoch i) es
unfolding has_epoch bare
has-entries i m [] = refl
has-entries i m (e ∷ es) = rw (has-entries i e.end es)

-- a purge at l leaves the entry as it is
abbrev pub left : ℕ → Entry → Bool
left l e = leb l e.epoch && not (eqb e.mark 1 && leb e.epoch l)

pub skips-entries : (l m : ℕ) (es : List Entry) → skips l (bare m es) ≡ list_all (left l) es
unfolding skips bare
skips-entries l m [] = refl
skips-entries l m (e ∷ es) = rw (skips-entries l e.end es)
