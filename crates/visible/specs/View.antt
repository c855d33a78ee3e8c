-- What a reader sees, by its view and its deps. 01 "Who sees a row".
-- In order: sees_view.
-- Assumes nothing.
use Rattle.std.specs.Prelude.{Bool, List, ℕ}
use Rattle.rules.specs.Sees.{sees_rw, up_to}
use Rattle.visible.specs.declared.View.{View}
use Rattle.visible.specs.declared.View.TheVariants.{Rw, Ro}

unfoldable pub sees_view : View → List ℕ → ℕ → Bool
sees_view (Rw i) deps = sees_rw i deps
sees_view (Ro e) deps = up_to e
