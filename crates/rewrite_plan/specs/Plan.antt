-- What becomes of each entry: 0 where it goes, else its new epoch. 01 "Lots", Roll back, Purge; 004 III-C 4,
-- 5.
-- In order: spans_in, plan_of, roll back, purge. Laws: proofs/Laws/Plan.antt.
-- Assumes nothing.
use Rattle.std.specs.Prelude.{Bool, cond, List, [], ◌∷◌, ℕ, max, leb, eqb}
use Rattle.lists.specs.Lists.{pad}
use Rattle.rules.specs.Limits.{entries_max}
use Rattle.rules.specs.Span.{Span, is_delete}
use Rattle.rules.specs.Sees.{up_to}
use Rattle.rules.specs.Hides.{hidden}
use Rattle.rules.specs.Bare.{bare}
use Rattle.area.specs.Area.{entries_in}
use Rattle.area.specs.declared.Area.{Area}
use Rattle.rewrite_plan.specs.declared.Plan.{Plan}

-- the entries in use as spans
abbrev pub spans_in : Area → List Span
spans_in a = bare 0 (entries_in a)

-- a plan, 0 in the places that are not in use
abbrev pub plan_of : List ℕ → Plan
plan_of ps = record { at = pad entries_max 0 ps }

-- ---- roll back: entries of epoch i go, the others keep their epoch

abbrev pub roll_epoch : ℕ → Span → ℕ
roll_epoch i s = cond (eqb s.epoch i) 0 s.epoch

unfoldable pub roll_epochs : ℕ → List Span → List ℕ
roll_epochs i [] = []
roll_epochs i (s ∷ ss) = roll_epoch i s ∷ roll_epochs i ss

-- ---- purge at l: a delete of k ≤ l goes, with the rows that it hides; other rows of at most l get epoch l

abbrev pub purge_epoch : ℕ → Bool → Span → ℕ
purge_epoch l hides s =
    cond (is_delete s) (cond (leb s.epoch l) 0 s.epoch) (cond hides 0 (max s.epoch l))

unfoldable pub purge_epochs : ℕ → List Span → List Span → List ℕ
purge_epochs l all [] = []
purge_epochs l all (s ∷ ss) =
    purge_epoch l (hidden (up_to l) all (s ∷ ss) s.epoch) s ∷ purge_epochs l all ss
