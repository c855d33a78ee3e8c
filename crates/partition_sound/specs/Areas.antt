-- The partitions' areas as a list. 01 "Lots".
-- Laws: proofs/Laws/Areas.antt.
-- Assumes nothing.
use Rattle.std.specs.Prelude.{Bool, List, ◌∷◌, map, ℕ, ltb}
use Rattle.lists.specs.Lists.{all_of}
use Rattle.rules.specs.declared.Partitions.{Partitions}

-- the spare area, then the partitions' areas
abbrev pub areas_of : Partitions → List ℕ
areas_of ps = ps.spare ∷ map (λ q. q.area) ps.at

abbrev pub all_below : ℕ → List ℕ → Bool
all_below n xs = all_of (λ a. ltb a n) xs
