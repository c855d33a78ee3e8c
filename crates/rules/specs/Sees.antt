-- Which epochs a reader sees, and which deletes it applies. 01 "Who sees a row"; 004 III-C 3, IV-C.
-- In order: sees_rw, applies_rw, up_to; is_own, is_later, is_pending, is_finished, categories. Laws:
-- proofs/Categories.antt,
-- laws/proofs/Laws/Sees.antt.
-- Assumes nothing.
use Rattle.std.specs.Prelude.{Bool, not, ◌&&◌, ◌||◌, List, [], ◌∷◌, ℕ, ltb, leb, eqb}
use Rattle.lists.specs.Lists.{elem}

-- a read-write transaction i sees itself, and each earlier epoch that is not in its deps
unfoldable pub sees_rw : ℕ → List ℕ → ℕ → Bool
sees_rw i deps j = eqb j i || (ltb j i && not (elem j deps))

-- it applies the deletes that it sees of epochs up to its own, its own included (02 (ii)): these are all that it sees
-- (`applies-sees`)
unfoldable pub applies_rw : ℕ → List ℕ → ℕ → Bool
applies_rw i deps k = sees_rw i deps k && leb k i

-- a read-only transaction at e sees each j ≤ e and applies each k ≤ e (004 has k < e, which misses the delete
-- committed last)
abbrev pub up_to : ℕ → ℕ → Bool
up_to e j = leb j e

-- ---- where epoch j stands to a read-write transaction i: the four cases of 02 (iv); of the categories in 004 IV-C the
-- three of later epochs are one here. Each epoch is in exactly one (`one_category`); i sees the first and the last
-- (`seen-categories`).

-- its own
abbrev pub is_own : ℕ → ℕ → Bool
is_own i j = eqb j i

-- later
abbrev pub is_later : ℕ → ℕ → Bool
is_later i j = ltb i j

-- earlier and in deps: it was open when i began
abbrev pub is_pending : ℕ → List ℕ → ℕ → Bool
is_pending i deps j = ltb j i && elem j deps

-- earlier and not in deps
abbrev pub is_finished : ℕ → List ℕ → ℕ → Bool
is_finished i deps j = ltb j i && not (elem j deps)

-- the four tests, in this order
abbrev pub categories : ℕ → List ℕ → ℕ → List Bool
categories i deps j = is_own i j ∷ is_later i j ∷ is_pending i deps j ∷ is_finished i deps j ∷ []
