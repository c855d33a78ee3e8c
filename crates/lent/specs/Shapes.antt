-- What a loop leaves that puts entries one by one, by a plan, takes them out, or goes over some of them.
-- In order: saved (laws: proofs/Saved.antt), loaded (laws: proofs/Loaded.antt), turned (laws: proofs/Turned.antt).
-- Assumes nothing.
use Rattle.std.specs.Prelude.{ℕ, zero, suc, ◌+◌, List, get_or, set}
use Rattle.rules.specs.declared.Entry.{Entry}
use Rattle.lent.specs.Entries.{none}

-- the entries after n turns: turn i puts entry i of the plan's area at the plan's place i
unfoldable pub saved : {P : Type 0} (pl : P → ℕ → ℕ) (ar : P → List Entry) → List Entry → P → ℕ → List Entry
saved pl ar es p zero = es
saved pl ar es p (suc n) = set (saved pl ar es p n) (pl p n) (get_or (ar p) n none)

-- the places zs after n turns: turn i puts entry base + i at place i, the blank one past the end
unfoldable pub loaded : List Entry → List Entry → ℕ → ℕ → List Entry
loaded zs es base zero = zs
loaded zs es base (suc n) = set (loaded zs es base n) n (get_or es (base + n) none)

-- what is held after n turns that start with a: turn j takes entry i + j, the blank one past the end
unfoldable pub turned : {X : Type 0} → (X → Entry → X) → X → List Entry → ℕ → ℕ → X
turned f a es i zero = a
turned f a es i (suc n) = f (turned f a es i n) (get_or es (i + n) none)
