-- Soundness of the manager as one pass over the records sees it. 01 "Refusals that come from the state", last
-- paragraph.
-- The rules' own wording is manager_ok (rules/specs/WellFormed.antt); proofs/Laws/Sound.antt shows that the two
-- agree.
-- In order: records in turn, one read-write record with its row and all of them, one read-only record and all of
-- them.
-- Assumes nothing.
use Rattle.std.specs.Prelude.{Bool, true, false, ◌&&◌, ◌||◌, List, [], ◌∷◌, ℕ, suc, ◌*◌, ltb, leb, eqb, length, take}
use Rattle.std.specs.Prelude.{drop}
use Rattle.lists.specs.Lists.{all_of, rises}
use Rattle.rules.specs.Limits.{writers_max, readers_max, deps_max, deps_all, last_ticket}
use Rattle.rules.specs.WellFormed.{zeros, unused_rw, unused_ro}
use Rattle.rules.specs.declared.Clock.{Clock}
use Rattle.rules.specs.declared.RwTxn.{RwTxn}
use Rattle.rules.specs.declared.RwTxns.{RwTxns}
use Rattle.rules.specs.declared.RoTxn.{RoTxn}
use Rattle.rules.specs.declared.RoTxns.{RoTxns}

-- the numbers rise, the first above lo and all below hi, and each element passes by what those before it leave of s
abbrev pub ranked : {A S : Type 0} → (A → ℕ) → ℕ → (S → A → Bool) → (S → A → S) → ℕ → S → List A → Bool
ranked num hi ok on lo s [] = true
ranked num hi ok on lo s (x ∷ xs) =
    (ltb lo (num x) && ltb (num x) hi && ok s x) && ranked num hi ok on (num x) (on s x) xs

-- ---- read-write transactions

-- open, or waiting without deps where seen says that an open one stands before it
abbrev pub waits_ok : ℕ → Bool → ℕ → Bool
waits_ok waiting seen k = eqb waiting 0 || (eqb waiting 1 && seen && eqb k 0)

-- k deps of a transaction of this epoch, at most 31, rising, and 0 behind them
unfoldable pub row_ok : ℕ → ℕ → ℕ → List ℕ → Bool
row_ok lse epoch k row = leb k deps_max && rises lse epoch (take k row) && zeros (drop k row)

-- a record with its row, after one of epoch lo
abbrev pub record_ok : ℕ → Clock → Bool → List ℕ → RwTxn → Bool
record_ok lo c seen row t =
    ltb lo t.epoch && ltb t.epoch c.ec
    && (waits_ok t.waiting seen t.deps && row_ok c.lse t.epoch t.deps row)

-- records in turn, the first row of the table for the first record
abbrev pub writers_ranked : ℕ → Clock → Bool → List ℕ → List RwTxn → Bool
writers_ranked lo c seen ds [] = true
writers_ranked lo c seen ds (t ∷ ts) =
    record_ok lo c seen (take deps_max ds) t
    && writers_ranked t.epoch c (seen || eqb t.waiting 0) (drop deps_max ds) ts

-- the table has its words, at most 32 records, those in use in turn, and 0 behind them
unfoldable pub writers_tested : Clock → RwTxns → List ℕ → Bool
writers_tested c ts ds =
    eqb (length ds) deps_all && (leb ts.count writers_max
    && (writers_ranked c.lce c false ds (take ts.count ts.at)
    && (all_of unused_rw (drop ts.count ts.at) && zeros (drop (deps_max * ts.count) ds))))

-- ---- read-only transactions

-- a record after one of ticket lo
unfoldable pub reader_ok : ℕ → ℕ → Clock → RoTxn → Bool
reader_ok lo next c p =
    ltb lo p.ticket && ltb p.ticket next && (leb c.lse p.epoch && leb p.epoch c.lce)

abbrev pub readers_ranked : ℕ → ℕ → Clock → List RoTxn → Bool
readers_ranked lo next c ps = ranked (λ p. p.ticket) next
    (λ _ p. leb c.lse p.epoch && leb p.epoch c.lce) (λ (u : Unit {0}) p. u) lo tt ps

-- at most 32 records, the next ticket in its range, those in use in turn, and 0 behind them
unfoldable pub readers_tested : Clock → RoTxns → Bool
readers_tested c ps =
    leb ps.count readers_max && (leb 1 ps.next && (leb ps.next (suc last_ticket)
    && (readers_ranked 0 ps.next c (take ps.count ps.at) && all_of unused_ro (drop ps.count ps.at))))
