-- How far LSE may move. 01 "The books", Move LSE; 004 III-C 5.
-- In order: blocked, greatest_target, target_of, advanced_manager. Laws: laws/proofs/Laws/Safe.antt.
-- Assumes nothing.
use Rattle.std.specs.Prelude.{Bool, ◌&&◌, ◌||◌, cond, ℕ, ◌-◌, min, ltb, leb, eqb}
use mathlib.Core.List.{[], ◌++◌, map, foldr}
use Rattle.lists.specs.Lists.{gather, any_of}
use Rattle.rules.specs.Manager.{is_open, writers_of, readers_of, with_clock, with_lse}
use Rattle.rules.specs.Manager.{Manager}

-- 01: held. A read-only transaction below t, or an open one with a dep at or below t, closed since or not.
unfoldable pub blocked : ℕ → Manager → Bool
blocked t m =
    any_of (λ p. ltb p.epoch t) (readers_of m)
    || any_of (λ x. is_open x && any_of (λ d. leb d t) x.deps) (writers_of m)

-- the greatest target that is not blocked: LCE, or lower at the lowest snapshot, or just below the lowest dep
unfoldable pub greatest_target : Manager → ℕ
greatest_target m =
    foldr min m.clock.lce
    (map (λ p. p.epoch) (readers_of m)
    ++ gather (λ x. cond (is_open x) (map (λ d. d - 1) x.deps) []) (writers_of m))

-- the value 0 means that one
unfoldable pub target_of : ℕ → Manager → ℕ
target_of t m = cond (eqb t 0) (greatest_target m) t

unfoldable pub advanced_manager : ℕ → Manager → Manager
advanced_manager t m = with_clock (with_lse (target_of t m) m.clock) m
