-- What one transaction has to say on a target of LSE. 01 "The books", Move LSE. The whole: rules/specs/Safe.antt.
-- Assumes nothing.
use Rattle.std.specs.Prelude.{Bool, ◌&&◌, cond, List, [], map, ℕ, ◌-◌, leb}
use Rattle.lists.specs.Lists.{any_of}
use Rattle.rules.specs.Manager.{Writer, is_open}

-- open, with a dep at or below t
abbrev pub dep_blocks : ℕ → Writer → Bool
dep_blocks t x = is_open x && any_of (λ d. leb d t) x.deps

-- just below each dep of an open one
abbrev pub under_deps : Writer → List ℕ
under_deps x = cond (is_open x) (map (λ d. d - 1) x.deps) []
