-- What the branches of a function tell of the tests that its contract is made of.
-- `search tests` turns each test of numbers into what the branches left of it; said hands on what a call answered,
-- said-yes and said-no where the code asks for its negation.
-- Assumes nothing.
use mathlib.Core.Path.{◌≡◌, sym, ◌∙◌}
use mathlib.Core.Bool.{Bool, true, false, not}
use borrow.Author.Tests.{lt-ltb, le-ltb, le-leb, lt-leb, eq-eqb, ne_eqb, not-true, not-false}

pub ruleset tests = (lt-ltb, le-ltb, le-leb, lt-leb, eq-eqb, ne_eqb)

-- r is the answer of a call that ensures r ≡ x
pub said : {A : Type 0} {r x v : A} → r ≡ x → r ≡ v → x ≡ v
said e n = sym e ∙ n

pub said-yes : {r x : Bool} → r ≡ x → not r ≡ false → x ≡ true
said-yes {r} e n = sym e ∙ not-false r n

pub said-no : {r x : Bool} → r ≡ x → not r ≡ true → x ≡ false
said-no {r} e n = sym e ∙ not-true r n
