-- A batch written into a lent area. 01 "Lots", Append.
-- Assumes nothing.
use Rattle.std.specs.Prelude.{cond, List, ℕ, ◌+◌, length, leb}
use Rattle.lists.specs.Lists.{over}

-- vs from index at on, where they fit; else nothing is written
unfoldable pub put_rows : ℕ → List ℕ → List ℕ → List ℕ
put_rows at vs xs = cond (leb (at + length vs) (length xs)) (over at vs xs) xs
