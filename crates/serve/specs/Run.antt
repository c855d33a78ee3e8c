-- A session's run: turn after turn, each on the bytes that the last one left and those that came behind them.
-- In order: Run, Reached, RunTo. Laws: proofs/Laws/Run.antt (what is written in a whole run).
-- Assumes nothing.
use Rattle.std.specs.Prelude.{◌≡◌, true, false, ◌&&◌, List, [], ◌++◌, ℕ, take, Result, Ok}
use Rattle.rules.specs.Store.{Store}
use Rattle.serve.specs.Turn.{held_in, came_in, Standing, Turned}
use Rattle.serve.specs.declared.Failure.{Failure}
use Rattle.serve.specs.declared.turn.Session.{Session}

-- from a store: the bytes that came, those written out, and the session, its buffer and its store after them
pub data Run (start : Store) : List ℕ → List ℕ → Session → List ℕ → Store → Type 0 where
  opened : (s : Session) (input : List ℕ) → held_in s input ≡ [] → s.ended ≡ false → Run start [] [] s input start
  next : (came said : List ℕ) (s : Session) (left : List ℕ) (st : Store) → Run start came said s left st
      → s.reads && s.ended ≡ false
      → (count : ℕ) (input : List ℕ) → take s.end input ≡ take s.end left
      → (r : Session) (now out : List ℕ) (after : Store) → Turned s count input st r now out after
      → Run start (came ++ came_in s count input) (said ++ take r.written out) r now after

-- some run leads there; `left` is the buffer as its last turn left it
pub record Reached (start : Store) (s : Session) (input : List ℕ) (st : Store) : Type 0 where
  pub came : List ℕ
  pub said : List ℕ
  pub left : List ℕ
  pub run : Run start came said s left st
  pub same : take s.end input ≡ take s.end left

-- how it ends: where all was read and written the input has ended, and no line is left
pub record RunTo (start : Store) (how : Result (Unit {0}) Failure) (s : Session) (input : List ℕ) (st : Store)
    : Type 0 where
  pub reached : Reached start s input st
  pub whole : how ≡ Ok tt → (s.reads && s.ended ≡ true) × Standing s input
