-- What the passes of a rewrite hand on: cited by the helpers' contracts, by no public one.
-- The last kept entry after one more. Laws: proofs/Laws/Keep.antt.
-- Assumes nothing.
use Rattle.std.specs.Prelude.{Bool, not, ◌&&◌, cond, ℕ, ◌+◌, ◌-◌, eqb}
use Rattle.rules.specs.declared.Entry.{Entry}
use Rattle.rewrite.specs.declared.keep.Last.{Last}

-- ---- the last kept entry x, after the entry e of new epoch p

abbrev pub joins_last : Entry → ℕ → Entry → Bool
joins_last x p e = not (eqb x.mark 1) && (not (eqb e.mark 1) && eqb p x.epoch)

abbrev pub pushed : Last → ℕ → Entry → ℕ → Last
pushed last p e rows = record {
  place = last.count;
  count = last.count + 1;
  rows = rows;
  entry = record { epoch = p; end = rows; mark = cond (eqb e.mark 1) 1 0 };
}

abbrev pub grown : Last → ℕ → ℕ → Last
grown last p rows = record {
  place = last.place;
  count = last.count;
  rows = rows;
  entry = record { epoch = p; end = rows; mark = 0 };
}

unfoldable pub stepped : Last → ℕ → Entry → ℕ → Last
stepped last p e from = let rows = last.rows + (e.end - from) in
    cond (eqb p 0) last (cond (joins_last last.entry p e) (grown last p rows) (pushed last p e rows))
