-- One pass over a partition's entries, as the code makes it.
-- In order: an epoch with a record, and one that an entry may have; an entry after another; one more of the pass.
-- Laws: proofs/Laws/Pass.antt (it finds chained).
-- Assumes nothing.
use Rattle.std.specs.Prelude.{Bool, false, not, ◌&&◌, ◌||◌, cond, List, ℕ, take, ltb, leb, eqb}
use Rattle.lists.specs.Lists.{elem}
use Rattle.rules.specs.declared.Entry.{Entry}
use Rattle.partition_sound.specs.declared.Last.{Last}
use Rattle.partition_sound.specs.declared.Held.{Held}

-- an epoch up to LCE, or of a record
unfoldable pub found_in : ℕ → List ℕ → ℕ → Bool
found_in lce js j = leb j lce || elem j js

-- an epoch that an entry may have: c is what it is held against, and js are the epochs that are lent
unfoldable pub held_by : List ℕ → Held → ℕ → Bool
held_by js c j = leb 1 j && (leb j c.low || (ltb j c.ec && found_in c.lce (take c.count js) j))

-- entry e may stand where s tells of the one before it
unfoldable pub comes_after : Last → Entry → Bool
comes_after s e =
    cond (eqb e.mark 0) (ltb s.end e.end && not (eqb s.epoch e.epoch))
    (eqb e.mark 1 && leb s.end e.end)

abbrev pub bad_of : Last → Last
bad_of s = record { epoch = s.epoch; end = s.end; ok = false; cleared = s.cleared; above = s.above }

-- what is told of an entry that may stand there, and whether one so far lies above low
unfoldable pub told_of : Last → Entry → Bool → Last
told_of s e above = record {
  epoch = cond (eqb e.mark 0) e.epoch 0;
  end = e.end;
  ok = s.ok;
  cleared = eqb e.mark 1 || s.cleared;
  above = above;
}

abbrev pub followed : Last → Entry → Bool → Last
followed s e above = cond (comes_after s e) (told_of s e above) (bad_of s)

abbrev pub step_of : List ℕ → Held → Last → Entry → Last
step_of js c s e = cond (held_by js c e.epoch) (followed s e (ltb c.low e.epoch || s.above)) (bad_of s)
