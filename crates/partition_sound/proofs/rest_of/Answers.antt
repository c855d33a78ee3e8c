-- `partition_sound::rest_of` meets its contract: a turn finds what the pass over partition p finds, and judges it.
-- Assumes nothing.
use Rattle.std.proofs.Common.{◌≡◌, refl, ap, Bool, add-one, arith}
use Rattle.rules.specs.Limits.{partitions_max}
use Rattle.partition.proofs.Laws.Places.{partitions_8}
use Rattle.partition_sound.specs.Rest.{found_of, landed_below}
use Rattle.partition_sound.proofs.Laws.Rest.{ok_up_to, rest-found}
use Rattle.partition_sound.proofs.rest_of.Goals as goal

pub loop-p-preserved : goal.loop-p-preserved
unfolding ok_up_to landed_below
loop-p-preserved c = let l = c.loop-p in
    rw (
      add-one l.p,
      c.judged-ok.ensures,
      c.landed_at-after.ensures,
      l.invariant.0,
      l.invariant.1,
      c.tally-t.ensures,
      c.weighed_from-first.ensures,
      c.cuts_of-cuts.ensures,
      c.find-newest.ensures,
      c.landing_to-below.ensures,
      c.find-top.ensures,
      c.cleared_to-stop.ensures,
      c.weighed_to-end.ensures,
      c.pass-last.ensures,
      c.to_of-to.ensures,
      c.from_of-from.ensures,
      c.each_place-q.ensures,
      c.no_tally-empty.ensures,
      c.no_top-none.ensures,
      c.start-start.ensures,
      c.reach_of-reach.ensures,
      c.held_of-held.ensures,
    )
    (refl, refl)

pub returns : goal.returns
returns c = let l = c.loop-p in let a = c.args in let all : l.p ≡ partitions_max = omega arith in
    rw (c.found.ensures, l.invariant.1, l.invariant.0, all)
    (ap (λ (o : Bool). found_of o (landed_below a.entries.now a.rows.now a.a partitions_max))
    (rest-found a.entries.now a.rows.now a.a (partitions_8 a.a.partitions _ c.well_formed.1.1.0.1.1.1.1.1.1.0)))
