-- Soundness, the epochs left, the places left; then a record more, its row of the table, and the clock one on.
-- Assumes nothing.
use mathlib.Core.Path.{◌≡◌, ◌∙◌}
use mathlib.Core.Bool.{◌&&◌}
use native.Mathlib.Omega.{arith}
use Prim.Native.Nat.{◌≤◌, ◌<◌}
use borrow.Author.Rules.{rules}
use borrow.Author.Tests.{lt-leb, ne_eqb}
use Rattle.lists.proofs.Laws.Bools.{and_right}
use Rattle.lists.proofs.Laws.Branches.{tests, said}
use Rattle.rules.specs.Limits.{last_epoch, writers_max}
use Rattle.rules.specs.Manager.{manager_in}
use Rattle.rules.specs.Calls.{begin_answer}
use Rattle.rules.specs.WellFormed.{manager_ok}
use Rattle.laws.proofs.Laws.Manager.{manager-facts}
use Rattle.epoch.proofs.Laws.Ticks.{ticked-next}
use Rattle.txn_find.proofs.Laws.Places.{sized}
use Rattle.txn.proofs.Laws.Records.{writers-tidy, parts-sound-is}
use Rattle.txn_start.proofs.Laws.Begin.{begun-is}
use Rattle.txn_start.proofs.begin.Statement.{statement}
use Rattle.txn_start.proofs.begin.Tie as tie

sound : (p : tie.After-parts_sound) → let s = p.before.before.before.before.before.before.args in
    p.parts_sound.result ≡ (s.rest && manager_ok (manager_in s.state))
sound p = let s = p.before.before.before.before.before.before in
    parts-sound-is (manager_in s.args.state) s.args.rest (sized s.args.state s.well_formed.0)
    p.parts_sound.ensures

returns_3 : tie.Need-returns-else-s-ge-WRITERS_MAX
unfolding begin_answer last_epoch
returns_3 c =
    let r = c.before in let p = r.before.before in let a = p.before.before.before in let e = a.before.before in
    let t = e.before.before.before in let s = t.before.before.before.before.before.before.before in
    let m = manager_in s.args.state in let yes = said (sound t.before) t.if-parts_sound.true in
    let ok = and_right s.args.rest (manager_ok m) yes in let f = (manager-facts m ok).clock.ec-high in
    let last : m.clock.ec ≤ last_epoch = omega arith in
    let room : m.writers.count < writers_max = omega (arith, e.if-s-ge-WRITERS_MAX.false) in
    let next = begun-is m (writers-tidy m ok (sized s.args.state s.well_formed.0)) room in
    rw (
      yes,
      ne_eqb _ _ e.before.if-s.false,
      lt-leb _ _ room,
      ← next,
      r.recorded-ts.ensures,
      p.put_deps-k.ensures.0,
      p.put_deps-k.ensures.1,
      a.advanced-tick.ensures ∙ ticked-next m.clock last,
    )

pub begin_spec : {M : Type 1} → statement M
unfolding begin_answer last_epoch
begin_spec =
    tie.close
    (tie.spec
    (λ c κs. search rules)
    (λ c. search rules)
    (λ c κs. search rules)
    (λ c κs. search rules)
    (λ c κs. search rules)
    (λ c. let t = c.before.before in search (tests, said (sound t.before) t.if-parts_sound.true))
    (λ c. let t = c.before.before.before in search (tests, said (sound t.before) t.if-parts_sound.true))
    returns_3
    (λ c. rw (said (sound c.before) c.if-parts_sound.false)))
