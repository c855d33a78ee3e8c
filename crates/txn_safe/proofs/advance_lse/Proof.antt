-- Soundness; the value 0, which the greatest target answers; the range, and what blocks.
-- Assumes nothing.
use mathlib.Core.Path.{◌≡◌}
use mathlib.Core.Bool.{◌&&◌}
use borrow.Author.Rules.{rules}
use borrow.Author.Tests.{eq-eqb, ne_eqb, le-leb, lt-leb}
use Rattle.lists.proofs.Laws.Bools.{and_right}
use Rattle.lists.proofs.Laws.Branches.{said}
use Rattle.rules.specs.Safe.{blocked, target_of, advanced_manager}
use Rattle.rules.specs.Calls.{advance_lse_answer}
use Rattle.rules.specs.WellFormed.{manager_ok}
use Rattle.laws.proofs.Laws.Safe.{target-greatest}
use Rattle.rules.specs.Manager.{manager_in}
use Rattle.txn_find.proofs.Laws.Places.{sized}
use Rattle.txn.proofs.Laws.Records.{parts-sound-is}
use Rattle.txn_safe.proofs.advance_lse.Statement.{statement}
use Rattle.txn_safe.proofs.advance_lse.Tie as tie

abbrev start : tie.After-parts_sound → tie.Start
start p = p.before.before.before.before.before.before

sound : (p : tie.After-parts_sound) → let a = (start p).args in
    p.parts_sound.result ≡ (a.rest && manager_ok (manager_in a.state))
sound p = let s = start p in
    parts-sound-is (manager_in s.args.state) s.args.rest (sized s.args.state s.well_formed.0)
    p.parts_sound.ensures

returns : tie.Need-returns-then-t-eq0
unfolding advance_lse_answer advanced_manager target_of
returns c =
    let g = c.before in let z = g.before.before.before.before.before.before in
    let t = z.before in let s = (start t.before).args in
    let yes = said (sound t.before) t.if-parts_sound.true in
    let m = manager_in s.state in
    let w = target-greatest m (and_right s.rest (manager_ok m) yes) in
    rw (g.greatest-to.ensures, yes, eq-eqb _ _ z.if-t-eq0.true, le-leb _ _ w.low, le-leb _ _ w.high, w.free)

returns_4 : tie.Need-returns-then-is_blocked
unfolding advance_lse_answer advanced_manager target_of blocked
returns_4 c =
    let b = c.before in let e = b.before.before.before.before.before in
    let t = e.before.before.before in
    rw (
      said (sound t.before) t.if-parts_sound.true,
      ne_eqb _ _ e.before.before.if-t-eq0.false,
      le-leb _ _ e.before.if-t-s.false,
      le-leb _ _ e.if-s-t.false,
      said b.is_blocked.ensures c.if-is_blocked.true,
    )

returns_5 : tie.Need-returns-else-is_blocked
unfolding advance_lse_answer advanced_manager target_of blocked
returns_5 c =
    let b = c.before.before in let e = b.before.before.before.before.before in
    let t = e.before.before.before in
    rw (
      said (sound t.before) t.if-parts_sound.true,
      ne_eqb _ _ e.before.before.if-t-eq0.false,
      le-leb _ _ e.before.if-t-s.false,
      le-leb _ _ e.if-s-t.false,
      said b.is_blocked.ensures c.before.if-is_blocked.false,
    )

pub advance_lse_spec : {M : Type 1} → statement M
unfolding advance_lse_answer advanced_manager target_of blocked
advance_lse_spec =
    tie.close
    (tie.spec
    (λ c κs. search rules)
    (λ c κs. search rules)
    (λ c κs. search rules)
    returns
    (λ c. let z = c.before in let t = z.before in
    rw (said (sound t.before) t.if-parts_sound.true, ne_eqb _ _ z.if-t-eq0.false, lt-leb _ _ c.if-t-s.true))
    (λ c. let l = c.before in let z = l.before in let t = z.before in
    rw (
      said (sound t.before) t.if-parts_sound.true,
      ne_eqb _ _ z.if-t-eq0.false,
      le-leb _ _ l.if-t-s.false,
      lt-leb _ _ c.if-s-t.true,
    ))
    returns_4
    returns_5
    (λ c. rw (said (sound c.before) c.if-parts_sound.false)))
