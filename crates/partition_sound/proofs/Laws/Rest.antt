-- The pass over all partitions, as the code makes it turn by turn, finds *sound* but for the manager.
-- In order: one partition, what it weighs and what lands, by its last entry alone where it is whole; those below p;
-- all.
-- Elsewhere: what is known of one that is well (Well.antt), which are whole (Whole.antt).
-- Definitions: specs/Rest.antt, specs/Asked.antt.
-- Assumes nothing.
use mathlib.Core.Path.{◌≡◌, refl, sym, ap, subst, ◌∙◌}
use mathlib.Core.Bool.{Bool, true, false, not, ◌&&◌}
use mathlib.Core.List.{List, foldl}
use Prim.Native.Nat.{ℕ, zero, suc, ◌*◌, ◌-◌, ◌≤◌, ◌<◌}
use native.Mathlib.Omega.{arith}
use lib.ListN.{length, take, get_or}
use lib.Dec.{ltb, leb, eqb}
use borrow.Author.Tests.{leb-true, ltb-true, ltb-false, eqb-true, le-leb, lt-ltb, not-true}
use Rattle.lists.specs.Lists.{all_of, any_of, part}
use Rattle.lists.proofs.Laws.All.{All, All_imp, All-both, All_every, All-all_of, all_of-All, All_get_d, get_d-All}
use Rattle.lists.proofs.Laws.All.{All-any_of}
use Rattle.lists.proofs.Laws.Bools.{split, split-eq, both_ways, and_left, and_right, and_both, and-false}
use Rattle.lists.proofs.Laws.Tests.{and_comm}
use Rattle.rules.specs.Limits.{rows_max, entries_max, areas_max, partitions_max}
use Rattle.rules.specs.Span.{spans}
use Rattle.rules.specs.Weight.{total}
use Rattle.rules.specs.Store.{no_partition, partition_numbers}
use Rattle.rules.specs.WellFormed.{areas_ok}
use Rattle.rules.specs.declared.Entry.{Entry}
use Rattle.rules.specs.declared.Partition.{Partition}
use Rattle.laws.proofs.Laws.Store.{own-area}
use Rattle.laws.proofs.Laws.WellFormed.{areas-facts}
use Rattle.area.specs.Area.{base_of}
use Rattle.area.specs.Load.{partition_in}
use Rattle.lent.specs.Shapes.{turned}
use Rattle.totals.specs.Places.{from_of, to_of}
use Rattle.totals.specs.Reach.{no_top, top_turn, cuts_of, shows}
use Rattle.totals.specs.Weighed.{no_tally, closed_of, tally_turn}
use Rattle.totals.specs.declared.Reach.{Reach}
use Rattle.totals.specs.declared.Cuts.{Cuts}
use Rattle.totals.specs.declared.Tally.{Tally}
use Rattle.totals.proofs.Laws.Clearing.{reach-none, top-still}
use Rattle.totals.proofs.Laws.Lot.{Placed, Lies, lot-turned, lot-last, SeenRows, shows-all, lot-weighs}
use Rattle.partition_sound.specs.Sound.{partition_ok_by, before_first, chained}
use Rattle.partition_sound.specs.Asked.{lengths_are, spans_of, totals_are, rest_asked}
use Rattle.partition_sound.specs.Pass.{step_of}
use Rattle.partition_sound.specs.Rest.{low_of, held_of, start_of, begins, reach_of, well_by, weighed_to, is_whole}
use Rattle.partition_sound.specs.Rest.{weighed_from, cleared_to}
use Rattle.partition_sound.specs.Rest.{landing_to, judged_of, last_at, end_at, stop_at, newest_at, cuts_at}
use Rattle.partition_sound.specs.Rest.{tally_at}
use Rattle.partition_sound.specs.declared.Asked.{Asked}
use Rattle.partition_sound.specs.declared.Last.{Last}
use Rattle.partition_sound.proofs.Laws.Pass.{pass_chains, pass-cleared, pass-above}
use Rattle.partition_sound.proofs.Laws.Sound.{partition_ok_by-pass, partition_ok_by_many}
use Rattle.partition_sound.proofs.Laws.Well.{Parts, parts-of, epochs-spans, page-weighs, low_near}

pub under_next : (p k : ℕ) → p < suc k → (p ≡ k → ⊥) → p < k
under_next p k l ne = split (ltb p k) (λ t. ltb-true p k t) (λ f. absurd (ne (let g = ltb-false p k f in omega arith)))

-- ---- the pass

module _ (es : List Entry) (rows : List ℕ) (a : Asked) where
  abbrev place : ℕ → Partition
  place p = partition_in a.partitions p

  abbrev last : Partition → Last
  last q = last_at es rows a q

  abbrev cuts : Partition → Cuts
  cuts q = cuts_at es rows a q

  abbrev tally : Partition → Tally
  tally q = tally_at es rows a q

  -- after p partitions
  unfoldable pub ok_up_to : Bool → ℕ → Bool
  ok_up_to ok zero = ok
  ok_up_to ok (suc p) = let q = place p in
      judged_of rows (ok_up_to ok p) a.totals p q (last q) (cuts q) (tally q)

  abbrev js : List ℕ
  js = take a.count a.epochs

  abbrev ok_by : Partition → Bool
  ok_by = partition_ok_by a.clock js es

  -- its total is the one that is kept
  abbrev weighs_by : ℕ → Partition → Bool
  weighs_by p q = eqb (get_or a.totals p 0) (total a.lce (spans_of es rows q))

  -- ---- one partition, where its area is one of the nine
  module _ (len : length es ≡ entries_max * areas_max) (lenr : length rows ≡ rows_max * areas_max) (q : Partition)
      (inside : q.area < areas_max) where
    abbrev counts : Bool
    counts = leb q.rows rows_max && leb q.entries entries_max

    abbrev own : List Entry
    own = part (entries_max * q.area) q.entries es

    abbrev ws : List ℕ
    ws = part (rows_max * q.area) q.rows rows

    abbrev well : Bool
    well = well_by q (last q)

    placed : counts ≡ true → Placed es q
    placed t = record {
      entries-length = len;
      inside = inside;
      few = leb-true q.entries entries_max (and_right (leb q.rows rows_max) (leb q.entries entries_max) t);
    }

    -- up to low an epoch is well
    near : (j : ℕ) → 1 ≤ j → j ≤ low_of a → (j < a.clock.ec) × (j ≤ a.clock.lce)
    near j h k = let f = low_near a j h k in (f.0, f.1)

    last-is : counts ≡ true → last q ≡ foldl (step_of a.epochs (held_of a)) start_of own
    last-is t = lot-turned es q (placed t) (step_of a.epochs (held_of a)) start_of

    passed : counts ≡ true
        → (last q).ok && eqb (last q).end q.rows ≡ chained a.clock js q.rows before_first own
    passed t = ap (λ (s : Last). s.ok && eqb s.end q.rows) (last-is t)
        ∙ pass_chains a.clock a.count a.epochs (low_of a) near q.rows start_of before_first own
        (record { epoch = refl; end = refl })

    well-is : well ≡ ok_by q
    well-is = split counts
        (λ t. rw t (and_comm (eqb (last q).end q.rows) (last q).ok
        ∙ (passed t ∙ sym (partition_ok_by-pass a.clock js es q t))))
        (λ n. rw n (sym (partition_ok_by_many a.clock js es q n)))

    -- ---- what it weighs, where it is well
    module _ (w : well ≡ true) where
      parts : Parts a.clock js es q
      parts = parts-of a.clock js es q (sym well-is ∙ w)

      counted : counts ≡ true
      counted = and_both _ _ (le-leb q.rows rows_max parts.fits) (le-leb q.entries entries_max parts.few)

      lies : Lies es rows q
      lies = record { placed = placed counted; rows-length = lenr; fits = parts.fits; ends = parts.ends }

      end_is : end_at es rows a q ≡ to_of q
      unfolding weighed_to
      end_is = rw w

      all-well : (last q).ok ≡ true
      all-well = and_right (counts && eqb (last q).end q.rows) (last q).ok w

      fold-well : (foldl (step_of a.epochs (held_of a)) start_of own).ok ≡ true
      fold-well = sym (ap (λ (s : Last). s.ok) (last-is counted)) ∙ all-well

      cleared-is : (last q).cleared ≡ any_of (λ e. eqb e.mark 1) own
      cleared-is = ap (λ (s : Last). s.cleared) (last-is counted)
          ∙ pass-cleared a.clock a.count a.epochs (low_of a) near own fold-well

      above-is : (last q).above ≡ any_of (λ e. ltb (low_of a) e.epoch) own
      above-is = ap (λ (s : Last). s.above) (last-is counted)
          ∙ pass-above a.clock a.count a.epochs (low_of a) near own fold-well

      -- the greatest clearing among any epochs
      top_of : (r : Reach) → turned (top_turn r) no_top es (from_of q) (stop_at es rows a q - from_of q)
          ≡ foldl (top_turn r) no_top own
      unfolding cleared_to turned
      top_of r = split (last q).cleared
          (λ t. rw (t, end_is) (lot-turned es q (placed counted) (top_turn r) no_top))
          (λ f. let z : from_of q - from_of q ≡ 0 = omega arith in
          rw (f, z) (sym (top-still r no_top own (All_imp _ _ (λ e h. rw h) own
          (All-any_of _ own (sym cleared-is ∙ f))))))

      newest-is : newest_at es rows a q ≡ foldl (top_turn a.lands) no_top own
      unfolding landing_to turned
      newest-is = split (eqb a.lands.high a.lands.over)
          (λ t. let z : from_of q - from_of q ≡ 0 = omega arith in
          rw (t, z) (sym (top-still a.lands no_top own (All_every _ (λ e. rw (reach-none a.lands
          (eqb-true a.lands.high a.lands.over t) e.epoch) (and-false (eqb e.mark 1))) own))))
          (λ f. rw f (top_of a.lands))

      -- where it is whole each epoch is one that a page at low is shown, and no entry is a clearing
      pub whole-all : is_whole (last q) ≡ true → All (λ e. SeenRows (low_of a) e) own
      whole-all t = All-both (λ e. 1 ≤ e.epoch) (λ e. (ltb (low_of a) e.epoch ≡ false) × (eqb e.mark 1 ≡ false))
          (λ e l h. record { some = l; seen = ltb-false (low_of a) e.epoch h.0; rows = h.1 }) own parts.low
          (All-both (λ e. ltb (low_of a) e.epoch ≡ false) (λ e. eqb e.mark 1 ≡ false) (λ e x y. (x, y)) own
          (All-any_of _ own (sym above-is ∙ not-true (last q).above (and_left _ _ t)))
          (All-any_of _ own (sym cleared-is ∙ not-true (last q).cleared (and_right (not (last q).above) _ t))))

      -- its rows are shown then
      whole-turn : is_whole (last q) ≡ true → (n : ℕ) (e : Entry) → SeenRows (low_of a) e
          → shows (cuts q).shown n e.epoch ≡ true
      whole-turn t n e h = let no = top-still (reach_of a) no_top own (All_imp _ _ (λ d g. rw g.rows) own (whole-all
          t)) in
          rw (top_of (reach_of a), no) (shows-all a.lce (base_of rows_max q.area) n e.epoch h.some
          (low_near a e.epoch h.some h.seen).2)

      from_last : (c : Cuts) (end : ℕ) → end ≡ to_of q
          → (is_whole (last q) ≡ true → (n : ℕ) (e : Entry) → SeenRows (low_of a) e
          → shows c.shown n e.epoch ≡ true)
          → let first = weighed_from (last q) (from_of q) end in
          turned (tally_turn rows c) no_tally es first (end - first) ≡ foldl (tally_turn rows c) no_tally own
      unfolding weighed_from
      from_last c end is shown = rw is (split (is_whole (last q))
          (λ t. split (ltb (from_of q) (to_of q))
          (λ l. rw (t, l) (lot-last es q (placed counted) (tally_turn rows c) no_tally (SeenRows (low_of a))
          (λ d e h k. rw (shown t 0 d h, shown t d.end e k, shown t 0 e k))
          (whole-all t) (ltb-true (from_of q) (to_of q) l)))
          (λ l. rw (t, l) (lot-turned es q (placed counted) (tally_turn rows c) no_tally)))
          (λ t. rw t (lot-turned es q (placed counted) (tally_turn rows c) no_tally)))

      tally-all : tally q ≡ foldl (tally_turn rows (cuts q)) no_tally own
      tally-all = from_last (cuts q) (end_at es rows a q) end_is whole-turn

      tally-is : tally q ≡ foldl (tally_turn rows (cuts_of q (reach_of a) (foldl (top_turn (reach_of a)) no_top own)
          a.lands (foldl (top_turn a.lands) no_top own))) no_tally own
      tally-is = tally-all ∙ rw (top_of (reach_of a), newest-is)

      weighed-is : closed_of rows (cuts q).shown.base (tally q) ≡ total a.lce (spans_of es rows q)
      unfolding spans_of
      weighed-is = rw tally-is (lot-weighs es rows q lies (reach_of a) a.lands (foldl (top_turn a.lands) no_top own)
          ∙ page-weighs a.lce (spans 0 own ws) (epochs-spans 0 own ws parts.low))

    judged-is : (ok : Bool) (p : ℕ) → p < partitions_max
        → judged_of rows ok a.totals p q (last q) (cuts q) (tally q) ≡ ok && (ok_by q && weighs_by p q)
    unfolding judged_of
    judged-is ok p h = split well
        (λ w. rw (← well-is, w, lt-ltb p partitions_max h, weighed-is w) (in-turn ok (weighs_by p q)))
        (λ n. rw (← well-is, n, and-false ok))
      where
        in-turn : (x y : Bool) → ((x && true) && true) && y ≡ x && (true && y)
        in-turn true y = refl
        in-turn false y = refl

  -- ---- the partitions below p

  abbrev good : ℕ → Bool
  good p = ok_by (place p) && weighs_by p (place p)

  module _ (len : length es ≡ entries_max * areas_max) (lenr : length rows ≡ rows_max * areas_max)
      (eight : length a.partitions.at ≡ partitions_max)
      (inside : (p : ℕ) → p < partitions_max → (place p).area < areas_max) where
    upto-suc : (p : ℕ) → p < partitions_max → ok_up_to true (suc p) ≡ ok_up_to true p && good p
    unfolding ok_up_to
    upto-suc p h = judged-is len lenr (place p) (inside p h) (ok_up_to true p) p h

    upto-each : (k : ℕ) → k ≤ partitions_max → ok_up_to true k ≡ true → (p : ℕ) → p < k → good p ≡ true
    upto-each zero h t p l = absurd (omega arith)
    upto-each (suc k) h t p l = let e = sym (upto-suc k h) ∙ t in
        let ih = upto-each k (omega arith) (and_left (ok_up_to true k) (good k) e) p in
        split-eq p k (λ s. rw s (and_right (ok_up_to true k) (good k) e)) (λ ne. ih (under_next p k l ne))

    each_upto : ((p : ℕ) → p < partitions_max → good p ≡ true) → (k : ℕ) → k ≤ partitions_max → ok_up_to true k ≡ true
    unfolding ok_up_to
    each_upto h zero l = refl
    each_upto h (suc k) l = upto-suc k l ∙ and_both (ok_up_to true k) (good k) (each_upto h k (omega arith)) (h k l)

    all-good : ok_up_to true partitions_max
        ≡ all_of ok_by a.partitions.at && totals_are a.totals a.lce es rows a.partitions
    unfolding totals_are
    all-good = both_ways _ _
        (λ t. let e = upto-each partitions_max (omega arith) t in and_both (all_of ok_by a.partitions.at) _
        (all_of-All ok_by a.partitions.at (get_d-All (λ q. ok_by q ≡ true) no_partition a.partitions.at (λ p l.
        and_left (ok_by (place p)) (weighs_by p (place p)) (e p (omega (arith, eight, l))))))
        (all_of-All (λ p. weighs_by p (place p)) partition_numbers (get_d-All (λ p. weighs_by p (place p) ≡ true) 0
        partition_numbers (λ p l. subst (λ q. weighs_by q (place q) ≡ true) (sym (own-area p l))
        (and_right (ok_by (place p)) (weighs_by p (place p)) (e p l))))))
        (λ t. each_upto (λ p l. and_both (ok_by (place p)) (weighs_by p (place p))
        (All_get_d (λ q. ok_by q ≡ true) no_partition a.partitions.at
        (All-all_of ok_by a.partitions.at (and_left (all_of ok_by a.partitions.at) _ t)) p (omega (
          arith,
          eight,
          l,
        )))
        (subst (λ q. weighs_by q (place q) ≡ true) (own-area p l)
        (All_get_d (λ q. weighs_by q (place q) ≡ true) 0 partition_numbers (All-all_of (λ q. weighs_by q (place q))
        partition_numbers (and_right (all_of ok_by a.partitions.at) _ t)) p l))) partitions_max (omega arith))

  never : (p : ℕ) → ok_up_to false p ≡ false
  unfolding ok_up_to judged_of
  never zero = refl
  never (suc p) = rw (never p)

  pub rest-found : length a.partitions.at ≡ partitions_max
      → ok_up_to (begins (length es) (length rows) a.partitions) partitions_max ≡ rest_asked es rows a
  unfolding rest_asked lengths_are
  rest-found eight = split (begins (length es) (length rows) a.partitions)
      (λ t. let l = and_left (lengths_are (length es) (length rows)) (areas_ok a.partitions) t in
      let r = and_right (lengths_are (length es) (length rows)) (areas_ok a.partitions) t in
      let lr = eqb-true (length rows) (rows_max * areas_max) (and_left (eqb (length rows) (rows_max * areas_max)) _ l)
      in
      let le = eqb-true (length es) (entries_max * areas_max) (and_right (eqb (length rows) (rows_max * areas_max)) _
      l) in
      rw t (all-good le lr eight (areas-facts a.partitions eight r).inside))
      (λ n. rw n (never partitions_max))

  -- each partition then is well
  pub rest-well : length a.partitions.at ≡ partitions_max → rest_asked es rows a ≡ true → (p : ℕ) → p < partitions_max
      → (length es ≡ entries_max * areas_max) × (length rows ≡ rows_max * areas_max) × ((place p).area < areas_max)
      × (well_by (place p) (last (place p)) ≡ true)
  unfolding rest_asked lengths_are
  rest-well eight t p k =
      let ps = a.partitions in let x = lengths_are (length es) (length rows) in let z = all_of ok_by ps.at in
      let xyz = and_left (x && areas_ok ps && z) (totals_are a.totals a.lce es rows ps) t in
      let xy = and_left (x && areas_ok ps) z xyz in let l = and_left x (areas_ok ps) xy in
      let lr = eqb-true (length rows) (rows_max * areas_max) (and_left (eqb (length rows) (rows_max * areas_max)) _ l)
      in
      let le = eqb-true (length es) (entries_max * areas_max)
      (and_right (eqb (length rows) (rows_max * areas_max)) _ l) in
      let i = (areas-facts ps eight (and_right x (areas_ok ps) xy)).inside p k in
      let o = All_get_d (λ q. ok_by q ≡ true) no_partition ps.at (All-all_of ok_by ps.at (and_right (x && areas_ok ps)
      z xyz)) p (omega (arith, eight, k)) in
      (le, lr, i, well-is le lr (place p) i ∙ o)

  -- it lies well, and the passes over it find its newest clearing, and what it weighs
  pub rest-each : length a.partitions.at ≡ partitions_max → rest_asked es rows a ≡ true → (p : ℕ) → p < partitions_max
      → let q = place p in let own = part (entries_max * q.area) q.entries es in
      let newest = foldl (top_turn a.lands) no_top own in
      Lies es rows q × (newest_at es rows a q ≡ newest)
      × (tally_at es rows a q ≡ foldl (tally_turn rows (cuts_of q (reach_of a)
      (foldl (top_turn (reach_of a)) no_top own)
      a.lands newest)) no_tally own)
  rest-each eight t p k = let f = rest-well eight t p k in let q = place p in (
    lies f.0 f.1 q f.2 f.3,
    newest-is f.0 f.1 q f.2 f.3,
    tally-is f.0 f.1 q f.2 f.3,
  )
