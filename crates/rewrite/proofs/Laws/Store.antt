-- What a plan carried out means for a partition: its spans rolled back, or purged. Definitions: rules' Rewrite.
-- In order: the ends; a plan that keeps what rules keep; the entries of an area; tests, roll back, purge and
-- the rows copied, for an area whose entries have so many rows.
-- Assumes nothing.
use mathlib.Core.Path.{◌≡◌, refl, sym, ap, ◌∙◌}
use mathlib.Core.Bool.{true, false, not, ◌||◌}
use mathlib.Core.List.{List, [], ◌∷◌, ◌++◌, map}
use Prim.Native.Nat.{ℕ, ◌+◌, ◌-◌, ◌≤◌, ◌<◌, max}
use native.Mathlib.Omega.{arith}
use lib.Dec.{ltb, leb, eqb}
use lib.ListN.{length, take, drop, replicate}
use lib.Seq.{take-take}
use borrow.Author.Tests.{leb-true, le-leb, lt-leb, eqb-true, eqb-false, ne_eqb}
use Rattle.lists.specs.Lists.{keep_if, pad, part, over, elem}
use Rattle.lists.proofs.Laws.All.{All, All_imp}
use Rattle.lists.proofs.Laws.Bools.{split, and-false}
use Rattle.lists.proofs.Laws.Parts.{take-pad, drop-take, length_part, take_part}
use Rattle.lists.proofs.Laws.Tests.{and-three}
use Rattle.rules.specs.Limits.{rows_max, entries_max}
use Rattle.rules.specs.Manager.{writers_of}
use Rattle.rules.specs.Span.{Span, is_delete, spans, entries_of, words_of}
use Rattle.rules.specs.Sees.{up_to}
use Rattle.rules.specs.Hides.{hidden}
use Rattle.rules.specs.Rewrite.{joined, has_epoch, rolled_back, purged_in, purged, skips}
use Rattle.rules.specs.WellFormed.{ends_ok, epoch_ok}
use Rattle.rules.specs.declared.Entry.{Entry}
use Rattle.rules.specs.Manager.{Manager}
use Rattle.laws.proofs.Laws.Span.{end-ok, ends_ok-le, length-entries_of}
use Rattle.laws.proofs.Laws.Rewrite.{words-joined}
use Rattle.laws.proofs.Laws.SpansOk.{MarkOk, EpochOk}
use Rattle.lent.specs.Entries.{none}
use Rattle.area.specs.Area.{entries_in}
use Rattle.rewrite_plan.specs.Plan.{spans_in, plan_of, roll_epochs, purge_epochs}
use Rattle.rewrite.specs.Kept.{renewed, kept, ends_fit, area_of, as_rewritten, kept_of, rewritten_of}
use Rattle.rewrite.specs.Copied.{kept_words, areas_apart, copy_ok, rows_copied}
use Rattle.area.specs.declared.Area.{Area}
use Rattle.visible.proofs.Laws.Flags.{blank, bare-blank}
use Rattle.rewrite_plan.specs.declared.Plan.{Plan}
use Rattle.rewrite.proofs.Laws.Copied.{areas-apart}
use Rattle.rewrite_plan.proofs.Laws.Plan.{length-roll, length-purge}
use Rattle.rewrite.proofs.Laws.Blank.{has-blank}
use Rattle.rewrite.proofs.Laws.Blank.{skips-blank, roll-blank, purge-blank}
use Rattle.rewrite.proofs.Laws.Blank.{kept-blank, joined-blank, rewritten-blank}

-- ---- the ends

ends-fit : (rows n : ℕ) (es : List Entry) → rows ≤ rows_max → ends_ok rows n es ≡ true → ends_fit n es ≡ true
unfolding ends_ok ends_fit
ends-fit rows n [] h k = let g = eqb-true n rows k in le-leb n rows_max (omega arith)
ends-fit rows n (e ∷ es) h k = let c = end-ok rows n e es k in
    rw (le-leb n e.end c.low) (ends-fit rows e.end es h c.rest)

-- words behind the rows are not read
spans-take : (rows n : ℕ) (es : List Entry) (ws : List ℕ) → ends_ok rows n es ≡ true
    → spans n es (take (rows - n) ws) ≡ spans n es ws
unfolding spans
spans-take rows n [] ws h = refl
spans-take rows n (e ∷ es) ws h =
    let c = end-ok rows n e es h in let g = ends_ok-le rows e.end es c.rest in let low = c.low in
    let k = e.end - n in
    let d : drop k (take (rows - n) ws) ≡ take (rows - e.end) (drop k ws) =
    (let a : rows - n ≡ k + (rows - e.end) = omega arith in rw a (drop-take k (rows - e.end) ws)) in
    rw (take-take k (rows - n) ws (omega arith), d, spans-take rows e.end es (drop k ws) c.rest)

-- ---- a plan that keeps what rules keep

-- rows and deletes have epochs
abbrev pub Dated : Span → Type 0
Dated s = 0 < s.epoch

kept-pad : (ps qs : List ℕ) (ss : List Span) → length ps ≡ length ss → kept (ps ++ qs) ss ≡ kept ps ss
unfolding kept
kept-pad [] [] [] h = refl
kept-pad [] (q ∷ qs) [] h = refl
kept-pad [] qs (s ∷ ss) h = absurd (omega arith)
kept-pad (p ∷ ps) qs [] h = refl
kept-pad (p ∷ ps) qs (s ∷ ss) h = let ih = kept-pad ps qs ss (omega arith) in
    split (eqb p 0) (λ t. rw (t, ih)) (λ f. rw (f, ih))

-- a delete, or rows with their mark, stay as they are
renewed-delete : (s : Span) → is_delete s ≡ true → renewed s.epoch s ≡ s
renewed-delete s d = rw d (ap (λ (m : ℕ). record { epoch = s.epoch; mark = m; words = s.words })
    (sym (eqb-true s.mark 1 d)))

renewed-rows : (s : Span) → is_delete s ≡ false → MarkOk s → renewed s.epoch s ≡ s
renewed-rows s d h = let n = eqb-false s.mark 1 d in let z : 0 ≡ s.mark = omega arith in
    rw d (ap (λ (m : ℕ). record { epoch = s.epoch; mark = m; words = s.words }) z)

kept-roll : (i : ℕ) (ss : List Span) → All Dated ss → All MarkOk ss
    → kept (roll_epochs i ss) ss ≡ keep_if (λ s. not (eqb s.epoch i)) ss
unfolding kept roll_epochs
kept-roll i [] a b = refl
kept-roll i (s ∷ ss) a b = let ih = kept-roll i ss a.1 b.1 in let h = a.0 in split (eqb s.epoch i)
    (λ t. rw (t, ih))
    (λ f. rw (f, ne_eqb s.epoch 0 (λ e. omega arith), ih)
    (ap (λ (x : Span). x ∷ keep_if (λ u. not (eqb u.epoch i)) ss)
    (split (is_delete s) (λ d. renewed-delete s d) (λ d. renewed-rows s d b.0))))

kept-purge : (l : ℕ) (all ss : List Span) → All Dated ss → kept (purge_epochs l all ss) ss ≡ purged_in l all ss
unfolding kept purge_epochs purged_in
kept-purge l all [] a = refl
kept-purge l all (s ∷ ss) a = let ih = kept-purge l all ss a.1 in let h = a.0 in split (is_delete s)
    (λ d. split (leb s.epoch l)
    (λ t. rw (d, t, ih))
    (λ f. rw (d, f, ne_eqb s.epoch 0 (λ e. omega arith), ih)
    (ap (λ (m : ℕ). record { epoch = s.epoch; mark = m; words = s.words } ∷ purged_in l all ss)
    (sym (eqb-true s.mark 1 d)))))
    (λ r. split (hidden (up_to l) all (s ∷ ss) s.epoch)
    (λ t. rw (r, t, ih))
    (λ f. rw (r, f, ne_eqb (max s.epoch l) 0 (λ e. omega arith), ih)))

-- a sound store has epochs from 1 on
pub dated : (m : Manager) (ss : List Span) → All (EpochOk m) ss → All Dated ss
unfolding epoch_ok
dated m ss a = All_imp (EpochOk m) Dated (λ s h. leb-true 1 s.epoch
    (and-three (leb 1 s.epoch) (ltb s.epoch m.clock.ec)
    (leb s.epoch m.clock.lce || elem s.epoch (map (λ t. t.epoch) (writers_of m))) h).0) ss a

-- ---- the area of spans has their entries

pub area-entries : (ts : List Span) → entries_in (area_of ts) ≡ entries_of 0 ts
area-entries ts = rw (← length-entries_of 0 ts) (take-pad entries_max none (entries_of 0 ts))

-- no area lies apart from itself
pub copied-nowhere : (a : Area) (plan : Plan) (n : ℕ) (rs : List ℕ) → rows_copied a plan n n rs ≡ rs
unfolding rows_copied copy_ok
copied-nowhere a plan n rs = let b = leb (n + rows_max) (length rs) in
    rw (lt-leb (n + rows_max) n (omega arith), and-false b, and-false b, and-false (ends_fit 0 (entries_in a)))

-- ---- an area whose entries have so many rows, with its words

module _ (a : Area) (rows : ℕ) (fit : rows ≤ rows_max) (ends : ends_ok rows 0 (entries_in a) ≡ true) where
  module _ (ws : List ℕ) (len : length ws ≡ rows) where
    spans-are : spans_in a ≡ map blank (spans 0 (entries_in a) ws)
    spans-are = bare-blank rows 0 (entries_in a) ws ends (omega arith)

    pub has_same : (i : ℕ) → has_epoch i (spans_in a) ≡ has_epoch i (spans 0 (entries_in a) ws)
    has_same i = rw spans-are (has-blank i (spans 0 (entries_in a) ws))

    pub skips-same : (l : ℕ) → skips l (spans_in a) ≡ skips l (spans 0 (entries_in a) ws)
    skips-same l = rw spans-are (skips-blank l (spans 0 (entries_in a) ws))

    rewritten-kept : (p : Plan) → rewritten_of a p ≡ as_rewritten
        (joined (kept p.at (spans 0 (entries_in a) ws)))
    unfolding rewritten_of kept_of
    rewritten-kept p = let ss = spans 0 (entries_in a) ws in
        rw (ends-fit rows 0 (entries_in a) fit ends)
        (ap (λ (ts : List Span). as_rewritten (joined (kept p.at ts))) spans-are
        ∙ (ap (λ (ts : List Span). as_rewritten (joined ts)) (kept-blank p.at ss)
        ∙ (ap as_rewritten (joined-blank (kept p.at ss)) ∙ rewritten-blank (joined (kept p.at ss)))))

    -- ---- roll back

    module _ (i : ℕ) (epochs : All Dated (spans 0 (entries_in a) ws))
        (marks : All MarkOk (spans 0 (entries_in a) ws)) where
      roll-kept : kept (pad entries_max 0 (roll_epochs i (spans_in a))) (spans 0 (entries_in a) ws)
          ≡ keep_if (λ s. not (eqb s.epoch i)) (spans 0 (entries_in a) ws)
      roll-kept = let ss = spans 0 (entries_in a) ws in let ps = roll_epochs i ss in
          rw (spans-are, roll-blank i ss) (kept-pad ps (replicate (entries_max - length ps) 0) ss
          (length-roll i ss)
          ∙ kept-roll i ss epochs marks)

      pub rolled-area : rewritten_of a (plan_of (roll_epochs i (spans_in a))) ≡ as_rewritten
          (rolled_back i (spans 0 (entries_in a) ws))
      unfolding rolled_back
      rolled-area = rewritten-kept (plan_of (roll_epochs i (spans_in a))) ∙ ap
          (λ (ts : List Span). as_rewritten (joined ts)) roll-kept

      pub rolled-words : kept_words (plan_of (roll_epochs i (spans_in a))).at (entries_in a) ws
          ≡ words_of (rolled_back i (spans 0 (entries_in a) ws))
      unfolding kept_words rolled_back
      rolled-words = ap words_of roll-kept ∙ sym (words-joined
          (keep_if (λ s. not (eqb s.epoch i)) (spans 0 (entries_in a) ws)))

    -- ---- purge

    module _ (l : ℕ) (epochs : All Dated (spans 0 (entries_in a) ws)) where
      purge-kept : let ss = spans 0 (entries_in a) ws in
          kept (pad entries_max 0 (purge_epochs l (spans_in a) (spans_in a))) ss ≡ purged_in l ss ss
      purge-kept = let ss = spans 0 (entries_in a) ws in let ps = purge_epochs l ss ss in
          rw (spans-are, purge-blank l ss ss) (kept-pad ps (replicate (entries_max - length ps) 0) ss
          (length-purge l ss ss)
          ∙ kept-purge l ss ss epochs)

      pub purged-area : rewritten_of a (plan_of (purge_epochs l (spans_in a) (spans_in a))) ≡ as_rewritten
          (purged l (spans 0 (entries_in a) ws))
      unfolding purged
      purged-area = rewritten-kept (plan_of (purge_epochs l (spans_in a) (spans_in a))) ∙ ap
          (λ (ts : List Span). as_rewritten (joined ts)) purge-kept

      pub purged-words : kept_words (plan_of (purge_epochs l (spans_in a) (spans_in a))).at (entries_in a) ws
          ≡ words_of (purged l (spans 0 (entries_in a) ws))
      unfolding kept_words purged
      purged-words = let ss = spans 0 (entries_in a) ws in ap words_of purge-kept ∙ sym
          (words-joined (purged_in l ss ss))

  -- ---- the rows copied are those of the area's spans

  module _ (from to : ℕ) (lent : List ℕ) (apart : areas_apart from to (length lent) ≡ true) where
    pub copied-kept : (p : Plan) → rows_copied a p from to lent ≡ over to (kept_words p.at (entries_in a)
        (part from rows lent)) lent
    unfolding rows_copied copy_ok kept_words
    copied-kept p =
        let z : rows - 0 ≡ rows = omega arith in
        let same : spans 0 (entries_in a) (part from rows lent) ≡ spans 0 (entries_in a)
        (part from rows_max lent) =
        rw (← take_part from rows_max rows lent fit, ← z) (spans-take rows 0 (entries_in a)
        (part from rows_max lent) ends) in
        rw (ends-fit rows 0 (entries_in a) fit ends, apart, same)

    length-lent : length (part from rows lent) ≡ rows
    length-lent = let ok = areas-apart from to (length lent) apart in
        length_part from rows lent (omega (arith, ok.from_in))

    pub rolled-copied : (i : ℕ) → let ss = spans 0 (entries_in a) (part from rows lent) in All Dated ss → All MarkOk ss
        → rows_copied a (plan_of (roll_epochs i (spans_in a))) from to lent ≡ over to (words_of (rolled_back i ss)) lent
    rolled-copied i epochs marks = copied-kept (plan_of (roll_epochs i (spans_in a)))
        ∙ ap (λ (ws : List ℕ). over to ws lent) (rolled-words (part from rows lent) length-lent i epochs marks)

    pub purged-copied : (l : ℕ) → let ss = spans 0 (entries_in a) (part from rows lent) in All Dated ss
        → rows_copied a (plan_of (purge_epochs l (spans_in a) (spans_in a))) from to lent
        ≡ over to (words_of (purged l ss)) lent
    purged-copied l epochs = copied-kept (plan_of (purge_epochs l (spans_in a) (spans_in a)))
        ∙ ap (λ (ws : List ℕ). over to ws lent) (purged-words (part from rows lent) length-lent l epochs)
