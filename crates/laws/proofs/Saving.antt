-- What a save writes after a history: a checkpoint (02: round) that may stand in a file, of what the ledger shows.
-- Statements: rules/specs/Saving.antt.
-- In order: a page at an epoch; what is written is what the ledger shows, and is savable; history_saves.
-- Assumes nothing.
use mathlib.Core.Path.{◌≡◌, refl, sym, ◌∙◌, subst}
use mathlib.Core.Bool.{true, ◌&&◌}
use mathlib.Core.List.{List, [], map}
use Prim.Native.Nat.{ℕ, ◌*◌, ◌≤◌, ◌<◌}
use native.Mathlib.Omega.{arith}
use lib.ListN.{length, drop, get_or}
use lib.Dec.{ltb, leb}
use borrow.Author.Tests.{le-leb, lt-leb, lt-ltb, eq-eqb, ne_eqb}
use Rattle.lists.specs.Lists.{keep_if, all_of, elem}
use Rattle.lists.proofs.Laws.All.{All, All_imp, All-take, All-drop, All-all_of, all_of-All}
use Rattle.lists.proofs.Laws.All.{get_d-All}
use Rattle.lists.proofs.Laws.Bools.{split-eq, or_right}
use Rattle.rules.specs.Limits.{last_epoch, partitions_max, rows_max}
use Rattle.rules.specs.Sees.{up_to}
use Rattle.rules.specs.Checkpoint.{Checkpoint, sum_of, header_ok}
use Rattle.rules.specs.Store.{Store, manager_of, partition_at, spans_at}
use Rattle.rules.specs.Recovery.{shown_at, checkpoint_at}
use Rattle.rules.specs.Step.{saved_over, step}
use Rattle.rules.specs.Histories.{store_after}
use Rattle.rules.specs.Ledger.{Ledger, lines_at, reader_shows}
use Rattle.rules.specs.Saving.{is_word, savable, PageAt, page_shows, HistorySaves}
use Rattle.laws.proofs.Laws.Checkpoint.{length-encoded}
use Rattle.laws.proofs.Laws.Epochs.{epoch-facts}
use Rattle.laws.proofs.Laws.Follows.{Follows}
use Rattle.laws.proofs.Laws.Hides.{shown-lines}
use Rattle.laws.proofs.Laws.Lines.{shows_ext}
use Rattle.laws.proofs.Laws.Manager.{manager-facts}
use Rattle.laws.proofs.Laws.PartitionFollows.{follows-shown}
use Rattle.laws.proofs.Laws.Totals.{numbered}
use Rattle.laws.proofs.Laws.Tracks.{alive, marks_of-first}
use Rattle.laws.proofs.Laws.TracksReadOnly.{snapshot-marks}
use Rattle.laws.proofs.Laws.Recovery.{save-passed}
use Rattle.laws.proofs.Promises.{follows-history}
use Rattle.laws.proofs.Laws.Hides.{shown-all, shown_most, shown-none}
use Rattle.laws.proofs.Laws.Bytes.{all-lengths, sum-none}

-- ---- a page at an epoch

pub page-at : PageAt
unfolding reader_shows
page-at e t p g h = rw (
  ne_eqb e 0 (λ z. omega arith),
  marks_of-first t (keep_if (λ c. leb c e) g.committed)
      g.readers,
)

-- ---- a save after a history

pub epoch-is : (e : ℕ) (st : Store) → (checkpoint_at e st).epoch ≡ e
unfolding checkpoint_at
epoch-is e st = refl

module _ {st : Store} {g : Ledger} (F : Follows st g) (e : ℕ) where
  abbrev c : Checkpoint
  c = checkpoint_at e st

  rows_at : (p : ℕ) → p < partitions_max → get_or c.rows p [] ≡ shown_at e p st
  unfolding checkpoint_at
  rows_at p l = numbered (λ q. shown_at e q st) [] p l

  module _ (low : (manager_of st).clock.lse ≤ e) (high : e ≤ (manager_of st).clock.lce) where
    -- what the spans show is what the ledger shows
    page-shows : (p : ℕ) → p < partitions_max → shown_at e p st ≡ page_shows e p g
    page-shows p l = let marks = keep_if (λ k. leb k e) g.committed in
        let up : (j : ℕ) → j ≤ (manager_of st).clock.lse → leb j e ≡ true = λ j q. le-leb j e (omega arith) in
        let same : (j : ℕ) → alive g j && leb j e ≡ elem j marks = λ j. sym (snapshot-marks F.tracks e high j) in
        shown-lines (up_to e) (up_to e) (spans_at p st)
        ∙ (follows-shown (F.partition p l) (up_to e) (up_to e) up up
        ∙ shows_ext (λ j. alive g j && leb j e) (λ k. alive g k && leb k e) (λ j. elem j marks) (λ k. elem k marks)
        same same (lines_at p g))

    few : (p : ℕ) → p < partitions_max → length (shown_at e p st) ≤ rows_max
    few p l = let k = (F.ok.shape.partition p l).spans-ok.rows_fit in
        let m = shown_most (up_to e) (up_to e) (spans_at p st) in omega arith

    -- no row has epoch 0
    none : e ≡ 0 → (p : ℕ) → p < partitions_max → shown_at e p st ≡ []
    none z p l = shown-none (up_to e) (up_to e) (spans_at p st)
        (All_imp _ _ (λ t q. let f = (epoch-facts (manager_of st) t.epoch q).low in lt-leb t.epoch e (omega arith))
        (spans_at p st) (F.ok.shape.partition p l).spans-ok.epochs)

    -- ---- what is written is savable

    rows-eight : length c.rows ≡ partitions_max
    unfolding checkpoint_at
    rows-eight = refl

    each : (P : List ℕ → Type 0) → ((p : ℕ) → p < partitions_max → P (shown_at e p st)) → All P c.rows
    each P h = get_d-All P [] c.rows (λ p l.
        let k = subst (λ n. p < n) rows-eight l in subst P (sym (rows_at p k)) (h p k))

    words-fit : all_of is_word st.rows ≡ true → all_of (all_of is_word) c.rows ≡ true
    words-fit h = all_of-All (all_of is_word) c.rows (each (λ ws. all_of is_word ws ≡ true) (λ p l.
        let ss = spans_at p st in let q = partition_at p st in let W : ℕ → Type 0 = λ w. is_word w ≡ true in
        all_of-All is_word (shown_at e p st) (shown-all (up_to e) (up_to e) ss W
        (subst (All W) (sym (F.ok.shape.partition p l).words_are)
        (All-take W q.rows (drop (rows_max * q.area) st.rows) (All-drop W (rows_max * q.area) st.rows
        (All-all_of is_word st.rows h)))))))

    counts-fit : all_of (λ n. leb n rows_max) (map length c.rows) ≡ true
    counts-fit = all-lengths (λ n. leb n rows_max) c.rows
        (each (λ ws. leb (length ws) rows_max ≡ true) (λ p l. le-leb (length (shown_at e p st)) rows_max (few p l)))

    counts-none : e ≡ 0 → sum_of (map length c.rows) ≡ 0
    counts-none z = sum-none c.rows (each (λ ws. ws ≡ []) (none z))

    header-fits : (before : ℕ) → before ≤ e → header_ok last_epoch before e (map length c.rows) ≡ true
    unfolding header_ok
    header-fits before b =
        let k = (manager-facts (manager_of st) F.ok.shape.manager).clock in
        let up = k.ec-high in let lo = k.lce-low in
        rw (counts-fit, le-leb e last_epoch (omega arith), le-leb before e b)
        (split-eq e 0 (λ z. or_right (ltb 0 e) _ (eq-eqb _ 0 (counts-none z))) (λ ne. rw (lt-ltb 0 e (omega arith))))

    saved-savable : all_of is_word st.rows ≡ true → (before : ℕ) → before ≤ e → savable last_epoch before c ≡ true
    saved-savable h before b = rw (rows-eight, words-fit h, epoch-is e st, header-fits before b)

pub history_saves : HistorySaves
unfolding step saved_over
history_saves s st h calls e lent w t =
    let F = follows-history s st h calls in let at = store_after s st calls in let k = save-passed e lent at t in
    record {
      answer = k.is;
      written = rw t;
      size = length-encoded (checkpoint_at e at) (rows-eight F e k.low k.high);
      ok = saved-savable F e k.low k.high w;
      shown = λ p l. rows_at F e p l ∙ page-shows F e k.low k.high p l;
    }
