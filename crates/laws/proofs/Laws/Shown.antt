-- What a scan of a sound store shows an open reader, and that neither a purge nor a move of LSE changes it.
-- 01 "Lots", Purge, and "The books", Move LSE.
-- In order: the words of a partition, the answer of a scan, what it shows; two stores that show the same;
-- purge; LSE.
-- Elsewhere: what the ledger shows (History.antt).
-- Assumes nothing.
use mathlib.Core.Path.{◌≡◌, refl, sym, ◌∙◌}
use mathlib.Core.Bool.{true, not, cond}
use mathlib.Core.List.{List}
use Prim.Native.Nat.{ℕ, ◌*◌, ◌≤◌, ◌<◌}
use native.Mathlib.Omega.{arith}
use lib.ListN.{length, take}
use borrow.Author.Tests.{le-ltb, lt-leb}
use Rattle.lists.specs.Lists.{ones}
use Rattle.lists.proofs.Laws.Bools.{split, split-eq}
use Rattle.lists.proofs.Laws.Parts.{take_part}
use Rattle.rules.specs.Limits.{partitions_max, rows_max}
use Rattle.rules.specs.Safe.{advanced_manager}
use Rattle.rules.specs.Span.{Span, words_of}
use Rattle.rules.specs.Rewrite.{purged, skips}
use Rattle.rules.specs.Bitmap.{bytes_for}
use Rattle.rules.specs.Store.{Store, manager_of, partition_at, spans_at, with_manager, purged_store}
use Rattle.rules.specs.Answers.{reply_of, second_value, accepted}
use Rattle.rules.specs.WellFormed.{sound}
use Rattle.rules.specs.Calls.{refuse, is_reader, sees_of, applies_of, flags_at, scan_answer}
use Rattle.rules.specs.Calls.{advance_lse_answer}
use Rattle.rules.specs.Calls.{purge_answer}
use Rattle.rules.specs.Step.{scan, advance_lse, purge, area_rows, step}
use Rattle.rules.specs.Ledger.{shows}
use Rattle.rules.specs.Claim.{words_scanned}
use Rattle.rules.specs.Manager.{Manager}
use Rattle.rules.specs.declared.Reader.{Reader}
use Rattle.rules.specs.declared.Reader.TheVariants.{Rw, Ro}
use Rattle.rules.specs.declared.Refusal.TheVariants.{NotOpen}
use Rattle.rules.specs.declared.Answer.{Answer}
use Rattle.rules.specs.declared.Answer.TheVariants.{Scanned}
use Rattle.laws.proofs.Laws.LinesPurge.{shows-purge}
use Rattle.laws.proofs.Laws.LinesOf.{lines_of, lines-purged}
use Rattle.laws.proofs.Laws.Hides.{ones-flags, scan-shows}
use Rattle.laws.proofs.Laws.Safe.{low-sees, low_applies}
use Rattle.laws.proofs.Laws.Epochs.{purged-epoch_ok}
use Rattle.laws.proofs.Laws.Totals.{SoundOk, sound-ok}
use Rattle.laws.proofs.Laws.Store.{purge-changed}
use Rattle.laws.proofs.Laws.Calls.{purge-passed}
use Rattle.laws.proofs.Laws.Sound.{sound-step}

-- what spans show a reader of a manager
abbrev shows_to : Reader → Manager → List Span → List ℕ
shows_to r m ss = shows (sees_of r m) (applies_of r m) (lines_of ss)

-- what the spans of partition p show it
abbrev pub spans_show : Reader → ℕ → Store → List ℕ
spans_show r p st = shows_to r (manager_of st) (spans_at p st)

module _ (st : Store) (ok : SoundOk st) (r : Reader) (p : ℕ) (h : p < partitions_max) where
  -- the words of the area, as many as there are rows, are the words of the spans
  words-at : take (partition_at p st).rows (area_rows (partition_at p st).area st) ≡ words_of (spans_at p st)
  words-at = let q = ok.shape.partition p h in let c = q.row_count in let n = q.spans-ok.rows_fit in
      take_part (rows_max * (partition_at p st).area) rows_max (partition_at p st).rows st.rows (omega arith)
      ∙ sym q.words_are

  module _ (lent : List ℕ) (enough : bytes_for (partition_at p st).rows ≤ length lent) where
    abbrev scans : Answer
    scans = Scanned (partition_at p st).rows (ones (flags_at r p st))

    -- only a reader that is not open is refused
    answer : scan_answer r p lent st ≡ refuse NotOpen (not (is_reader r (manager_of st))) scans
    unfolding scan_answer
    answer = rw (
      sound-ok st ok,
      lt-leb partitions_max p h,
      le-ltb (length lent) (bytes_for (partition_at p st).rows) enough,
    )

    answer_open : is_reader r (manager_of st) ≡ true → scan_answer r p lent st ≡ scans
    answer_open o = answer ∙ rw o

    pub scan-admits : accepted (step (scan r p lent) st).answer ≡ is_reader r (manager_of st)
    unfolding step
    scan-admits = rw answer (split (is_reader r (manager_of st)) (λ t. rw t) (λ f. rw f))

    pub scan-counts : is_reader r (manager_of st) ≡ true
        → second_value (reply_of (step (scan r p lent) st).answer) ≡ length (spans_show r p st)
    unfolding step flags_at
    scan-counts o = let m = manager_of st in rw (answer_open o)
        (ones-flags (sees_of r m) (applies_of r m) (spans_at p st))

    pub scan-spans : is_reader r (manager_of st) ≡ true → words_scanned r p lent st ≡ spans_show r p st
    unfolding step flags_at
    scan-spans o = let m = manager_of st in
        rw (answer_open o, words-at) (scan-shows (sees_of r m) (applies_of r m) (spans_at p st) lent)

-- ---- two stores that show an open reader the same

-- a scan of st' beside one of st
pub record ScanSame (r : Reader) (p : ℕ) (lent : List ℕ) (st st' : Store) : Type 0 where
  pub admitted : accepted (step (scan r p lent) st').answer ≡ true
  pub shown : words_scanned r p lent st' ≡ words_scanned r p lent st

module _ (r : Reader) (p : ℕ) (h : p < partitions_max) (lent : List ℕ)
    (st st' : Store) (ok : SoundOk st) (ok' : SoundOk st')
    (n : bytes_for (partition_at p st).rows ≤ length lent) (n' : bytes_for (partition_at p st').rows ≤ length lent)
    (o : is_reader r (manager_of st) ≡ true) where
  scan-same : is_reader r (manager_of st') ≡ true → spans_show r p st' ≡ spans_show r p st → ScanSame r p lent st st'
  scan-same o' e = record {
    admitted = scan-admits st' ok' r p h lent n' ∙ o';
    shown = scan-spans st' ok' r p h lent n' o' ∙ (e ∙ sym (scan-spans st ok r p h lent n o));
  }

-- ---- purge

module _ (p : ℕ) (st : Store) (ok : SoundOk st) (r : Reader) (o : is_reader r (manager_of st) ≡ true) where
  abbrev lse : ℕ
  lse = (manager_of st).clock.lse

  abbrev ss : List Span
  ss = spans_at p st

  -- the partition's spans once purged
  rewritten : shows_to r (manager_of st) (cond (skips lse ss) ss (purged lse ss)) ≡ spans_show r p st
  rewritten = let m = manager_of st in split (skips lse ss) (λ t. rw t) (λ f. rw (f, lines-purged lse ss)
      (shows-purge lse (sees_of r m) (applies_of r m) (low-sees m ok.shape.manager r o)
      (low_applies m ok.shape.manager r o)
      (lines_of ss)))

  purged-shows : p < partitions_max → (q : ℕ) → q < partitions_max
      → (manager_of (purged_store p st) ≡ manager_of st) × (spans_show r q (purged_store p st) ≡ spans_show r q st)
  purged-shows l q h = let C = purge-changed st ok.shape p l (purged-epoch_ok (manager_of st) ok.shape.manager) in (
    C.manager,
    split-eq q p
        (λ e. rw e ((λ i. shows_to r (C.manager i) (C.there i)) ∙ rewritten))
        (λ ne i. shows_to r (C.manager i) (C.elsewhere q h ne i)),
  )

  purge-spans : (q : ℕ) → q < partitions_max → (manager_of (step (purge p) st).store ≡ manager_of st)
      × (spans_show r q (step (purge p) st).store ≡ spans_show r q st)
  unfolding step
  purge-spans q h = split (accepted (purge_answer p st))
      (λ t. rw t (purged-shows (purge-passed p st t).1 q h)) (λ f. rw f (refl, refl))

pub purge-shows : (p : ℕ) (st : Store) → SoundOk st → (r : Reader) → is_reader r (manager_of st) ≡ true
    → (q : ℕ) → q < partitions_max → (lent : List ℕ) → bytes_for (partition_at q st).rows ≤ length lent
    → bytes_for (partition_at q (step (purge p) st).store).rows ≤ length lent
    → ScanSame r q lent st (step (purge p) st).store
purge-shows p st ok r o q h lent n n' = let k = purge-spans p st ok r o q h in
    scan-same r q h lent st (step (purge p) st).store ok (sound-step (purge p) st ok) n n' o (rw k.0 o) k.1

-- ---- LSE: no span changes, and nobody's sees and applies

advance-spans : (t : ℕ) (st : Store) (r : Reader) (q : ℕ)
    → (is_reader r (manager_of (step (advance_lse t) st).store) ≡ is_reader r (manager_of st))
    × (spans_show r q (step (advance_lse t) st).store ≡ spans_show r q st)
unfolding step advanced_manager sees_of applies_of spans_at
advance-spans t st r q = split (accepted (advance_lse_answer t (sound st) (manager_of st)))
    (λ a. rw a (same r)) (λ f. rw f (refl, refl))
  where
    same : (r : Reader) → (is_reader r (advanced_manager t (manager_of st)) ≡ is_reader r (manager_of st))
        × (spans_show r q (with_manager (advanced_manager t (manager_of st)) st) ≡ spans_show r q st)
    same (Rw i) = (refl, refl)
    same (Ro u) = (refl, refl)

pub advance-shows : (t : ℕ) (st : Store) → SoundOk st → (r : Reader) → is_reader r (manager_of st) ≡ true
    → (q : ℕ) → q < partitions_max → (lent : List ℕ) → bytes_for (partition_at q st).rows ≤ length lent
    → bytes_for (partition_at q (step (advance_lse t) st).store).rows ≤ length lent
    → ScanSame r q lent st (step (advance_lse t) st).store
advance-shows t st ok r o q h lent n n' = let k = advance-spans t st r q in
    scan-same r q h lent st (step (advance_lse t) st).store ok (sound-step (advance_lse t) st ok) n n' o
    (k.0 ∙ o) k.1
