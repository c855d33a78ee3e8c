-- Recovery makes a sound store of a checkpoint (02: round), and the ledger's own one stands beside it. 02 (v).
-- In order: the spans of a partition, the partitions below n, the store, the manager beside the ledger,
-- follows-recovered; recovery passed and refused, a save passed. Definitions: rules/specs/Recovery.antt.
-- Assumes nothing.
use mathlib.Core.Path.{◌≡◌, refl, sym, ◌∙◌, ap, subst}
use mathlib.Core.Bool.{Bool, true, false, not, ◌||◌, cond}
use mathlib.Core.Logic.{inl}
use mathlib.Core.List.Memᴰ
use mathlib.Core.List.{List, [], ◌∷◌, ◌++◌, map, append-nil}
use Prim.Native.Nat.{ℕ, zero, suc, ◌-◌, ◌≤◌, ◌<◌}
use native.Mathlib.Omega.{arith}
use lib.ListN.{length, get_or, length-map, get_or-map}
use lib.Dec.{ltb, eqb}
use borrow.Author.Tests.{eqb-true, eq-eqb, ne_eqb, le-leb, not-true, not-false}
use Rattle.lists.specs.Lists.{elem}
use Rattle.lists.proofs.Laws.Bools.{split, split-eq, or-false}
use Rattle.lists.proofs.Laws.Tests.{no_proof}
use Rattle.rules.specs.Limits.{last_epoch, partitions_max, rows_max}
use Rattle.rules.specs.Manager.{Manager}
use Rattle.rules.specs.Begin.{created_manager}
use Rattle.rules.specs.Span.{Span, words_of}
use Rattle.rules.specs.Checkpoint.{Checkpoint, encoded, corrupt_in}
use Rattle.rules.specs.Store.{Store, manager_of, spans_at, laid_in_place, created_store}
use Rattle.rules.specs.WellFormed.{epoch_ok, lengths_ok, sound}
use Rattle.rules.specs.Calls.{within}
use Rattle.rules.specs.Recovery.{checkpoint_at, save_answer, recovered_spans, recovered_below, recovered_store}
use Rattle.rules.specs.Recovery.{recover_answer}
use Rattle.rules.specs.Answers.{accepted}
use Rattle.rules.specs.Ledger.{row, Ledger, lines_at, recovered_ledger}
use Rattle.rules.specs.declared.Refusal.TheVariants.{OutOfRange, ShortOutput, Unsound, Corrupt}
use Rattle.rules.specs.declared.Answer.TheVariants.{Saved}
use Rattle.laws.proofs.Laws.Begin.{created-ok as createdManager-ok}
use Rattle.laws.proofs.Laws.Calls.{passed, within_low, within-high}
use Rattle.laws.proofs.Laws.Checkpoint.{CheckpointOk}
use Rattle.laws.proofs.Laws.Epochs.{epoch-ok}
use Rattle.laws.proofs.Laws.Follows.{Follows}
use Rattle.laws.proofs.Laws.Laid.{laid_in_place-changed}
use Rattle.laws.proofs.Laws.Lines.{AllLines-rows, keep_all}
use Rattle.laws.proofs.Laws.LinesOf.{lines_of}
use Rattle.laws.proofs.Laws.LinesPurge.{purge_lines}
use Rattle.laws.proofs.Laws.PartitionFollows.{PartitionFollows, follows-none}
use Rattle.laws.proofs.Laws.SpansOk.{SpansOk, spans-ok-none}
use Rattle.laws.proofs.Laws.Store.{created-spans, created-ok}
use Rattle.laws.proofs.Laws.Totals.{SoundOk, sound-refreshed, spans-refreshed}
use Rattle.laws.proofs.Laws.Tracks.{alive, Tracks}
use Rattle.laws.proofs.Laws.WellFormed.{StoreOk}

-- ---- the spans of a partition

-- LCE is its epoch
own-epoch_ok : (e : ℕ) → 1 ≤ e → epoch_ok (created_manager (suc e)) e ≡ true
unfolding created_manager
own-epoch_ok e h = epoch-ok (created_manager (suc e)) e (record {
  low = h;
  high = omega arith;
  has = ap (λ b. b || false) (le-leb e (suc e - 1) (omega arith));
})

spans-ok-recovered : (e : ℕ) (ws : List ℕ) → (e ≡ 0 → ws ≡ []) → length ws ≤ rows_max
    → SpansOk (created_manager (suc e)) (recovered_spans e ws)
unfolding words_of
spans-ok-recovered e [] n h = spans-ok-none (created_manager (suc e))
spans-ok-recovered zero (w ∷ ws) n h = let k = ap (length {A = ℕ}) (n refl) in absurd (omega arith)
spans-ok-recovered (suc e) (w ∷ ws) n h = record {
  marks = (omega arith, tt);
  epochs = (own-epoch_ok (suc e) (omega arith), tt);
  filled = (λ f. omega arith, tt);
  apart = (tt, tt);
  entries_fit = omega arith;
  rows_fit = subst (λ (xs : List ℕ). length xs ≤ rows_max) (sym (append-nil (w ∷ ws))) h;
}

-- ---- the partitions below n

module _ (c : Checkpoint) (k : CheckpointOk last_epoch c) (st : Store) (h : lengths_ok st ≡ true) where
  abbrev e : ℕ
  e = c.epoch

  abbrev m : Manager
  m = created_manager (suc e)

  abbrev spans_of : ℕ → List Span
  spans_of p = recovered_spans e (get_or c.rows p [])

  record Below (n : ℕ) (st' : Store) : Type 0 where
    sound : StoreOk st'
    manager : manager_of st' ≡ m
    below : (p : ℕ) → p < partitions_max → p < n → spans_at p st' ≡ spans_of p
    above : (p : ℕ) → p < partitions_max → n ≤ p → spans_at p st' ≡ []

  spans-ok : (p : ℕ) → SpansOk m (spans_of p)
  spans-ok p = spans-ok-recovered e (get_or c.rows p []) (λ z. k.none z p) (k.rows_fit p)

  recovered-below : (n : ℕ) → n ≤ partitions_max → Below n (recovered_below c n st)
  unfolding recovered_below created_store
  recovered-below zero l = let f = k.epoch-fits in record {
    sound = created-ok (suc e) st h (createdManager-ok (suc e) (omega arith) (omega arith));
    manager = refl;
    below = λ p q r. absurd (omega arith);
    above = λ p q r. created-spans (suc e) st p q;
  }
  recovered-below (suc n) l = further (recovered-below n (omega arith))
    where
      further : Below n (recovered_below c n st) → Below (suc n) (laid_in_place n (spans_of n) (recovered_below c n st))
      further b =
          let C = laid_in_place-changed (recovered_below c n st) b.sound n (omega arith) (spans_of n)
          (rw b.manager (spans-ok n)) in
          record {
            sound = C.sound;
            manager = C.manager ∙ b.manager;
            below = λ p q r. split-eq p n (λ t. rw t C.there)
                (λ ne. C.elsewhere p q ne ∙ b.below p q (omega arith));
            above = λ p q r. C.elsewhere p q (λ t. omega arith) ∙ b.above p q (omega arith);
          }

  -- ---- the store

  all-below : Below partitions_max (recovered_below c partitions_max st)
  all-below = recovered-below partitions_max (omega arith)

  pub recovered-sound : SoundOk (recovered_store c st)
  unfolding recovered_store
  recovered-sound = sound-refreshed (recovered_below c partitions_max st) all-below.sound

  pub recovered-manager : manager_of (recovered_store c st) ≡ m
  unfolding recovered_store
  recovered-manager = all-below.manager

  pub recovered-spans : (p : ℕ) → p < partitions_max → spans_at p (recovered_store c st) ≡ spans_of p
  unfolding recovered_store
  recovered-spans p l = spans-refreshed p (recovered_below c partitions_max st) ∙ all-below.below p l l

-- ---- the manager beside the ledger

module _ (c : Checkpoint) where
  abbrev l : ℕ
  l = c.epoch

  abbrev g : Ledger
  g = recovered_ledger c

  abbrev done : List ℕ
  done = cond (eqb l 0) [] (l ∷ [])

  done-is : (j : ℕ) → elem j done ≡ true → j ≡ l
  done-is j = split (eqb l 0) (λ t. rw t (λ d. no_proof d))
      (λ f. rw f (λ d. eqb-true j l (rw (or-false (eqb j l)) at d)))

  recovered-tracks : CheckpointOk last_epoch c → Tracks (created_manager (suc l)) g
  unfolding created_manager
  recovered-tracks k = let f = k.epoch-fits in record {
    ok = createdManager-ok (suc l) (omega arith) (omega arith);
    writers = record {
      same = λ i. refl;
      older = λ i j o u q. no_proof o;
      marks = λ i o j. no_proof o;
      done_below = λ j d. let t = done-is j d in omega arith;
      done-shut = λ j d. refl;
      done-known = λ j d. let t = done-is j d in ap (λ b. b || false) (le-leb j (suc l - 1) (omega arith));
      waits-done = λ t i n. absurd (Memᴰ.not-nil i);
      lce-done = inl refl;
      lce-base = omega arith;
    };
    readers = record { same = λ t. refl; marks = λ t o j. no_proof o };
  }

  -- ---- each partition's rows are the load's

  alive-own : (l ≡ 0 → ⊥) → alive g l ≡ true
  alive-own ne = rw (ne_eqb l 0 ne, eq-eqb l l refl)

  lines_at_lem : (p : ℕ) → lines_at p g ≡ map (row l) (get_or c.rows p [])
  lines_at_lem p = get_or-map (map (row l)) c.rows p []

rows-follow : (lse e : ℕ) (al : ℕ → Bool) (ws : List ℕ) → (ws ≡ [] → ⊥) → al e ≡ true
    → PartitionFollows lse (suc e) al (recovered_spans e ws) (map (row e) ws)
unfolding lines_of
rows-follow lse e al [] n a = absurd (n refl)
rows-follow lse e al (w ∷ ws) n a = record {
  below = AllLines-rows (λ j. j < suc e) e (w ∷ ws) (omega arith);
  agree = ap (purge_lines lse) (append-nil (map (row e) (w ∷ ws) ++ []) ∙ append-nil (map (row e) (w ∷ ws))
      ∙ sym (keep_all al (map (row e) (w ∷ ws)) (AllLines-rows (λ j. al j ≡ true) e (w ∷ ws) a)));
}

module _ (c : Checkpoint) (k : CheckpointOk last_epoch c) where
  partition-follows : (lse p : ℕ) → PartitionFollows lse (suc c.epoch) (alive (recovered_ledger c))
      (recovered_spans c.epoch (get_or c.rows p [])) (map (row c.epoch) (get_or c.rows p []))
  partition-follows lse p = split-nil (get_or c.rows p [])
      (λ n. rw n (follows-none _ _ _))
      (λ n. rows-follow lse c.epoch (alive (recovered_ledger c)) (get_or c.rows p []) n
      (alive-own c (λ z. n (k.none z p))))
    where
      split-nil : {P : Type 0} (ws : List ℕ) → (ws ≡ [] → P) → ((ws ≡ [] → ⊥) → P) → P
      split-nil [] a b = a refl
      split-nil (w ∷ ws) a b = b (λ n. let z = ap (length {A = ℕ}) n in omega arith)

  pub follows-recovered : (st : Store) → lengths_ok st ≡ true → Follows (recovered_store c st) (recovered_ledger c)
  unfolding created_manager
  follows-recovered st h = record {
    ok = recovered-sound c k st h;
    tracks = rw (recovered-manager c k st h) (recovered-tracks c k);
    places = length-map c.rows (map (row c.epoch)) ∙ k.partitions;
    partition = λ p l. rw (recovered-manager c k st h, recovered-spans c k st h p l, lines_at_lem c p)
        (partition-follows _ p);
  }

-- ---- recovery passed, and refused

pub record RecoverPassed (file : List ℕ) (lengths : Bool) : Type 0 where
  pub sound : lengths ≡ true
  pub whole : corrupt_in file ≡ false

pub recover-passed : (file : List ℕ) (lengths : Bool) → accepted (recover_answer file lengths) ≡ true
    → RecoverPassed file lengths
unfolding recover_answer
recover-passed file lengths t = let a = passed Unsound (not lengths) _ t in
    record { sound = not-false lengths a.test; whole = (passed Corrupt (corrupt_in file) _ a.rest).test }

pub recover-refused : (file : List ℕ) (lengths : Bool) → not (not (corrupt_in file)) ≡ true
    → accepted (recover_answer file lengths) ≡ false
unfolding recover_answer
recover-refused file true h = rw (not-false (corrupt_in file) (not-true (not (corrupt_in file)) h))
recover-refused file false h = refl

pub record SavePassed (e : ℕ) (lent : List ℕ) (st : Store) : Type 0 where
  pub low : (manager_of st).clock.lse ≤ e
  pub high : e ≤ (manager_of st).clock.lce
  pub is : save_answer e lent st ≡ Saved (length (encoded (checkpoint_at e st)))

pub save-passed : (e : ℕ) (lent : List ℕ) (st : Store) → accepted (save_answer e lent st) ≡ true → SavePassed e lent st
unfolding save_answer
save-passed e lent st t =
    let lse = (manager_of st).clock.lse in let lce = (manager_of st).clock.lce in
    let a = passed Unsound (not (sound st)) _ t in let b = passed OutOfRange (not (within lse lce e)) _ a.rest in
    let c = passed ShortOutput (ltb (length lent) (length (encoded (checkpoint_at e st)))) _ b.rest in
    record {
      low = within_low lse lce e b.test;
      high = within-high lse lce e b.test;
      is = a.is ∙ (b.is ∙ c.is);
    }
