-- The store beside the ledger of demand 3, and that each accepted call keeps them together. Definitions:
-- rules/specs/Step.antt, rules/specs/Ledger.antt.
-- In order: Follows, making new, calls on the manager, roll back, append, clear and purge.
-- Elsewhere: the manager's half (Laws/Tracks.antt), a partition's half (Laws/PartitionFollows.antt).
-- Assumes nothing.
use mathlib.Core.Path.{◌≡◌, refl, sym, subst, ◌∙◌, ap}
use mathlib.Core.Bool.{true, false, cond}
use mathlib.Core.List.{List, [], ◌∷◌, ◌++◌, map}
use Prim.Native.Nat.{ℕ, suc, ◌+◌, ◌≤◌, ◌<◌}
use native.Mathlib.Omega.{arith}
use lib.ListN.{length, set, get_or-replicate, length-set}
use lib.Seq.{get_or-set_same, get_or-set_other, set-get_or}
use borrow.Author.Tests.{ne_eqb}
use Rattle.lists.proofs.Laws.Bools.{split-eq, or-false}
use Rattle.rules.specs.Limits.{last_epoch, last_ticket, writers_max, readers_max, partitions_max, rows_max}
use Rattle.rules.specs.Limits.{entries_max}
use Rattle.rules.specs.Manager.{has_open}
use Rattle.rules.specs.Begin.{begun_manager}
use Rattle.rules.specs.Close.{settled, committed_manager, rolled_back_manager}
use Rattle.rules.specs.ReadOnly.{snapshot_epoch, begun_ro_manager, ended_ro_manager}
use Rattle.rules.specs.Safe.{blocked, target_of, advanced_manager}
use Rattle.rules.specs.Span.{Span}
use Rattle.rules.specs.Append.{appended, cleared}
use Rattle.rules.specs.Rewrite.{purged, skips}
use Rattle.rules.specs.Store.{Store, manager_of, partition_at, spans_at, with_manager, laid_in_place}
use Rattle.rules.specs.Store.{refreshed, laid, created_store, rolled_back_below, purged_store}
use Rattle.rules.specs.WellFormed.{epoch_ok, lengths_ok}
use Rattle.rules.specs.Ledger.{Line, row, delete, Ledger, new_ledger, lines_at, with_lines, with_added}
use Rattle.rules.specs.Ledger.{with_begun, with_opened, with_open_rw, with_open_ro, without}
use Rattle.rules.specs.Manager.{Manager}
use Rattle.laws.proofs.Laws.Begin.{created-ok as createdManager-ok}
use Rattle.laws.proofs.Laws.Epochs.{has_open-epoch_ok, purged-epoch_ok, begun-epoch_ok, committed-epoch_ok}
use Rattle.laws.proofs.Laws.Epochs.{rolled_back-epoch_ok, begun_ro-epoch_ok, ended_ro-epoch_ok}
use Rattle.laws.proofs.Laws.Epochs.{advanced-epoch_ok}
use Rattle.laws.proofs.Laws.Lines.{mark_of, AllLines, AllLines-rows}
use Rattle.laws.proofs.Laws.LinesOf.{lines_of, lines-appended, lines-cleared}
use Rattle.laws.proofs.Laws.Laid.{Changed}
use Rattle.laws.proofs.Laws.Store.{spans_with-manager, with-manager-ok, created-spans, created-ok}
use Rattle.laws.proofs.Laws.Store.{append-changed, clear-changed, purge-changed, rollback-spans}
use Rattle.laws.proofs.Laws.Store.{rollback-ok}
use Rattle.laws.proofs.Laws.Totals.{SoundOk, sound-refreshed, spans-refreshed, totals_created, sound-added}
use Rattle.laws.proofs.Laws.Totals.{sound-purged}
use Rattle.laws.proofs.Laws.Tracks.{alive, Tracks, tracks-writer}
use Rattle.laws.proofs.Laws.TracksBegin.{tracks-create, tracks-begin, alive-begin}
use Rattle.laws.proofs.Laws.TracksClose.{tracks-commit, tracks-rollback, alive-commit, alive-rollback}
use Rattle.laws.proofs.Laws.TracksReadOnly.{tracks-begin_ro, tracks-end_ro, tracks-advance}
use Rattle.laws.proofs.Laws.TracksReadOnly.{tracks-lines}
use Rattle.laws.proofs.Laws.PartitionFollows.{PartitionFollows, follows-none, follows-added}
use Rattle.laws.proofs.Laws.PartitionFollows.{follows-alive, follows-rolled_back, follows-advanced}
use Rattle.laws.proofs.Laws.PartitionFollows.{follows-purged}

pub record Follows (st : Store) (g : Ledger) : Type 0 where
  pub ok : SoundOk st
  pub tracks : Tracks (manager_of st) g
  pub places : length g.lines ≡ partitions_max
  pub partition : (p : ℕ) → p < partitions_max
      → PartitionFollows (manager_of st).clock.lse (manager_of st).clock.ec (alive g) (spans_at p st) (lines_at p g)

-- ---- making new

pub follows-create : (s : ℕ) (st : Store) → lengths_ok st ≡ true → 1 ≤ s → s ≤ last_epoch → Follows (created_store s
    st) (new_ledger s)
unfolding created_store
follows-create s st h lo hi = record {
  ok = record { shape = created-ok s st h (createdManager-ok s lo (omega arith)); totals = totals_created s st };
  tracks = tracks-create s lo hi;
  places = refl;
  partition = λ p q. rw (created-spans s st p q, get_or-replicate {A = List Line} 8 p [] [] q) (follows-none _ _ _);
}

-- ---- calls on the manager

module _ {st : Store} {g : Ledger} (F : Follows st g) where
  -- another manager, and a ledger with the same lines
  with-manager : (m : Manager) (g' : Ledger) → Tracks m g' → g'.lines ≡ g.lines
      → ((j : ℕ) → epoch_ok (manager_of st) j ≡ true → epoch_ok m j ≡ true)
      → ((ss : List Span) (ls : List Line) → PartitionFollows (manager_of st).clock.lse (manager_of st).clock.ec
      (alive g) ss ls
      → PartitionFollows m.clock.lse m.clock.ec (alive g') ss ls)
      → Follows (refreshed (with_manager m st)) g'
  with-manager m g' T e f h = record {
    ok = sound-refreshed (with_manager m st) (with-manager-ok m st F.ok.shape T.ok f);
    tracks = T;
    places = ap length e ∙ F.places;
    partition = λ p q. rw (spans-refreshed p (with_manager m st), spans_with-manager m p st, e)
        (h _ _ (F.partition p q));
  }

  pub follows-begin : ((manager_of st).clock.ec ≡ suc last_epoch → ⊥) → (manager_of st).writers.count < writers_max
      → Follows (refreshed (with_manager (begun_manager (manager_of st)) st)) (with_begun (manager_of st).clock.ec g)
  unfolding begun_manager
  follows-begin last room = let m = manager_of st in
      with-manager (begun_manager m) (with_begun m.clock.ec g) (tracks-begin F.tracks last room) refl
      (begun-epoch_ok m)
      (λ ss ls P. follows-alive P (suc m.clock.ec) (alive (with_begun m.clock.ec g)) (omega arith)
      (λ j q. alive-begin m.clock.ec g j ∙ rw (ne_eqb j m.clock.ec (λ e. omega arith)) (or-false (alive g
      j))))

  pub follows-commit : (i : ℕ) → has_open i (manager_of st) ≡ true
      → Follows (refreshed (with_manager (committed_manager i (manager_of st)) st)) (with_open_rw (i ∷ g.committed)
      (without i g.writers) g)
  unfolding committed_manager settled
  follows-commit i o = let m = manager_of st in let g' = with_open_rw (i ∷ g.committed) (without i g.writers) g in
      with-manager (committed_manager i m) g' (tracks-commit F.tracks i o) refl (committed-epoch_ok i m)
      (λ ss ls P. follows-alive P m.clock.ec (alive g') (omega arith) (λ j q. alive-commit F.tracks i o j))

  pub follows-begin_ro : (e : ℕ) → (manager_of st).clock.lse ≤ snapshot_epoch e (manager_of st)
      → snapshot_epoch e (manager_of st) ≤ (manager_of st).clock.lce → ((manager_of st).readers.next ≡ suc last_ticket →
      ⊥)
      → (manager_of st).readers.count < readers_max
      → Follows (refreshed (with_manager (begun_ro_manager e (manager_of st)) st))
      (with_opened e (manager_of st).readers.next g)
  unfolding begun_ro_manager
  follows-begin_ro e low high last room = let m = manager_of st in
      with-manager (begun_ro_manager e m) (with_opened e m.readers.next g) (tracks-begin_ro F.tracks e low high
      last room) refl
      (λ j q. begun_ro-epoch_ok e m j ∙ q) (λ ss ls P. P)

  pub follows-end_ro : (t : ℕ) → Follows (refreshed (with_manager (ended_ro_manager t (manager_of st)) st))
      (with_open_ro
      (without t
      g.readers) g)
  unfolding ended_ro_manager
  follows-end_ro t = let m = manager_of st in
      with-manager (ended_ro_manager t m) (with_open_ro (without t g.readers) g) (tracks-end_ro F.tracks t) refl
      (λ j q. ended_ro-epoch_ok t m j ∙ q) (λ ss ls P. P)

  pub follows-advance : (t : ℕ) → (manager_of st).clock.lse ≤ target_of t (manager_of st) → target_of t (manager_of st)
      ≤ (manager_of st).clock.lce
      → blocked (target_of t (manager_of st)) (manager_of st) ≡ false
      → Follows (refreshed (with_manager (advanced_manager t
      (manager_of st)) st)) g
  unfolding advanced_manager
  follows-advance t low high free = let m = manager_of st in
      with-manager (advanced_manager t m) g (tracks-advance F.tracks t high free) refl
      (λ j q. advanced-epoch_ok t m j ∙ q) (λ ss ls P. follows-advanced P (target_of t m) low)

  -- ---- roll back: the manager, and every partition

  pub follows-rollback : (i : ℕ) → has_open i (manager_of st) ≡ true
      → Follows (refreshed (with_manager (rolled_back_manager i (manager_of st))
      (rolled_back_below i partitions_max st)))
      (with_open_rw g.committed (without i g.writers) g)
  unfolding rolled_back_manager settled
  follows-rollback i o =
      let m = manager_of st in let n = rolled_back_manager i m in let w = tracks-writer F.tracks i o in record {
        ok = sound-refreshed _ (rollback-ok i st F.ok.shape n (tracks-rollback F.tracks i o).ok
            (λ j q ne. rolled_back-epoch_ok i m j ne q));
        tracks = tracks-rollback F.tracks i o;
        places = F.places;
        partition = λ p q. rw (
          spans-refreshed p (with_manager n (rolled_back_below i partitions_max st)),
          spans_with-manager n p (rolled_back_below i partitions_max st),
          rollback-spans i st F.ok.shape p q,
        )
            (follows-rolled_back (F.partition p q) i (alive (with_open_rw g.committed (without i g.writers) g))
            w.1
            (λ j. alive-rollback F.tracks i o j));
      }

  -- ---- append, clear and purge: one partition

  -- its spans are ss, and its list ls
  changed : (p : ℕ) → p < partitions_max → (ss : List Span) (st' : Store) → Changed p ss st st' → SoundOk st'
      → (ls : List Line)
      → PartitionFollows (manager_of st).clock.lse (manager_of st).clock.ec (alive g) ss ls
      → Follows st' (with_lines (set g.lines p ls) g)
  unfolding spans_at
  changed p h ss st' C k ls P = record {
    ok = k;
    tracks = rw C.manager (tracks-lines F.tracks (set g.lines p ls));
    places = length-set g.lines p ls ∙ F.places;
    partition = λ q k.
        let M : Manager → Type 0 = λ m. PartitionFollows m.clock.lse m.clock.ec (alive g) (spans_at q st')
        (lines_at q (with_lines (set g.lines p ls) g)) in
        subst M (sym C.manager) (split-eq q p
        (λ e. let n = F.places in rw (e, C.there, get_or-set_same g.lines p ls [] (omega arith)) P)
        (λ ne. rw (C.elsewhere q k ne, get_or-set_other g.lines p q ls [] ne) (F.partition q k)));
  }

  module _ (i p : ℕ) (h : p < partitions_max) (o : has_open i (manager_of st) ≡ true) where
    added : (ss : List Span) (st' : Store) (ys : List Line) → Changed p ss st st'
        → st'.state.totals ≡ st.state.totals
        → lines_of ss ≡ lines_of (spans_at p st) ++ ys
        → AllLines (λ x. mark_of x ≡ i) ys → Follows st' (with_added p ys g)
    added ss st' ys C t e a = let w = tracks-writer F.tracks i o in
        changed p h ss st' C (sound-added st F.ok i p ss st' ys o C t e a) (lines_at p g ++ ys)
        (follows-added (F.partition p h) i ss ys w.1 w.2 w.0 e a)

    pub follows-append : (batch : List ℕ) → (partition_at p st).rows + length batch ≤ rows_max
        → length (appended i batch (spans_at p st)) ≤ entries_max
        → Follows (laid_in_place p (appended i batch (spans_at p st)) st) (with_added p (map (row i) batch) g)
    unfolding laid_in_place laid
    follows-append batch r n =
        added (appended i batch (spans_at p st)) _ (map (row i) batch)
        (append-changed st F.ok.shape p h i batch (has_open-epoch_ok (manager_of st) F.tracks.ok i o) r n) refl
        (lines-appended i batch (spans_at p st)) (AllLines-rows (λ j. j ≡ i) i batch refl)

    pub follows-clear : (partition_at p st).entries < entries_max
        → Follows (laid_in_place p (cleared i (spans_at p st)) st) (with_added p (delete i ∷ []) g)
    unfolding laid_in_place laid
    follows-clear n =
        added (cleared i (spans_at p st)) _ (delete i ∷ [])
        (clear-changed st F.ok.shape p h i (has_open-epoch_ok (manager_of st) F.tracks.ok i o) n) refl
        (lines-cleared i (spans_at p st)) (refl, tt)

  pub follows-purge : (p : ℕ) → p < partitions_max → Follows (purged_store p st) g
  follows-purge p h =
      let l = (manager_of st).clock.lse in let ss = spans_at p st in
      let same : with_lines (set g.lines p (lines_at p g)) g ≡ g = ap (λ (ls : List (List Line)). with_lines ls g)
      (set-get_or g.lines p []) in
      rw same at (changed p h (cond (skips l ss) ss (purged l ss)) (purged_store p st)
      (purge-changed st F.ok.shape p h (purged-epoch_ok (manager_of st) F.tracks.ok))
      (sound-purged st F.ok p h) (lines_at p g)
      (follows-purged (F.partition p h)))
