-- What each call leaves to an open reader that it does not close: it stays open, and what it is shown changes by its
-- own calls alone.
-- In order: Stays, lines at the end, append and clear, each call.
-- Elsewhere: its snapshot (Laws/Snapshots.antt), lists of calls (Promises.antt).
-- Assumes nothing.
use mathlib.Core.Path.{◌≡◌, refl, sym, ◌∙◌, ap}
use mathlib.Core.Bool.{Bool, true, false, ◌&&◌, cond}
use mathlib.Core.List.{List, [], ◌∷◌, ◌++◌, map}
use Prim.Native.Nat.{ℕ, ◌<◌}
use native.Mathlib.Omega.{arith}
use lib.ListN.{length, get_or, set}
use lib.Seq.{get_or-set_same, get_or-set_other}
use lib.Dec.{eqb}
use borrow.Author.Tests.{eq-eqb, ne_eqb, not-true}
use Rattle.lists.specs.Lists.{elem}
use Rattle.lists.proofs.Laws.All.{All-map}
use Rattle.lists.proofs.Laws.Bools.{split, split-eq, and-false, and-true}
use Rattle.rules.specs.Limits.{partitions_max}
use Rattle.rules.specs.Manager.{has_open}
use Rattle.rules.specs.Close.{rolled_back_manager}
use Rattle.rules.specs.Store.{Store, manager_of}
use Rattle.rules.specs.Answers.{reply_of, accepted}
use Rattle.rules.specs.WellFormed.{lengths_ok, sound}
use Rattle.rules.specs.Calls.{close_answer, append_answer}
use Rattle.rules.specs.Calls.{clear_answer}
use Rattle.rules.specs.Step.{Call, create, manage, append, clear, rollback, scan, purge, save, recover, step}
use Rattle.rules.specs.Ledger.{Line, row, delete, Ledger, heard, marks_of, lines_at, shows_by, with_added}
use Rattle.rules.specs.Promises.{is_load, spares, own_step, marks_in}
use Rattle.rules.specs.Claim.{event_of, is_open_in, shown_by}
use Rattle.rules.specs.declared.Reader.{Reader}
use Rattle.rules.specs.declared.Reader.TheVariants.{Rw, Ro}
use Rattle.rules.specs.declared.Answer.{Answer}
use Rattle.laws.proofs.Laws.Lines.{AllLines, Unseen, shows-unseen, shows-own, shows-cleared}
use Rattle.laws.proofs.Laws.Calls.{create-refused, append-passed, clear-passed}
use Rattle.laws.proofs.Laws.Tracks.{shown_by-marks}
use Rattle.laws.proofs.Laws.Snapshots.{Keeps, keeps-lines, keeps-close, other-mark, own-mark, own-later}
use Rattle.laws.proofs.Laws.ManagerCalls.{manager-keeps}
use Rattle.laws.proofs.Laws.Recovery.{recover-refused}
use Rattle.laws.proofs.Laws.Sound.{rows-room}
use Rattle.laws.proofs.Laws.Follows.{Follows}

-- a page neither appends nor clears
pub own_step-page : (t p : ℕ) (c : Call) (a : Answer) (ws : List ℕ) → own_step (Ro t) p c a ws ≡ ws
own_step-page t p (create s) a ws = refl
own_step-page t p (manage c) a ws = refl
own_step-page t p (append i q batch) a ws = refl
own_step-page t p (clear i q) a ws = refl
own_step-page t p (rollback i) a ws = refl
own_step-page t p (scan v q lent) a ws = refl
own_step-page t p (purge q) a ws = refl
own_step-page t p (save e lent) a ws = refl
own_step-page t p (recover file) a ws = refl

-- ---- Stays

-- r stays open, and where it was shown ws of partition p it is shown own p ws
pub record Stays (r : Reader) (g g' : Ledger) (own : ℕ → List ℕ → List ℕ) : Type 0 where
  pub opened : is_open_in r g' ≡ true
  pub shown : (p : ℕ) → p < partitions_max → shown_by r p g' ≡ own p (shown_by r p g)

abbrev same : ℕ → List ℕ → List ℕ
same p ws = ws

pub stays-still : (r : Reader) (g : Ledger) → is_open_in r g ≡ true → Stays r g g same
stays-still r g o = record { opened = o; shown = λ p h. refl }

shown_by-by : (r : Reader) (p : ℕ) (g g' : Ledger) → marks_in r g' ≡ marks_in r g → (ls : List Line) → lines_at p g'
    ≡ ls
    → shown_by r p g' ≡ shows_by (marks_in r g) ls
shown_by-by r p g g' e ls k = shown_by-marks r p g' ∙ (λ x. shows_by (e x) (k x))

-- the lines are the same
stays-keeps : (r : Reader) (g g' : Ledger) → Keeps r g g' → g'.lines ≡ g.lines → Stays r g g' same
stays-keeps r g g' K e = record {
  opened = K.opened;
  shown = λ p h.
      shown_by-by r p g g' K.marks (lines_at p g) (ap (λ ls. get_or ls p []) e) ∙ sym (shown_by-marks r p g);
}

-- lines ys at the end of partition q make to ws of the rows ws shown there
module _ (r : Reader) (g : Ledger) (o : is_open_in r g ≡ true) (q : ℕ) (h : q < length g.lines)
    (ys : List Line) (to : List ℕ → List ℕ) where
  stays-added : shows_by (marks_in r g) (lines_at q g ++ ys) ≡ to (shows_by (marks_in r g) (lines_at q g))
      → Stays r g (with_added q ys g) (λ p ws. cond (eqb p q) (to ws) ws)
  stays-added e = record {
    opened = K.opened;
    shown = λ p k. split-eq p q
        (λ t. rw (t, eq-eqb q q refl, shown_by-marks r q g)
        (shown_by-by r q g (with_added q ys g) K.marks _ (get_or-set_same g.lines q (lines_at q g ++ ys) [] h) ∙ e))
        (λ n. rw (ne_eqb p q n) (shown_by-by r p g (with_added q ys g) K.marks _
        (get_or-set_other g.lines q p (lines_at q g ++ ys) [] n)
        ∙ sym (shown_by-marks r p g)));
  }
    where
      K : Keeps r g (with_added q ys g)
      K = keeps-lines (set g.lines q (lines_at q g ++ ys)) g r o

stays_ext : (r : Reader) (g g' : Ledger) (own own' : ℕ → List ℕ → List ℕ)
    → ((p : ℕ) (ws : List ℕ) → own p ws ≡ own' p ws) → Stays r g g' own → Stays r g g' own'
stays_ext r g g' own own' e S = record { opened = S.opened; shown = λ p h. S.shown p h ∙ e p (shown_by r p g) }

pub stays_twice : (r : Reader) (g g' g'' : Ledger) (own own' : ℕ → List ℕ → List ℕ) → Stays r g g' own
    → Stays r g' g'' own' → Stays r g g'' (λ p ws. own' p (own p ws))
stays_twice r g g' g'' own own' S S' = record {
  opened = S'.opened;
  shown = λ p h. S'.shown p h ∙ ap (own' p) (S.shown p h);
}

-- ---- append and clear by an open transaction i

module _ {st : Store} {g : Ledger} (F : Follows st g) (i q : ℕ) (oi : has_open i (manager_of st) ≡ true)
    (h : q < partitions_max) where
  abbrev marks : List ℕ
  marks = marks_of i g.writers

  -- lines marked i: to the transaction itself they make to ws of the rows ws, and to no other reader anything
  module _ (ys : List Line) (to : List ℕ → List ℕ)
      (own : shows_by marks (lines_at q g ++ ys) ≡ to (shows_by marks (lines_at q g)))
      (other : (s : ℕ → Bool) → s i ≡ false → AllLines (Unseen s s) ys) where
    stays-other : (r : Reader) → is_open_in r g ≡ true → is_load i r ≡ false → Stays r g (with_added q ys g) same
    stays-other r o f =
        let n = F.places in let s : ℕ → Bool = λ j. elem j (marks_in r g) in
        let unseen = other s (other-mark F.tracks i oi r o f) in
        stays_ext r g (with_added q ys g) (λ p ws. cond (eqb p q) ws ws) same
        (λ p ws. split (eqb p q) (λ t. rw t) (λ f. rw f))
        (stays-added r g o q (omega arith) ys (λ ws. ws) (shows-unseen s s (lines_at q g) ys unseen))

    stays-marked : (r : Reader) → is_open_in r g ≡ true
        → Stays r g (with_added q ys g) (λ p ws. cond (is_load i r && eqb p q) (to ws) ws)
    stays-marked (Rw k) o = let n = F.places in split-eq i k
        (λ e. rw (← e, eq-eqb i i refl)
        (stays-added (Rw i) g (F.tracks.writers.same i ∙ oi) q (omega arith) ys to own))
        (λ ne. rw (ne_eqb i k ne) (stays-other (Rw k) o (ne_eqb i k ne)))
    stays-marked (Ro t) o = stays-other (Ro t) o refl

  stays-append : (batch : List ℕ) (r : Reader) → is_open_in r g ≡ true
      → Stays r g (with_added q (map (row i) batch) g) (λ p ws. cond (is_load i r && eqb p q) (ws ++ batch) ws)
  stays-append batch = stays-marked (map (row i) batch) (λ ws. ws ++ batch)
      (shows-own (λ j. elem j marks) (λ k. elem k marks) i (own-mark F.tracks i oi) (own-later F.tracks i oi)
      (lines_at q g) batch)
      (λ s f. All-map (Unseen s s) (row i) (λ w. f) batch)

  stays-clear : (r : Reader) → is_open_in r g ≡ true
      → Stays r g (with_added q (delete i ∷ []) g) (λ p ws. cond (is_load i r && eqb p q) [] ws)
  stays-clear = stays-marked (delete i ∷ []) (λ ws. [])
      (shows-cleared (λ j. elem j marks) (λ k. elem k marks) i (own-mark F.tracks i oi) (own-later F.tracks i oi)
      (lines_at q g))
      (λ s f. (f, tt))

-- ---- each call

-- only an accepted call changes the ledger
calm : (r : Reader) (a : Answer) {g next : Ledger} → is_open_in r g ≡ true → (accepted a ≡ true → Stays r g next same)
    → Stays r g (cond (accepted a) next g) same
calm r a {g} o h = split (accepted a) (λ t. rw t (h t)) (λ f. rw f (stays-still r g o))

module _ {st : Store} {g : Ledger} (F : Follows st g) (r : Reader) (o : is_open_in r g ≡ true) where
  -- what an accepted one changes, it changes to its owner
  by_owner : (a : Answer) (i q : ℕ) (next : Ledger) (to : List ℕ → List ℕ)
      → (accepted a ≡ true → Stays r g next (λ p ws. cond (is_load i r && eqb p q) (to ws) ws))
      → Stays r g (cond (accepted a) next g) (λ p ws. cond (is_load i r && eqb p q && accepted a) (to ws) ws)
  by_owner a i q next to h = split (accepted a)
      (λ t. rw t (stays_ext r g _ (λ p ws. cond (is_load i r && eqb p q) (to ws) ws) _
      (λ p ws. ap (λ b. cond b (to ws) ws) (sym (and-true (is_load i r && eqb p q)))) (h t)))
      (λ f. rw f (stays_ext r g g same _ (λ p ws. ap (λ b. cond b (to ws) ws)
      (sym (and-false (is_load i r && eqb p q))))
      (stays-still r g o)))

  pub stays_step : (c : Call) → spares r c ≡ true
      → Stays r g (heard (event_of c (reply_of (step c st).answer)) g) (λ p. own_step r p c (step c st).answer)
  unfolding step heard event_of
  stays_step (create s) h = rw (create-refused s (lengths_ok st) h) (stays-still r g o)
  stays_step (manage c) h = let k = manager-keeps c F r o h in stays-keeps r g _ k.snapshot k.lines
  stays_step (append i q batch) h = by_owner (append_answer i q batch st) i q _ (λ ws. ws ++ batch)
      (λ t. let k = (append-passed i q st batch (λ w h. rows-room st F.ok q h) t).write in
      stays-append F i q k.pending k.partition batch r o)
  stays_step (clear i q) h = by_owner (clear_answer i q st) i q _ (λ ws. [])
      (λ t. let k = (clear-passed i q st t).0 in stays-clear F i q k.pending k.partition r o)
  stays_step (rollback i) h = let m = manager_of st in calm r (close_answer i (sound st) m (rolled_back_manager i m)) o
      (λ t. stays-keeps r g _ (keeps-close g g.committed i r o (not-true (is_load i r) h)) refl)
  stays_step (scan v p lent) h = stays-still r g o
  stays_step (purge p) h = stays-still r g o
  stays_step (save e lent) h = stays-still r g o
  stays_step (recover file) h = rw (recover-refused file (lengths_ok st) h) (stays-still r g o)
