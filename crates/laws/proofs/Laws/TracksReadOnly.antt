-- Read-only transactions, LSE and lines: the manager goes on tracking the ledger.
-- Definitions: rules/specs/ReadOnly.antt, rules/specs/Safe.antt, rules/specs/Ledger.antt.
-- In order: the snapshot's epoch, the transactions with a new one, begin, end, LSE, lines.
-- Assumes nothing.
use mathlib.Core.Path.{◌≡◌, refl, sym, ap, ◌∙◌}
use mathlib.Core.Bool.{Bool, true, false, not, ◌&&◌, ◌||◌, cond}
use mathlib.Core.List.Memᴰ
use mathlib.Core.List.{List, [], ◌∷◌, ◌++◌}
use Prim.Native.Nat.{ℕ, suc, ◌≤◌, ◌<◌}
use native.Mathlib.Omega.{arith}
use lib.Dec.{leb, eqb}
use borrow.Author.Tests.{leb-true, eqb-true, eqb-false, eq-eqb, not-true}
use Rattle.lists.specs.Lists.{keep_if, any_of, elem}
use Rattle.lists.proofs.Laws.Bools.{split, and_left, and_right, or_cases, or-false}
use Rattle.lists.proofs.Laws.Filter.{any_in, any_of-append, first_of_old, first_of-new, elem-keep_if}
use Rattle.lists.proofs.Laws.Filter.{any_of-without, first_of-without}
use Rattle.lists.proofs.Laws.Order.{rises_in}
use Rattle.lists.proofs.Laws.Tests.{and_mask, or_comm}
use Rattle.rules.specs.Limits.{last_ticket, readers_max}
use Rattle.rules.specs.Manager.{no_ro, has_ticket, readers_of}
use Rattle.rules.specs.ReadOnly.{snapshot_epoch, begun_ro_manager, ended_ro_manager}
use Rattle.rules.specs.Safe.{blocked, target_of, advanced_manager}
use Rattle.rules.specs.Ledger.{Line, Snapshot, Ledger, no_snapshot, named, without, latest, with_lines}
use Rattle.rules.specs.Ledger.{with_open_ro}
use Rattle.rules.specs.Ledger.{with_opened}
use Rattle.rules.specs.declared.RoTxn.{RoTxn}
use Rattle.rules.specs.Manager.{Manager}
use Rattle.laws.proofs.Laws.Manager.{tickets, ReaderFacts, manager-facts, readers_of_with}
use Rattle.laws.proofs.Laws.ReadOnly.{begun_ro-ok, ended_ro-ok}
use Rattle.laws.proofs.Laws.Safe.{advanced-ok}
use Rattle.laws.proofs.Laws.Epochs.{has_open-range}
use Rattle.laws.proofs.Laws.Tracks.{alive, epoch_in, ReadersTrack, Tracks, marks_of-first, marks_of-rest}
use Rattle.laws.proofs.Laws.Tracks.{tracks-latest}
use Rattle.laws.proofs.Laws.TracksClose.{named-keyed}

-- ---- the snapshot's epoch

pub tracks-snapshot : {m : Manager} {g : Ledger} → Tracks m g → (e : ℕ)
    → cond (eqb e 0) (latest g) e ≡ snapshot_epoch e m
unfolding snapshot_epoch
tracks-snapshot T e = ap (λ (n : ℕ). cond (eqb e 0) n e) (sym (tracks-latest T))

-- up to LCE, alive is committed
pub snapshot-marks : {m : Manager} {g : Ledger} → Tracks m g → (e : ℕ) → e ≤ m.clock.lce → (j : ℕ)
    → elem j (keep_if (λ c. leb c e) g.committed) ≡ alive g j && leb j e
snapshot-marks {m} {g} T e h j = elem-keep_if j (λ c. leb c e) g.committed
    ∙ and_mask (elem j g.committed) (alive g j) (leb j e)
    (λ s. rw (shut (leb-true j e s)) (sym (or-false (elem j g.committed))))
  where
    shut : j ≤ e → any_of (named j) g.writers ≡ false
    shut l = split (any_of (named j) g.writers)
        (λ t. let w = has_open-range m T.ok j (sym (T.writers.same j) ∙ t) in absurd (omega arith))
        (λ f. f)

-- ---- the transactions with a new one

pub ticket-below : (lse lce n : ℕ) (ps : List RoTxn) → ReaderFacts lse lce n ps → (t : ℕ)
    → any_of (has_ticket t) ps ≡ true → t < n
ticket-below lse lce n ps f t o = let w = any_in (has_ticket t) ps o in
    let r = rises_in 0 n (tickets ps) f.rising (Memᴰ.map (λ (p : RoTxn). p.ticket) w.at) in
    let e = eqb-true w.it.ticket t w.passes in omega arith

module _ (n e : ℕ) (ps : List RoTxn) (al : ℕ → Bool) (cs : List ℕ) (rs : List Snapshot) (R : ReadersTrack ps al rs)
    (below : (t : ℕ) → any_of (has_ticket t) ps ≡ true → t < n) (marks : (j : ℕ) → elem j cs ≡ al j && leb j e) where
  abbrev new : RoTxn
  new = record { ticket = n; epoch = e }

  has_more : (t : ℕ) → any_of (has_ticket t) (ps ++ (new ∷ [])) ≡ any_of (has_ticket t) ps || eqb n t
  has_more t = any_of-append (has_ticket t) ps (new ∷ []) ∙ ap (λ b. any_of (has_ticket t) ps || b) (or-false (eqb n t))

  n-free : any_of (has_ticket n) ps ≡ false
  n-free = split (any_of (has_ticket n) ps) (λ t. let b = below n t in absurd (omega arith)) (λ f. f)

  epoch_old : (t : ℕ) → any_of (has_ticket t) ps ≡ true → epoch_in t (ps ++ (new ∷ [])) ≡ epoch_in t ps
  epoch_old t o = ap (λ (p : RoTxn). p.epoch) (first_of_old (has_ticket t) no_ro ps (new ∷ []) o)

  epoch-new : epoch_in n (ps ++ (new ∷ [])) ≡ e
  epoch-new = ap (λ (p : RoTxn). p.epoch) (first_of-new (has_ticket n) no_ro ps (new ∷ []) n-free)
      ∙ ap (λ (b : Bool). (cond b new no_ro).epoch) (eq-eqb n n refl)

  begun_track : ReadersTrack (ps ++ (new ∷ [])) al (record { name = n; marks = cs } ∷ rs)
  begun_track = record {
    same = λ t. rw (has_more t, R.same t) (or_comm (eqb n t) (any_of (has_ticket t) ps));
    marks = λ t o j. or_cases (any_of (has_ticket t) ps) (eqb n t) (sym (has_more t) ∙ o)
        (λ a. let b = below t a in
        rw (marks_of-rest t (record { name = n; marks = cs }) rs (λ q. omega arith), epoch_old t a) (R.marks t a j))
        (λ k q. rw (← eqb-true n t q, marks_of-first n cs rs, epoch-new) (marks j));
  }

-- ---- begin

pub tracks-begin_ro : {m : Manager} {g : Ledger} → Tracks m g → (e : ℕ) → m.clock.lse ≤ snapshot_epoch e m
    → snapshot_epoch e m ≤ m.clock.lce → (m.readers.next ≡ suc last_ticket → ⊥) → m.readers.count < readers_max
    → Tracks (begun_ro_manager e m) (with_opened e m.readers.next g)
unfolding begun_ro_manager
tracks-begin_ro {m} {g} T e low high last room =
    let ps = readers_of m in let n = m.readers.next in let at = snapshot_epoch e m in
    let marks : List ℕ = keep_if (λ c. leb c (cond (eqb e 0) (latest g) e)) g.committed in record {
      ok = begun_ro-ok e m T.ok low high last room;
      writers = T.writers;
      readers = rw (readers_of_with (ps ++ (record { ticket = n; epoch = at } ∷ [])) (suc n) m)
          (begun_track n at ps (alive g) marks g.readers T.readers
          (ticket-below m.clock.lse m.clock.lce n ps (manager-facts m T.ok).readers)
          (λ j. ap (λ (k : ℕ). elem j (keep_if (λ c. leb c k) g.committed)) (tracks-snapshot T e)
          ∙ snapshot-marks T at high j));
    }

-- ---- end

has_ticket-keyed : (i j : ℕ) (p : RoTxn) → has_ticket j p ≡ true → has_ticket i p ≡ eqb j i
has_ticket-keyed i j p h = rw (eqb-true p.ticket j h)

ended_track : (k : ℕ) (ps : List RoTxn) (al : ℕ → Bool) (rs : List Snapshot) → ReadersTrack ps al rs
    → ReadersTrack (keep_if (λ p. not (has_ticket k p)) ps) al (without k rs)
ended_track k ps al rs R = record {
  same = λ t. rw (any_of-without named named-keyed k t rs, any_of-without has_ticket has_ticket-keyed k t ps, R.same t);
  marks = λ t o j. let h = sym (any_of-without has_ticket has_ticket-keyed k t ps) ∙ o in
      let ne = eqb-false t k (not-true (eqb t k) (and_right (any_of (has_ticket t) ps) (not (eqb t k)) h)) in
      ap (λ (s : Snapshot). elem j s.marks) (first_of-without named named-keyed no_snapshot k t rs ne)
      ∙ (R.marks t (and_left (any_of (has_ticket t) ps) (not (eqb t k)) h) j
      ∙ ap (λ (p : RoTxn). al j && leb j p.epoch) (sym (first_of-without has_ticket has_ticket-keyed no_ro k t ps ne)));
}

pub tracks-end_ro : {m : Manager} {g : Ledger} → Tracks m g → (t : ℕ)
    → Tracks (ended_ro_manager t m) (with_open_ro (without t g.readers) g)
unfolding ended_ro_manager
tracks-end_ro {m} {g} T t = record {
  ok = ended_ro-ok t m T.ok;
  writers = T.writers;
  readers = rw (readers_of_with (keep_if (λ p. not (has_ticket t p)) (readers_of m)) m.readers.next m)
      (ended_track t (readers_of m) (alive g) g.readers T.readers);
}

-- ---- LSE and lines

pub tracks-advance : {m : Manager} {g : Ledger} → Tracks m g → (t : ℕ) → target_of t m ≤ m.clock.lce
    → blocked (target_of t m) m ≡ false → Tracks (advanced_manager t m) g
unfolding advanced_manager
tracks-advance {m} {g} T t high free =
    record { ok = advanced-ok t m T.ok high free; writers = T.writers; readers = T.readers }

pub tracks-lines : {m : Manager} {g : Ledger} → Tracks m g → (ls : List (List Line)) → Tracks m (with_lines ls g)
tracks-lines T ls = record { ok = T.ok; writers = T.writers; readers = T.readers }
