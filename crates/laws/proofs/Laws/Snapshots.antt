-- The snapshot of an open reader in the ledger: it stays as others open and close, and of the open
-- transactions only itself is in it.
-- In order: Keeps, what each call keeps, the marks of an open transaction.
-- Elsewhere: what it is shown then (Laws/Stays.antt). Definitions: rules/specs/Ledger.antt.
-- Assumes nothing.
use mathlib.Core.Path.{◌≡◌, refl, sym, ◌∙◌, ap}
use mathlib.Core.Bool.{true, false}
use mathlib.Core.List.{List, ◌∷◌}
use Prim.Native.Nat.{ℕ, ◌<◌}
use native.Mathlib.Omega.{arith}
use lib.Dec.{eqb}
use borrow.Author.Tests.{eqb-false, ne_eqb, lt-leb}
use Rattle.lists.specs.Lists.{any_of, first_of, elem}
use Rattle.lists.proofs.Laws.Bools.{and-false, or_right}
use Rattle.lists.proofs.Laws.Filter.{first_in, any_of-without, first_of-without}
use Rattle.rules.specs.Manager.{no_ro, has_open, has_ticket, writers_of, readers_of}
use Rattle.rules.specs.Ledger.{Line, Snapshot, Ledger, named, without, no_snapshot, marks_of, has_open_rw}
use Rattle.rules.specs.Ledger.{with_lines}
use Rattle.rules.specs.Ledger.{with_begun, with_opened, with_open_rw, with_open_ro}
use Rattle.rules.specs.Promises.{is_load, is_page, marks_in}
use Rattle.rules.specs.Claim.{is_open_in}
use Rattle.rules.specs.Manager.{Manager}
use Rattle.rules.specs.declared.Reader.{Reader}
use Rattle.rules.specs.declared.Reader.TheVariants.{Rw, Ro}
use Rattle.laws.proofs.Laws.Manager.{manager-facts}
use Rattle.laws.proofs.Laws.Epochs.{has_open-range}
use Rattle.laws.proofs.Laws.Sees.{sees-own, sees-later}
use Rattle.laws.proofs.Laws.Tracks.{alive, deps_in, epoch_in, Tracks, marks_of-rest, tracks-writer}
use Rattle.laws.proofs.Laws.TracksClose.{named-keyed, unseen}
use Rattle.laws.proofs.Laws.TracksReadOnly.{ticket-below}

-- ---- snapshots that stay

pub record Keeps (r : Reader) (g g' : Ledger) : Type 0 where
  pub opened : is_open_in r g' ≡ true
  pub marks : marks_in r g' ≡ marks_in r g

-- of a list of snapshots, the one named n
record KeepsName (n : ℕ) (ss ss' : List Snapshot) : Type 0 where
  opened : any_of (named n) ss' ≡ true
  marks : marks_of n ss' ≡ marks_of n ss

keeps-load : (i : ℕ) (g g' : Ledger) → KeepsName i g.writers g'.writers → Keeps (Rw i) g g'
keeps-load i g g' k = record { opened = k.opened; marks = k.marks }

keeps-page : (t : ℕ) (g g' : Ledger) → KeepsName t g.readers g'.readers → Keeps (Ro t) g g'
keeps-page t g g' k = record { opened = k.opened; marks = k.marks }

keeps-more : (n k : ℕ) (ms : List ℕ) (ss : List Snapshot) → any_of (named n) ss ≡ true → (k ≡ n → ⊥)
    → KeepsName n ss (record { name = k; marks = ms } ∷ ss)
keeps-more n k ms ss o ne = let s : Snapshot = record { name = k; marks = ms } in
    record { opened = or_right (named n s) _ o; marks = marks_of-rest n s ss ne }

keeps-without : (n k : ℕ) (ss : List Snapshot) → any_of (named n) ss ≡ true → eqb k n ≡ false
    → KeepsName n ss (without k ss)
keeps-without n k ss o f = let ne : n ≡ k → ⊥ = λ e. eqb-false k n f (sym e) in record {
  opened = any_of-without named named-keyed k n ss ∙ rw (o, ne_eqb n k ne);
  marks = ap (λ (s : Snapshot). s.marks) (first_of-without named named-keyed no_snapshot k n ss ne);
}

pub keeps_same : (g : Ledger) (r : Reader) → is_open_in r g ≡ true → Keeps r g g
keeps_same g r o = record { opened = o; marks = refl }

-- the lines do not matter
pub keeps-lines : (ls : List (List Line)) (g : Ledger) (r : Reader) → is_open_in r g ≡ true
    → Keeps r g (with_lines ls g)
keeps-lines ls g (Rw i) o = record { opened = o; marks = refl }
keeps-lines ls g (Ro t) o = record { opened = o; marks = refl }

pub keeps-close : (g : Ledger) (cs : List ℕ) (j : ℕ) (r : Reader) → is_open_in r g ≡ true → is_load j r ≡ false
    → Keeps r g (with_open_rw cs (without j g.writers) g)
keeps-close g cs j (Rw i) o f = keeps-load i g (with_open_rw cs (without j g.writers) g)
    (keeps-without i j g.writers o f)
keeps-close g cs j (Ro t) o f = record { opened = o; marks = refl }

pub keeps-end_ro : (g : Ledger) (u : ℕ) (r : Reader) → is_open_in r g ≡ true → is_page u r ≡ false
    → Keeps r g (with_open_ro (without u g.readers) g)
keeps-end_ro g u (Rw i) o f = record { opened = o; marks = refl }
keeps-end_ro g u (Ro t) o f = keeps-page t g (with_open_ro (without u g.readers) g)
    (keeps-without t u g.readers o f)

module _ {m : Manager} {g : Ledger} (T : Tracks m g) where
  open-below : (i : ℕ) → has_open_rw i g ≡ true → (m.clock.lce < i) × (i < m.clock.ec)
  open-below i o = has_open-range m T.ok i (sym (T.writers.same i) ∙ o)

  pub keeps-begin : (r : Reader) → is_open_in r g ≡ true → Keeps r g (with_begun m.clock.ec g)
  keeps-begin (Rw i) o = keeps-load i g (with_begun m.clock.ec g)
      (keeps-more i m.clock.ec _ g.writers o (λ e. let b = open-below i o in omega arith))
  keeps-begin (Ro t) o = record { opened = o; marks = refl }

  pub keeps-begin_ro : (e : ℕ) (r : Reader) → is_open_in r g ≡ true → Keeps r g (with_opened e m.readers.next g)
  keeps-begin_ro e (Rw i) o = record { opened = o; marks = refl }
  keeps-begin_ro e (Ro t) o = keeps-page t g (with_opened e m.readers.next g)
      (keeps-more t m.readers.next _ g.readers o (λ q. let b = below in omega arith))
    where
      below : t < m.readers.next
      below = ticket-below m.clock.lse m.clock.lce m.readers.next (readers_of m)
          (manager-facts m T.ok).readers t (sym (T.readers.same t) ∙ o)

  -- ---- the marks of an open transaction j: in no other reader's snapshot

  module _ (j : ℕ) (oj : has_open j m ≡ true) where
    pub other-mark : (r : Reader) → is_open_in r g ≡ true → is_load j r ≡ false → elem j (marks_in r g) ≡ false
    other-mark (Rw i) o f = let oi = sym (T.writers.same i) ∙ o in
        T.writers.marks i oi j
        ∙ rw (unseen T j oj i oi (λ e. eqb-false j i f (sym e))) (and-false (alive g j))
    other-mark (Ro t) o f =
        let ot = sym (T.readers.same t) ∙ o in let w = first_in (has_ticket t) no_ro (readers_of m) ot in
        let e = (manager-facts m T.ok).readers.high (first_of (has_ticket t) no_ro (readers_of m)) w.0 in
        let b = has_open-range m T.ok j oj in
        T.readers.marks t ot j ∙ rw (lt-leb j (epoch_in t (readers_of m)) (omega arith)) (and-false (alive g j))

    -- in its own it is the last
    pub own-mark : elem j (marks_of j g.writers) ≡ true
    own-mark = T.writers.marks j oj j ∙ rw ((tracks-writer T j oj).0, sees-own j (deps_in j (writers_of m)) j refl)

    pub own-later : (k : ℕ) → j < k → elem k (marks_of j g.writers) ≡ false
    own-later k l = T.writers.marks j oj k
        ∙ rw (sees-later j (deps_in j (writers_of m)) k l) (and-false (alive g k))
