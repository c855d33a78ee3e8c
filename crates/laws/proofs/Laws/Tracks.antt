-- The manager beside the ledger of demand 3: who is open, and who sees what.
-- In order: who is alive, what the ledger shows a reader by, Tracks, the snapshots with one more, who is open, LCE and
-- who holds it back, what a reader sees, what comes or goes above LCE.
-- Definitions: rules/specs/Manager.antt, rules/specs/Ledger.antt, rules/specs/Claim.antt, rules/specs/Histories.antt,
-- rules/specs/Promises.antt.
-- Elsewhere: that each call keeps it (Laws/TracksBegin.antt, Laws/TracksClose.antt,
-- Laws/TracksReadOnly.antt).
-- Assumes nothing.
use mathlib.Core.Path.{◌≡◌, refl, sym, ap, ◌∙◌}
use mathlib.Core.Bool.{Bool, true, false, not, ◌&&◌, ◌||◌, cond}
use mathlib.Core.Logic.{◌⊎◌, inl, inr}
use mathlib.Core.List.Memᴰ
use mathlib.Core.List.{List, ◌∷◌, Memᴰ as In}
use Prim.Native.Nat.{ℕ, ◌-◌, ◌≤◌, ◌<◌}
use native.Mathlib.Omega.{arith}
use lib.Dec.{ltb, leb}
use borrow.Author.Tests.{ltb-true, leb-true, eqb-true, lt-ltb, le-ltb, eq-eqb, ne_eqb, not-true}
use Rattle.lists.specs.Lists.{keep_if, any_of, first_of, elem}
use Rattle.lists.proofs.Laws.Bools.{split, and_left, and_right, or_right, or_cases}
use Rattle.lists.proofs.Laws.Filter.{any_in, any-of, none_in, none_of, in-keep_if, keep_if_in, first_in}
use Rattle.lists.proofs.Laws.Filter.{in-elem, elem_in}
use Rattle.lists.proofs.Laws.Order.{foldr-max-base, foldr-max_in, foldr-max-below, least_of_in, least_of_member}
use Rattle.lists.proofs.Laws.Tests.{no_proof, and_mask}
use Rattle.rules.specs.Manager.{Writer, no_writer, no_ro, is_open, opens, has_open, has_ticket}
use Rattle.rules.specs.Manager.{writers_of}
use Rattle.rules.specs.Manager.{readers_of}
use Rattle.rules.specs.Sees.{sees_rw}
use Rattle.rules.specs.Calls.{is_reader, sees_of, applies_of}
use Rattle.rules.specs.Ledger.{Snapshot, Ledger, no_snapshot, named, has_open_rw, latest, marks_of, lines_at}
use Rattle.rules.specs.Ledger.{shows_by, writer_shows, reader_shows}
use Rattle.rules.specs.Histories.{oldest, HoldsBack}
use Rattle.rules.specs.Promises.{marks_in}
use Rattle.rules.specs.Claim.{is_open_in, shown_by}
use Rattle.rules.specs.WellFormed.{manager_ok}
use Rattle.rules.specs.declared.RoTxn.{RoTxn}
use Rattle.rules.specs.Manager.{Manager}
use Rattle.rules.specs.declared.Reader.{Reader}
use Rattle.rules.specs.declared.Reader.TheVariants.{Rw, Ro}
use Rattle.laws.proofs.Laws.Manager.{epochs, opens_below, manager-facts, status-waits}
use Rattle.laws.proofs.Laws.Epochs.{known, has_open-range}
use Rattle.laws.proofs.Laws.Sees.{applies-all}

-- ---- what the ledger says of a reader

abbrev pub alive_in : List ℕ → List Snapshot → ℕ → Bool
alive_in cs ws j = elem j cs || any_of (named j) ws

-- committed or open, so not rolled back
abbrev pub alive : Ledger → ℕ → Bool
alive g j = elem j g.committed || has_open_rw j g

-- by these marks it shows
pub shown_by-marks : (r : Reader) (p : ℕ) (g : Ledger) → shown_by r p g ≡ shows_by (marks_in r g) (lines_at p g)
unfolding writer_shows reader_shows
shown_by-marks (Rw i) p g = refl
shown_by-marks (Ro t) p g = refl

-- ---- Tracks

abbrev pub deps_in : ℕ → List Writer → List ℕ
deps_in i ts = (first_of (opens i) no_writer ts).deps

abbrev pub epoch_in : ℕ → List RoTxn → ℕ
epoch_in t ps = (first_of (has_ticket t) no_ro ps).epoch

-- the read-write transactions ts, and the ledger's committed epochs cs and open transactions ws, made new at
-- start
pub record WritersTrack (lce ec : ℕ) (ts : List Writer) (start : ℕ) (cs : List ℕ) (ws : List Snapshot) : Type 0 where
  pub same : (i : ℕ) → any_of (named i) ws ≡ any_of (opens i) ts
  pub older : (i j : ℕ) → any_of (opens i) ts ≡ true → any_of (opens j) ts ≡ true → j < i → elem j (deps_in i ts) ≡ true
  pub marks : (i : ℕ) → any_of (opens i) ts ≡ true → (j : ℕ)
      → elem j (marks_of i ws) ≡ alive_in cs ws j && sees_rw i (deps_in i ts) j
  pub done_below : (c : ℕ) → elem c cs ≡ true → c < ec
  pub done-shut : (c : ℕ) → elem c cs ≡ true → any_of (opens c) ts ≡ false
  pub done-known : (c : ℕ) → elem c cs ≡ true → known lce ts c ≡ true
  pub waits-done : (t : Writer) → In t ts → is_open t ≡ false → elem t.epoch cs ≡ true
  pub lce-done : (lce ≡ start - 1) ⊎ (elem lce cs ≡ true)
  pub lce-base : start - 1 ≤ lce

-- the read-only transactions ps, and the ledger's rs, where al says which epochs are alive
pub record ReadersTrack (ps : List RoTxn) (al : ℕ → Bool) (rs : List Snapshot) : Type 0 where
  pub same : (t : ℕ) → any_of (named t) rs ≡ any_of (has_ticket t) ps
  pub marks : (t : ℕ) → any_of (has_ticket t) ps ≡ true → (j : ℕ) → elem j (marks_of t rs) ≡ al j
      && leb j (epoch_in t ps)

pub record Tracks (m : Manager) (g : Ledger) : Type 0 where
  pub ok : manager_ok m ≡ true
  pub writers : WritersTrack m.clock.lce m.clock.ec (writers_of m) g.start g.committed g.writers
  pub readers : ReadersTrack (readers_of m) (alive g) g.readers

-- ---- the snapshots with one more

pub marks_of-first : (n : ℕ) (ms : List ℕ) (ss : List Snapshot) → marks_of n (record { name = n; marks = ms } ∷ ss) ≡ ms
marks_of-first n ms ss =
    let first : Snapshot = record { name = n; marks = ms } in
    ap (λ (b : Bool). (cond b first (first_of (named n) no_snapshot ss)).marks) (eq-eqb n n refl)

pub marks_of-rest : (i : ℕ) (s : Snapshot) (ss : List Snapshot) → (s.name ≡ i → ⊥) → marks_of i (s ∷ ss) ≡ marks_of i ss
marks_of-rest i s ss ne = ap (λ (b : Bool). (cond b s (first_of (named i) no_snapshot ss)).marks) (ne_eqb s.name i ne)

-- ---- who is open

pub tracks-admits : {m : Manager} {g : Ledger} → Tracks m g → (r : Reader) → is_reader r m ≡ is_open_in r g
tracks-admits T (Rw i) = sym (T.writers.same i)
tracks-admits T (Ro t) = sym (T.readers.same t)

pub tracks-writer : {m : Manager} {g : Ledger} → Tracks m g → (i : ℕ) → has_open i m ≡ true
    → (alive g i ≡ true) × (m.clock.lse < i) × (i < m.clock.ec)
tracks-writer {m} {g} T i o = let r = has_open-range m T.ok i o in let k = (manager-facts m T.ok).clock in
    (or_right (elem i g.committed) _ (T.writers.same i ∙ o), omega arith, r.1)

-- ---- LCE, and who holds it back

module _ {m : Manager} {g : Ledger} (T : Tracks m g) where
  -- an open transaction of the ledger lies below c
  abbrev under : ℕ → Snapshot → Bool
  under c w = ltb w.name c

  abbrev clear : ℕ → Bool
  clear c = not (any_of (λ w. ltb w.name c) g.writers)

  -- a committed epoch above LCE waits, behind an open one
  latest-below : (c : ℕ) → elem c g.committed ≡ true → clear c ≡ true → c ≤ m.clock.lce
  latest-below c d n = or_cases (leb c m.clock.lce) (elem c (epochs (writers_of m))) (T.writers.done-known c d)
      (λ t. leb-true c m.clock.lce t)
      (λ h t. let w = Memᴰ.of_map (λ (x : Writer). x.epoch) (writers_of m) (elem_in c (epochs (writers_of m)) t) in
      absurd (waits w.0 w.1 w.2))
    where
      shut : (t : Writer) → In t (writers_of m) → t.epoch ≡ c → is_open t ≡ false
      shut t i e = split (is_open t)
          (λ o. no_proof (sym (T.writers.done-shut c d) ∙ any-of (opens c) i (rw o (eq-eqb t.epoch c e))))
          (λ k. k)

      waits : (t : Writer) → In t (writers_of m) → t.epoch ≡ c → ⊥
      waits t i e =
          let s = status-waits (writers_of m) t ((manager-facts m T.ok).writers.status t i) (shut t i e) in
          let u = any_in (opens_below t.epoch) (writers_of m) s.behind in let k = u.it.epoch in
          let o = and_left (is_open u.it) (ltb k t.epoch) u.passes in
          let b = ltb-true k t.epoch (and_right (is_open u.it) (ltb k t.epoch) u.passes) in
          let a = any-of (opens k) u.at (rw o (eq-eqb k k refl)) in
          let v = any_in (named k) g.writers (T.writers.same k ∙ a) in
          let q = eqb-true v.it.name k v.passes in
          let f = none_in (under c) (not-true (any_of (under c) g.writers) n) v.at in
          no_proof (sym f ∙ lt-ltb v.it.name c (omega arith))

  -- every open transaction is above LCE
  lce-clear : clear m.clock.lce ≡ true
  lce-clear = rw (none_of (under m.clock.lce) g.writers (λ w i.
      let o = sym (T.writers.same w.name) ∙ any-of (named w.name) i (eq-eqb w.name w.name refl) in
      let r = has_open-range m T.ok w.name o in le-ltb w.name m.clock.lce (omega arith)))

  pub tracks-latest : m.clock.lce ≡ latest g
  tracks-latest =
      let up = foldr-max-below (g.start - 1) m.clock.lce (keep_if clear g.committed) T.writers.lce-base
      (λ c i. let k = keep_if_in clear g.committed i in latest-below c (in-elem k.0) k.1) in
      let low = lower T.writers.lce-done in omega arith
    where
      lower : (m.clock.lce ≡ g.start - 1) ⊎ (elem m.clock.lce g.committed ≡ true) → m.clock.lce ≤ latest g
      lower (inl e) = let b = foldr-max-base (g.start - 1) (keep_if clear g.committed) in omega arith
      lower (inr e) = foldr-max_in (g.start - 1) (in-keep_if clear (elem_in m.clock.lce g.committed e) lce-clear)

  -- what is committed above LCE waits, behind the oldest open one
  pub tracks_holder : (c : ℕ) → elem c g.committed ≡ true → m.clock.lce < c
      → HoldsBack (oldest g) c m.clock.lce g
  tracks_holder c d h =
      let u = any_in (under c) g.writers behind in let b = ltb-true u.it.name c u.passes in
      let at = Memᴰ.map (λ (w : Snapshot). w.name) u.at in let low = least_of_in at in
      let w = Memᴰ.of_map (λ (w : Snapshot). w.name) g.writers (least_of_member at) in
      let o = any-of (named (oldest g)) w.1 (eq-eqb w.0.name (oldest g) w.2) in
      let r = has_open-range m T.ok (oldest g) (sym (T.writers.same (oldest g)) ∙ o) in
      record { opened = o; above = r.0; below = omega arith }
    where
      behind : any_of (under c) g.writers ≡ true
      behind = split (any_of (under c) g.writers) (λ t. t)
          (λ f. let l = latest-below c d (rw f) in absurd (omega arith))

-- ---- what a reader sees

pub tracks-sees : {m : Manager} {g : Ledger} → Tracks m g → (r : Reader) → is_reader r m ≡ true → (j : ℕ)
    → alive g j && sees_of r m j ≡ elem j (marks_in r g)
unfolding sees_of
tracks-sees T (Rw i) o j = sym (T.writers.marks i o j)
tracks-sees T (Ro t) o j = sym (T.readers.marks t o j)

pub tracks_applies : {m : Manager} {g : Ledger} → Tracks m g → (r : Reader) → is_reader r m ≡ true → (k : ℕ)
    → alive g k && applies_of r m k ≡ elem k (marks_in r g)
tracks_applies {m} T r o k = rw (applies-all r m) (tracks-sees T r o k)

-- ---- epochs that come or go above LCE change no read-only snapshot

pub readers-alive : (lce : ℕ) (ps : List RoTxn) (al to : ℕ → Bool) (rs : List Snapshot)
    → ((p : RoTxn) → In p ps → p.epoch ≤ lce) → ((j : ℕ) → j ≤ lce → al j ≡ to j)
    → ReadersTrack ps al rs → ReadersTrack ps to rs
readers-alive lce ps al to rs high h R = record {
  same = R.same;
  marks = λ t o j. let w = first_in (has_ticket t) no_ro ps o in let b = high (first_of (has_ticket t) no_ro ps) w.0 in
      R.marks t o j ∙ and_mask (al j) (to j) (leb j (epoch_in t ps))
      (λ s. let l = leb-true j (epoch_in t ps) s in h j (omega arith));
}
