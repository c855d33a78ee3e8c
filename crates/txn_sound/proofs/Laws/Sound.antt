-- One pass over the records tests what the rules ask of them. Definitions: specs/Sound.antt;
-- rules/specs/WellFormed.antt.
-- In order: records in turn, read-write records, their rows of the table, read-only records, the
-- whole.
-- Assumes nothing.
use mathlib.Core.Path.{◌≡◌, refl, sym, ap, ◌∙◌}
use mathlib.Core.Bool.{Bool, true, false, ◌&&◌, ◌||◌}
use mathlib.Core.List.{List, [], ◌∷◌, map}
use Prim.Native.Nat.{ℕ, suc, ◌+◌, ◌-◌, ◌*◌, ◌<◌, ◌≤◌}
use native.Mathlib.Omega.{arith}
use lib.Dec.{ltb, leb, eqb}
use lib.ListN.{length, take, drop, get_or, length-take, length-drop}
use lib.Seq.{drop-drop, length-take-le}
use borrow.Author.Tests.{ltb-true, leb-true, eqb-true, lt-ltb, le-ltb, eq-eqb}
use Rattle.lists.specs.Lists.{any_of, all_of, rises}
use Rattle.lists.proofs.Laws.Bools.{split, and-false, and_assoc, or-false}
use Rattle.lists.proofs.Laws.Filter.{all_of-and}
use Rattle.lists.proofs.Laws.Order.{rises-split}
use Rattle.lists.proofs.Laws.Places.{from_next}
use Rattle.rules.specs.Limits.{writers_max, readers_max, deps_max, deps_all, last_ticket}
use Rattle.rules.specs.Manager.{Writer, no_rw, manager_with, records_of, views, writers_of, readers_of, is_open}
use Rattle.rules.specs.WellFormed.{zeros, room_ok, deps_ok, status_ok, unused_rw, spares_zero, writers_ok, readers_ok}
use Rattle.rules.specs.WellFormed.{clock_ok, manager_ok}
use Rattle.rules.specs.declared.Clock.{Clock}
use Rattle.rules.specs.declared.RwTxn.{RwTxn}
use Rattle.rules.specs.declared.RwTxns.{RwTxns}
use Rattle.rules.specs.declared.RoTxns.{RoTxns}
use Rattle.rules.specs.Manager.{Manager}
use Rattle.laws.proofs.Laws.Manager.{epochs, tickets, opens_below}
use Rattle.txn_sound.specs.Sound.{ranked, waits_ok, row_ok, record_ok, writers_ranked, writers_tested, readers_ranked}
use Rattle.txn_sound.specs.Sound.{readers_tested}

-- ---- records in turn

-- w and v are the same test where a and r hold
same_turn : (a b w r s v : Bool) → (a ≡ true → r ≡ true → w ≡ v) → (a && b && w) && (r && s) ≡ (a && b && r) && (v && s)
same_turn false b w r s v h = refl
same_turn true false w r s v h = refl
same_turn true true w false s v h = and-false w
same_turn true true w true s v h = rw (h refl refl)

-- Holds is what is known of the state s that the elements before xs, up to number lo, have left: there ok and
-- pass agree
module _ {A S : Type 0} (num : A → ℕ) (hi : ℕ) (ok : S → A → Bool) (on : S → A → S) (pass : A → Bool)
    (Holds : ℕ → S → List A → Type 0)
    (next : (lo : ℕ) (s : S) (x : A) (xs : List A) → lo < num x → Holds lo s (x ∷ xs) → Holds (num x) (on s x) xs)
    (agree : (lo : ℕ) (s : S) (x : A) (xs : List A) → lo < num x → rises (num x) hi (map num xs) ≡ true
    → Holds lo s (x ∷ xs) → ok s x ≡ pass x) where
  ranked-is : (lo : ℕ) (s : S) (xs : List A) → Holds lo s xs
      → ranked num hi ok on lo s xs ≡ rises lo hi (map num xs) && all_of pass xs
  ranked-is lo s [] g = refl
  ranked-is lo s (x ∷ xs) g = split (ltb lo (num x))
      (λ a. let l = ltb-true lo (num x) a in
      rw (ranked-is (num x) (on s x) xs (next lo s x xs l g))
      (same_turn (ltb lo (num x)) (ltb (num x) hi) (ok s x) (rises (num x) hi (map num xs)) (all_of pass xs) (pass x)
      (λ _ r. agree lo s x xs l r g)))
      (λ n. rw n)

-- ---- read-write records

-- no record is below one that stands before it
none_below : (hi lo e : ℕ) (ts : List Writer) → e ≤ lo → rises lo hi (epochs ts) ≡ true
    → any_of (opens_below e) ts ≡ false
none_below hi lo e [] h r = refl
none_below hi lo e (t ∷ ts) h r = let s = rises-split lo hi t.epoch (epochs ts) r in let u = s.above in
    rw (le-ltb t.epoch e (omega arith), and-false (is_open t))
    (none_below hi t.epoch e ts (omega arith) s.rest)

module _ (c : Clock) (all : List Writer) where
  -- an open one below e, e above lo, stands before ts or in ts
  abbrev Seen : ℕ → Bool → List Writer → Type 0
  Seen lo seen ts = (e : ℕ) → lo < e → any_of (opens_below e) all ≡ seen || any_of (opens_below e) ts

  seen_next : (lo : ℕ) (seen : Bool) (t : Writer) (ts : List Writer) → lo < t.epoch → Seen lo seen (t ∷ ts)
      → Seen t.epoch (seen || is_open t) ts
  seen_next lo seen t ts h g e l = g e (omega arith) ∙ rw (lt-ltb t.epoch e l) (regroup seen (is_open t))
    where
      regroup : (a b : Bool)
          → a || ((b && true) || any_of (opens_below e) ts) ≡ (a || b) || any_of (opens_below e) ts
      regroup true b = refl
      regroup false true = refl
      regroup false false = refl

  waits-status : (lo : ℕ) (seen : Bool) (t : Writer) (ts : List Writer) → lo < t.epoch
      → rises t.epoch c.ec (epochs ts) ≡ true
      → Seen lo seen (t ∷ ts) → waits_ok t.waiting seen (length t.deps) ≡ status_ok all t
  unfolding status_ok
  waits-status lo seen t ts h r g =
      let before : any_of (opens_below t.epoch) all ≡ seen =
      g t.epoch h ∙ rw (
        le-ltb t.epoch t.epoch (omega arith),
        and-false (is_open t),
        none_below c.ec t.epoch t.epoch ts (omega arith) r,
      )
      (or-false seen) in
      rw before

-- as rules sees the records in use, each with its deps
abbrev ranked_of : ℕ → Clock → Bool → List Writer → Bool
ranked_of lo c seen ws = ranked (λ w. w.epoch) c.ec
    (λ seen w. waits_ok w.waiting seen (length w.deps) && deps_ok c.lse w) (λ seen w. seen || is_open w) lo seen
    ws

ranked-writers : (m : Manager) → ranked_of m.clock.lce m.clock false (writers_of m)
    ≡ rises m.clock.lce m.clock.ec (epochs (writers_of m)) && all_of (status_ok (writers_of m)) (writers_of m)
    && all_of (deps_ok m.clock.lse) (writers_of m)
ranked-writers m = let c = m.clock in let ts = writers_of m in
    ranked-is (λ t. t.epoch) c.ec (λ seen t. waits_ok t.waiting seen (length t.deps) && deps_ok c.lse t)
    (λ seen t. seen || is_open t) (λ t. status_ok ts t && deps_ok c.lse t) (Seen c ts) (seen_next c ts)
    (λ lo seen t us l r g. rw (waits-status c ts lo seen t us l r g)) c.lce false ts (λ e l. refl)
    ∙ rw (all_of-and (status_ok ts) (deps_ok c.lse) ts)
    (sym (and_assoc (rises c.lce c.ec (epochs ts)) (all_of (status_ok ts) ts) (all_of (deps_ok c.lse) ts)))

-- ---- their rows of the table

-- r: the deps have room, d: they rise, z: 0 behind them; w and v are the same test where they have room
row-turn : (a w v r d z x y b c s : Bool) → (r ≡ true → w ≡ v) → x && y ≡ (b && c) && s
    → ((a && (w && (r && d && z))) && x) && y ≡ (((a && (v && d)) && b) && (r && c)) && (z && s)
row-turn false w v r d z x y b c s h e = refl
row-turn true w v false d z x y b c s h e = rw (and-false w, and-false ((v && d) && b))
row-turn true w v true false z x y b c s h e = rw (and-false w, and-false v)
row-turn true w v true true false x y b c s h e = rw (and-false w) (sym (and-false (((v && true) && b) && c)))
row-turn true w v true true true x y b c s h e = rw (h refl) (last v)
  where
    last : (v : Bool) → ((v && true) && x) && y ≡ (((v && true) && b) && c) && s
    last true = e
    last false = refl

rows-ranked : (c : Clock) (lo : ℕ) (seen : Bool) (ds : List ℕ) (ts : List RwTxn) → deps_max * length ts ≤ length ds
    → writers_ranked lo c seen ds ts && zeros (drop (deps_max * length ts) ds)
    ≡ (ranked_of lo c seen (views ds ts) && all_of room_ok ts) && spares_zero ds ts
unfolding deps_ok row_ok
rows-ranked c lo seen ds [] h = refl
rows-ranked c lo seen ds (t ∷ ts) h =
    let k : deps_max * length (t ∷ ts) ≡ deps_max + deps_max * length ts = omega arith in
    let ih = rows-ranked c t.epoch (seen || eqb t.waiting 0) (drop deps_max ds) ts
    (omega (arith, length-drop deps_max ds)) in
    rw (k, ← drop-drop (deps_max * length ts) deps_max ds)
    (row-turn (ltb lo t.epoch && ltb t.epoch c.ec) (waits_ok t.waiting seen t.deps)
    (waits_ok t.waiting seen (length (take t.deps (take deps_max ds)))) (room_ok t)
    (rises c.lse t.epoch (take t.deps (take deps_max ds))) (zeros (drop t.deps (take deps_max ds)))
    _ _ _ _ _
    (λ r. let l = leb-true t.deps deps_max r in
    let e : length (take t.deps (take deps_max ds)) ≡ t.deps =
    length-take-le t.deps (take deps_max ds) (omega (arith, length-take deps_max ds)) in rw e)
    ih)

regroup : (a b r d u s x z : Bool) → x && z ≡ ((a && b && d) && r) && s
    → ((((a && b) && r) && d) && u) && s ≡ x && (u && z)
regroup a b r d u s x z e = go a b r d u ∙ ap (λ t. u && t) (sym e) ∙ turned u x z
  where
    go : (a b r d u : Bool) → ((((a && b) && r) && d) && u) && s ≡ u && (((a && b && d) && r) && s)
    go false b r d u = sym (and-false u)
    go true false r d u = sym (and-false u)
    go true true false d u = rw (and-false d) (sym (and-false u))
    go true true true false u = sym (and-false u)
    go true true true true u = refl

    turned : (u x z : Bool) → u && (x && z) ≡ x && (u && z)
    turned true x z = refl
    turned false x z = sym (and-false x)

pub writers-are : (m : Manager) → length m.deps ≡ deps_all → length m.writers.at ≡ writers_max
    → writers_tested m.clock m.writers m.deps ≡ writers_ok m
unfolding writers_tested writers_ok
writers-are m l k = rw (eq-eqb (length m.deps) deps_all l) (split (leb m.writers.count writers_max)
    (λ t. let h = leb-true m.writers.count writers_max t in
    let n : length (records_of m) ≡ m.writers.count =
    length-take-le m.writers.count m.writers.at (omega arith) in
    let e = rows-ranked m.clock m.clock.lce false m.deps (records_of m) (omega arith) in
    let e' = rw (n, ranked-writers m) at e in
    rw t (sym (regroup (rises m.clock.lce m.clock.ec (epochs (writers_of m)))
    (all_of (status_ok (writers_of m)) (writers_of m)) (all_of room_ok (records_of m))
    (all_of (deps_ok m.clock.lse) (writers_of m)) (all_of unused_rw (drop m.writers.count m.writers.at))
    (spares_zero m.deps (records_of m))
    (writers_ranked m.clock.lce m.clock false m.deps (records_of m))
    (zeros (drop (deps_max * m.writers.count) m.deps)) e')))
    (λ f. rw f))

-- the record at place i of xs, with its row as it is lent, then those behind it
pub turn : (c : Clock) (ds : List ℕ) (xs : List RwTxn) (lo : ℕ) (seen : Bool) (i : ℕ) {r : Bool} → i < length xs
    → r ≡ record_ok lo c seen (take (deps_max * i + deps_max - deps_max * i) (drop (deps_max * i) ds))
    (get_or xs i no_rw)
    → let t = get_or xs i no_rw in
    writers_ranked lo c seen (drop (deps_max * i) ds) (drop i xs)
    ≡ r && writers_ranked t.epoch c (seen || eqb t.waiting 0) (drop (deps_max * (i + 1)) ds) (drop (i + 1) xs)
turn c ds xs lo seen i h q =
    let n : deps_max * i + deps_max - deps_max * i ≡ deps_max = omega arith in
    let e : deps_max * i + deps_max ≡ deps_max * (i + 1) = omega arith in
    rw (from_next xs no_rw i h, ← e, ← drop-drop deps_max (deps_max * i) ds, q, n)

-- ---- read-only records

readers-ranked-is : (m : Manager) → readers_ranked 0 m.readers.next m.clock (readers_of m)
    ≡ rises 0 m.readers.next (tickets (readers_of m))
    && all_of (λ p. leb m.clock.lse p.epoch && leb p.epoch m.clock.lce) (readers_of m)
readers-ranked-is m = ranked-is (λ p. p.ticket) m.readers.next
    (λ _ p. leb m.clock.lse p.epoch && leb p.epoch m.clock.lce) (λ (u : Unit {0}) p. u)
    (λ p. leb m.clock.lse p.epoch && leb p.epoch m.clock.lce) (λ _ _ _. Unit {0})
    (λ lo s p ps l g. tt) (λ lo s p ps l r g. refl) 0 tt (readers_of m) tt

pub readers-are : (m : Manager) → readers_tested m.clock m.readers ≡ readers_ok m
unfolding readers_tested readers_ok
readers-are m = rw (readers-ranked-is m)
    (flat (leb m.readers.count readers_max) (leb 1 m.readers.next) (leb m.readers.next (suc last_ticket))
    (rises 0 m.readers.next (tickets (readers_of m))) _ _)
  where
    flat : (a b c d e f : Bool) → a && (b && (c && ((d && e) && f))) ≡ a && b && c && d && e && f
    flat false b c d e f = refl
    flat true false c d e f = refl
    flat true true false d e f = refl
    flat true true true d e f = refl

-- ---- the whole

no_table : (c : Clock) (ts : RwTxns) (ds : List ℕ) → eqb (length ds) deps_all ≡ false → writers_tested c ts ds ≡ false
unfolding writers_tested
no_table c ts ds f = rw f

pub parts_are : (c : Clock) (ts : RwTxns) (ds : List ℕ) (ps : RoTxns) → length ts.at ≡ writers_max
    → eqb (length ds) deps_all && manager_ok (manager_with c ts ds ps)
    ≡ (clock_ok c && writers_tested c ts ds) && readers_tested c ps
unfolding manager_ok
parts_are c ts ds ps k = split (eqb (length ds) deps_all)
    (λ t. let m = manager_with c ts ds ps in
    rw (t, writers-are m (eqb-true (length ds) deps_all t) k, readers-are m))
    (λ f. rw (f, no_table c ts ds f, and-false (clock_ok c)))
