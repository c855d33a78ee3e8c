-- Beginning and ending a read-only transaction keep the manager sound. Definitions: rules/specs/ReadOnly.antt.
-- In order: begun_ro-ok, ended_ro-ok.
-- Assumes nothing.
use mathlib.Core.Path.{◌≡◌, ap}
use mathlib.Core.Bool.{Bool, true, not}
use mathlib.Core.Logic.{◌⊎◌, inl, inr}
use mathlib.Core.List.Memᴰ
use mathlib.Core.List.{List, [], ◌∷◌, ◌++◌, map-append, Memᴰ as In}
use Prim.Native.Nat.{ℕ, suc, ◌≤◌, ◌<◌}
use native.Mathlib.Omega.{arith}
use lib.ListN.{length-append, length-take}
use Rattle.lists.proofs.Laws.Filter.{keep_if_in, length-keep_if}
use Rattle.lists.proofs.Laws.Order.{rises-append, rises-keep_if}
use Rattle.lists.specs.Lists.{keep_if}
use Rattle.rules.specs.Limits.{last_ticket, readers_max}
use Rattle.rules.specs.Manager.{readers_of, has_ticket}
use Rattle.rules.specs.ReadOnly.{snapshot_epoch, begun_ro_manager, ended_ro_manager}
use Rattle.rules.specs.WellFormed.{manager_ok}
use Rattle.rules.specs.declared.RoTxn.{RoTxn}
use Rattle.rules.specs.Manager.{Manager}
use Rattle.laws.proofs.Laws.Manager.{tickets, ReaderFacts, manager-facts, manager-ok, readers-with}

begun-readers : (lse lce next e : ℕ) (ps : List RoTxn) → ReaderFacts lse lce next ps → lse ≤ e → e ≤ lce
    → (next ≡ suc last_ticket → ⊥) → ReaderFacts lse lce (suc next) (ps ++ (record { ticket = next; epoch = e } ∷ []))
begun-readers lse lce next e ps f low high more = record {
  next_low = omega arith;
  next-high = (let h = f.next-high in omega arith);
  rising = rw (map-append (λ (p : RoTxn). p.ticket) ps (record { ticket = next; epoch = e } ∷ []))
      (rises-append 0 next (tickets ps) f.next_low f.rising);
  low = λ p i. lows p (Memᴰ.append_cases ps i);
  high = λ p i. highs p (Memᴰ.append_cases ps i);
}
  where
    lows : (p : RoTxn) → In p ps ⊎ In p (record { ticket = next; epoch = e } ∷ []) → lse ≤ p.epoch
    lows p (inl i) = f.low p i
    lows p (inr i) = let q = ap (λ (x : RoTxn). x.epoch) (Memᴰ.eq_of_singleton i) in omega arith

    highs : (p : RoTxn) → In p ps ⊎ In p (record { ticket = next; epoch = e } ∷ []) → p.epoch ≤ lce
    highs p (inl i) = f.high p i
    highs p (inr i) = let q = ap (λ (x : RoTxn). x.epoch) (Memᴰ.eq_of_singleton i) in omega arith

pub begun_ro-ok : (e : ℕ) (m : Manager) → manager_ok m ≡ true → m.clock.lse ≤ snapshot_epoch e m
    → snapshot_epoch e m ≤ m.clock.lce → (m.readers.next ≡ suc last_ticket → ⊥) → m.readers.count < readers_max
    → manager_ok (begun_ro_manager e m) ≡ true
unfolding begun_ro_manager
begun_ro-ok e m ok low high more room =
    let f = manager-facts m ok in let ps = readers_of m in let n = m.readers.next in
    let new : RoTxn = record { ticket = n; epoch = snapshot_epoch e m } in
    manager-ok (begun_ro_manager e m) (readers-with m (ps ++ (new ∷ [])) (suc n) f
    (rw (length-append ps (new ∷ []), length-take m.readers.count m.readers.at) (omega arith))
    (begun-readers m.clock.lse m.clock.lce n (snapshot_epoch e m) ps f.readers low high more))

pub ended_ro-ok : (t : ℕ) (m : Manager) → manager_ok m ≡ true → manager_ok (ended_ro_manager t m) ≡ true
unfolding ended_ro_manager
ended_ro-ok t m ok =
    let f = manager-facts m ok in let r = f.readers in let ps = readers_of m in let n = m.readers.next in
    let others : RoTxn → Bool = λ p. not (has_ticket t p) in
    let room = f.readers-room in
    let a = length-keep_if others ps in let b = length-take m.readers.count m.readers.at in
    manager-ok (ended_ro_manager t m) (readers-with m (keep_if others ps) n f (omega arith) (record {
      next_low = r.next_low;
      next-high = r.next-high;
      rising = rises-keep_if (λ (p : RoTxn). p.ticket) others 0 n ps r.rising;
      low = λ p i. r.low p (keep_if_in others ps i).0;
      high = λ p i. r.high p (keep_if_in others ps i).0;
    }))
