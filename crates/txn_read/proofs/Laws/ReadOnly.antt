-- A read-only transaction taken out at its place is what the rules say of its ticket.
-- Definitions: rules/specs/ReadOnly.antt, txn/specs/Records.antt, specs/End.antt.
-- Assumes nothing.
use mathlib.Core.Path.{◌≡◌, refl, sym, ap, ◌∙◌}
use mathlib.Core.Bool.{Bool, true, ◌&&◌}
use mathlib.Core.List.{List}
use Prim.Native.Nat.{ℕ, ◌+◌}
use native.Mathlib.Numerals.{add-one}
use borrow.Author.Tests.{eqb-true}
use Rattle.lists.proofs.Laws.Bools.{and_right}
use Rattle.lists.proofs.Laws.Branches.{said}
use Rattle.rules.specs.Calls.{end_ro_answer}
use Rattle.rules.specs.Manager.{Manager, manager_with, manager_in, no_ro, has_ticket, readers_of, with_readers}
use Rattle.rules.specs.ReadOnly.{ended_ro_manager}
use Rattle.rules.specs.Store.{with_manager_in}
use Rattle.rules.specs.WellFormed.{manager_ok}
use Rattle.rules.specs.declared.Answer.TheVariants.{EndedRo}
use Rattle.rules.specs.declared.Kept.{Kept}
use Rattle.rules.specs.declared.State.{State}
use Rattle.rules.specs.declared.RoTxn.{RoTxn}
use Rattle.laws.proofs.Laws.Manager.{manager-facts}
use Rattle.txn.specs.Kept.{kept_of}
use Rattle.txn.specs.Records.{cut}
use Rattle.txn.proofs.Laws.Cut.{drop-one}
use Rattle.txn_find.specs.Find.{reader_at}
use Rattle.std.specs.Prelude.{Option, Some, None}
use Rattle.txn_find.proofs.Laws.Find.{reader-stands, reader-none}
use Rattle.txn_find.proofs.Laws.Places.{Sized}
use Rattle.txn_read.specs.End.{ended_by, ended_at}
use Rattle.txn_read.specs.declared.Ended.{Ended}

pub end_is : (m : Manager) → manager_ok m ≡ true → (t : ℕ) {j : ℕ} {r : Option ℕ} → r ≡ reader_at t m.readers
    → r ≡ Some j → with_readers (cut j (j + 1) (readers_of m)) m.readers.next m ≡ ended_ro_manager t m
unfolding ended_ro_manager reader_at
end_is m ok t {j} a e = rw (add-one j) (ap (λ (l : List RoTxn). with_readers l m.readers.next m)
    (sym (drop-one (has_ticket t) (λ (p : RoTxn). p.ticket) t (λ p h. eqb-true p.ticket t h)
    m.readers.next no_ro 0 (readers_of m) j (manager-facts m ok).readers.rising (said a e))))

-- ---- closing a page on the records is closing it on the books

abbrev ended_in : State → Ended → Kept
ended_in s e = record {
  state = with_manager_in (manager_with s.clock s.writers s.deps e.readers) s;
  answer = e.answer;
}

module _ (s : State) (z : Sized (manager_in s)) (rest : Bool) (yes : rest && manager_ok (manager_in s) ≡ true) (t : ℕ)
  where
    by-found : (r : Option ℕ) → r ≡ reader_at t s.readers
        → ended_in s (ended_by r s.readers) ≡ kept_of (end_ro_answer t (rest && manager_ok (manager_in s))
        (manager_in s))
        (ended_ro_manager t (manager_in s)) s
    unfolding end_ro_answer
    by-found (Some j) a = let m = manager_in s in
        let left : Manager → Kept = λ n. record { state = with_manager_in n s; answer = EndedRo n.readers.count } in
        ap left (end_is m (and_right rest (manager_ok m) yes) t a refl) ∙ rw (yes, (reader-stands m t z a refl).any)
    by-found None a = rw (yes, (reader-none (manager_in s) t a refl).any)

    pub ended_is : ended_in s (ended_at t s.readers)
        ≡ kept_of (end_ro_answer t (rest && manager_ok (manager_in s)) (manager_in s))
        (ended_ro_manager t (manager_in s)) s
    unfolding ended_at
    ended_is = by-found (reader_at t s.readers) refl
