-- Words joined by |: the result is 0 just where all of them are.
-- In order: two words, a word more of a list, the words of an unused record.
-- Assumes nothing.
use mathlib.Core.Path.{◌≡◌, refl, sym, ◌∙◌, ap}
use mathlib.Core.Bool.{Bool, true, false, ◌&&◌}
use mathlib.Core.List.{List}
use Prim.Native.Nat.{ℕ, zero, suc, ◌+◌, ◌≤◌, ◌<◌}
use native.Mathlib.Omega.{arith}
use lib.Bits.{bit_or, or_add_and, and_le_l, or_comm}
use lib.Dec.{eqb}
use lib.ListN.{length, drop, get_or}
use borrow.Author.Tests.{ne_eqb}
use Rattle.lists.specs.Lists.{all_of}
use Rattle.lists.proofs.Laws.Bools.{and_assoc, eqb_comm}
use Rattle.lists.proofs.Laws.Places.{all-next}
use Rattle.rules.specs.WellFormed.{unused_rw, unused_ro}
use Rattle.rules.specs.declared.RwTxn.{RwTxn}
use Rattle.rules.specs.declared.RoTxn.{RoTxn}

or_ge : (a b : ℕ) → a ≤ bit_or a b
or_ge a b = let c = or_comm a b in let p = or_add_and b a in let q = and_le_l b a in omega arith

or-zero : (a b : ℕ) → eqb (bit_or a b) 0 ≡ eqb a 0 && eqb b 0
or-zero zero b = refl
or-zero (suc a) b = let g = or_ge (suc a) b in
    ne_eqb (bit_or (suc a) b) 0 (λ z. omega arith)
    ∙ sym (ap (λ t. t && eqb b 0) (ne_eqb (suc a) 0 (λ z. omega arith)))

-- one element more: r is whether what was joined is 0 with it, p whether its words are 0
pub joined-next : {A : Type 0} (p : A → Bool) (xs : List A) (places : ℕ) → length xs ≡ places → (d : A) (j : ℕ)
    (b r : Bool) → j < places → r ≡ b && p (get_or xs j d)
    → b && all_of p (drop j xs) ≡ r && all_of p (drop (j + 1) xs)
joined-next p xs places len d j b r h e =
    rw (all-next xs places len p d j (p (get_or xs j d)) h refl, e)
    (sym (and_assoc b (p (get_or xs j d)) (all_of p (drop (j + 1) xs))))

pub joined_word : (left x : ℕ) → eqb (bit_or left x) 0 ≡ eqb left 0 && eqb 0 x
joined_word left x = or-zero left x ∙ rw (eqb_comm x 0)

pub joined_rw : (left : ℕ) (t : RwTxn)
    → eqb (bit_or (bit_or (bit_or left t.epoch) t.waiting) t.deps) 0 ≡ eqb left 0 && unused_rw t
joined_rw left t =
    rw (
      or-zero (bit_or (bit_or left t.epoch) t.waiting) t.deps,
      or-zero (bit_or left t.epoch) t.waiting,
      or-zero left t.epoch,
    )
    (again (eqb left 0) (eqb t.epoch 0) (eqb t.waiting 0) (eqb t.deps 0))
  where
    again : (a b c d : Bool) → ((a && b) && c) && d ≡ a && (b && c && d)
    again true b c d = refl
    again false b c d = refl

pub joined_ro : (left : ℕ) (p : RoTxn)
    → eqb (bit_or (bit_or left p.ticket) p.epoch) 0 ≡ eqb left 0 && unused_ro p
joined_ro left p = rw (or-zero (bit_or left p.ticket) p.epoch, or-zero left p.ticket)
    (and_assoc (eqb left 0) (eqb p.ticket 0) (eqb p.epoch 0))
