-- What is asked of the books is enough: LCE raised to EC changes no test, and the test of what is asked is rules'.
-- In order: numbers between two others, an epoch, a partition, all. Definitions: specs/Asked.antt.
-- Assumes nothing.
use mathlib.Core.Path.{◌≡◌, refl, sym, ap}
use mathlib.Core.Bool.{Bool, true, ◌&&◌, ◌||◌}
use mathlib.Core.List.{List, [], ◌∷◌}
use Prim.Native.Nat.{ℕ, suc, ◌*◌, ◌<◌}
use native.Mathlib.Omega.{arith}
use lib.ListN.{length}
use lib.Dec.{ltb, leb, eqb}
use borrow.Author.Tests.{eqb-true, eq-eqb, ltb-true, ltb-false, le-leb, leb-false}
use Rattle.lists.specs.Lists.{all_of, elem, part}
use Rattle.lists.proofs.Laws.Bools.{split, split-eq, and_left, and_right, and-false, and-true, or_right}
use Rattle.lists.proofs.Laws.Parts.{take-pad}
use Rattle.rules.specs.Manager.{manager_in}
use Rattle.rules.specs.Limits.{writers_max, rows_max, entries_max}
use Rattle.rules.specs.WellFormed.{areas_ok, ends_ok, apart}
use Rattle.rules.specs.declared.Clock.{Clock}
use Rattle.rules.specs.declared.Entry.{Entry}
use Rattle.rules.specs.declared.Partition.{Partition}
use Rattle.rules.specs.declared.State.{State}
use Rattle.partition_sound.specs.Sound.{epochs_of, epoch_ok_by, partition_ok_by}
use Rattle.partition_sound.specs.Asked.{fills, raised, asked_of, lengths_are, rest_ok, rest_asked}
use Rattle.partition_sound.proofs.Laws.Sound.{partitions_ok_shared, partitions_ok-each}

-- every number between is there
fills-all : (lo hi : ℕ) (xs : List ℕ) → fills lo hi xs ≡ true → (j : ℕ) → lo < j → j < hi → elem j xs ≡ true
unfolding fills
fills-all lo hi [] h j l m = let e = eqb-true (suc lo) hi h in absurd (omega arith)
fills-all lo hi (x ∷ xs) h j l m =
    let e = eqb-true (suc lo) x (and_left (eqb (suc lo) x) (fills x hi xs) h) in
    let r = and_right (eqb (suc lo) x) (fills x hi xs) h in
    let ih = fills-all x hi xs r j in
    split-eq j x (λ p. rw (eq-eqb j x p)) (λ n. or_right (eqb j x) (elem j xs) (ih (apart_above e n) m))
  where
    apart_above : suc lo ≡ x → (j ≡ x → ⊥) → x < j
    apart_above e n = split (ltb x j) (λ t. ltb-true x j t)
        (λ f. absurd (n (let g = ltb-false x j f in omega arith)))

module _ (c : Clock) (js : List ℕ) where
  epoch_ok-raised : (j : ℕ) → epoch_ok_by (raised c js) js j ≡ epoch_ok_by c js j
  unfolding epoch_ok_by raised
  epoch_ok-raised j = split (fills c.lce c.ec js)
      (λ f. rw f (filled f)) (λ n. rw n)
    where
      filled : fills c.lce c.ec js ≡ true
          → leb 1 j && ltb j c.ec && (leb j c.ec || elem j js)
          ≡ leb 1 j && ltb j c.ec && (leb j c.lce || elem j js)
      filled f = split (ltb j c.ec)
          (λ t. let g = ltb-true j c.ec t in
          rw (t, le-leb j c.ec (omega arith)) (ap (λ b. leb 1 j && true && b) (sym (known f g))))
          (λ n. rw (n, and-false (leb 1 j)))
        where
          known : fills c.lce c.ec js ≡ true → j < c.ec → leb j c.lce || elem j js ≡ true
          known f g = split (leb j c.lce) (λ t. rw t)
              (λ n. let u = leb-false j c.lce n in or_right (leb j c.lce) (elem j js)
              (fills-all c.lce c.ec js f j (omega arith) g))

  partition_ok-raised : (es : List Entry) (q : Partition)
      → partition_ok_by (raised c js) js es q ≡ partition_ok_by c js es q
  unfolding partition_ok_by
  partition_ok-raised es q = let ps = part (entries_max * q.area) q.entries es in
      ap (λ (t : Entry → Bool). leb q.rows rows_max && leb q.entries entries_max && ends_ok q.rows 0 ps
      && all_of t ps && apart ps)
      (λ k e. leb e.mark 1 && epoch_ok-raised e.epoch k)

  all-raised : (es : List Entry) (qs : List Partition)
      → all_of (partition_ok_by (raised c js) js es) qs ≡ all_of (partition_ok_by c js es) qs
  all-raised es qs = ap (λ (t : Partition → Bool). all_of t qs) (λ k q. partition_ok-raised es q k)

-- of what is asked of a manager it is the test of the lots
pub rest-asked : (s : State) (es : List Entry) (rows : List ℕ)
    → rest_asked es rows (asked_of s.clock s.writers s.partitions s.totals) ≡ rest_ok s es rows
unfolding rest_asked rest_ok
rest-asked s es rows =
    let c = s.clock in let js = epochs_of s.writers in let ps = s.partitions in
    split (areas_ok ps)
    (λ t. rw (
      t,
      take-pad writers_max 0 js,
      all-raised c js es ps.at,
      partitions_ok-each (manager_in s) es ps js _ t refl refl,
      and-true (lengths_are (length es) (length rows)),
    ))
    (λ n. rw (n, partitions_ok_shared (manager_in s) es ps n, and-false (lengths_are (length es) (length rows))))
