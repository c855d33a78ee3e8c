-- Laws of header_in: where the search for the last whole header stands, header by header; what holds of the header that
-- is found; it is that of rules' checkpoint_in. Definitions: specs/Header.antt.
-- Assumes nothing.
use mathlib.Core.Path.{◌≡◌, refl, sym, ◌∙◌}
use mathlib.Core.Bool.{Bool, true, false, not, cond}
use mathlib.Core.List.{List}
use Prim.Native.Nat.{ℕ, zero, suc, ◌+◌, ◌-◌, ◌≤◌, ◌<◌}
use native.Mathlib.Omega.{arith}
use lib.Dec.{ltb, leb}
use lib.ListN.{length, drop, length-drop}
use lib.Seq.{drop-drop}
use borrow.Author.Tests.{ltb-true, ltb-false, lt-ltb, le-ltb}
use Rattle.lists.specs.Lists.{all_of}
use Rattle.lists.proofs.Laws.Bools.{split}
use Rattle.rules.specs.Limits.{rows_max, partitions_max}
use Rattle.rules.specs.Checkpoint.{header_size, header_ok, sum_of, body_size, rows_in, numbers_in, last_from}
use Rattle.rules.specs.Checkpoint.{checkpoint_in}
use Rattle.rules.specs.declared.Refusal.TheVariants.{Corrupt}
use Rattle.std.specs.Prelude.{Ok, Err, IfOk, IfErr}
use Rattle.checkpoint.specs.declared.Header.{Header}
use Rattle.checkpoint.specs.Header.{no_header, header_at, end_of, header_from, header_in}
use Rattle.checkpoint.specs.Header.{checkpoint_by, found_in}
use Rattle.laws.proofs.Laws.Bytes.{length-numbers_in}
use Rattle.laws.proofs.Laws.Checkpoint.{header_ok_lem}

abbrev ok_after : ℕ → Header → Header → Bool
ok_after last h g = header_ok last h.epoch g.epoch g.counts

-- ---- the search has found h, and goes on at index i

pub record Sought (last : ℕ) (file : List ℕ) (h : Header) (i : ℕ) : Type 0 where
  pub bound : ℕ
  pub enough : length file ≤ i + bound
  pub same : header_in last file ≡ header_from last bound h file i

pub sought-start : (last : ℕ) (file : List ℕ) → Sought last file no_header 0
sought-start last file = record { bound = length file; enough = omega arith; same = refl }

-- a whole header stands there
from-whole : (last n : ℕ) (h : Header) (file : List ℕ) (i : ℕ) → length file ≤ i + n → i + header_size ≤ length file
    → let g = header_at file i in header_from last n h file i ≡
    cond (not (ok_after last h g)) (Err Corrupt)
    (cond (ltb (length file) (end_of g)) (Ok h) (header_from last (n - 1) g file (end_of g)))
unfolding header_from
from-whole last zero h file i e w = absurd (omega arith)
from-whole last (suc n) h file i e w = let m : suc n - 1 ≡ n = omega arith in
    rw (m, le-ltb (length file) (i + header_size) w)

from-short : (last n : ℕ) (h : Header) (file : List ℕ) (i : ℕ) → length file < i + header_size
    → header_from last n h file i ≡ Ok h
unfolding header_from
from-short last zero h file i w = refl
from-short last (suc n) h file i w = rw (lt-ltb (length file) (i + header_size) w)

module _ {last : ℕ} {file : List ℕ} {h : Header} {i : ℕ} (s : Sought last file h i) where
  pub sought-short : length file < i + header_size → Ok h ≡ header_in last file
  sought-short w = sym (s.same ∙ from-short last s.bound h file i w)

  module _ (w : i + header_size ≤ length file) where
    whole : let g = header_at file i in header_in last file ≡
        cond (not (ok_after last h g)) (Err Corrupt)
        (cond (ltb (length file) (end_of g)) (Ok h) (header_from last (s.bound - 1) g file (end_of g)))
    whole = s.same ∙ from-whole last s.bound h file i s.enough w

    pub sought-corrupt : ok_after last h (header_at file i) ≡ false → Err Corrupt ≡ header_in last file
    sought-corrupt f = sym (rw f at whole)

    pub sought-cut : ok_after last h (header_at file i) ≡ true → length file < end_of (header_at file i)
        → Ok h ≡ header_in last file
    sought-cut t c = sym (rw (t, lt-ltb (length file) (end_of (header_at file i)) c) at whole)

    pub sought-next : ok_after last h (header_at file i) ≡ true → end_of (header_at file i) ≤ length file
        → Sought last file (header_at file i) (end_of (header_at file i))
    sought-next t c = let b = s.enough in record {
      bound = s.bound - 1;
      enough = omega arith;
      same = rw (t, le-ltb (length file) (end_of (header_at file i)) c) at whole;
    }

-- ---- what holds of the header that is found, in every file

pub record Whole (last : ℕ) (file : List ℕ) (h : Header) : Type 0 where
  pub epoch : h.epoch ≤ last
  pub eight : length h.counts ≡ partitions_max
  pub counts : all_of (λ n. leb n rows_max) h.counts ≡ true
  pub empty : h.epoch ≡ 0 → sum_of h.counts ≡ 0
  pub body : end_of h ≤ length file

none-whole : (last : ℕ) (file : List ℕ) → Whole last file no_header
none-whole last file =
    record { epoch = omega arith; eight = refl; counts = refl; empty = λ z. refl; body = omega arith }

from-holds : (last n : ℕ) (h : Header) (file : List ℕ) (i : ℕ) → Whole last file h
    → IfOk (header_from last n h file i) (Whole last file)
unfolding header_from
from-holds last zero h file i w = w
from-holds last (suc n) h file i w = let g = header_at file i in
    split (ltb (length file) g.body) (λ t. rw t w) λ f. split (ok_after last h g)
    (λ ok. let k = header_ok_lem last h.epoch g.epoch g.counts ok in
    split (ltb (length file) (end_of g)) (λ t. rw (f, ok, t) w) λ b. rw (f, ok, b)
    (from-holds last n g file (end_of g) (record {
      epoch = k.epoch-fits;
      eight = length-numbers_in 2 partitions_max (drop 8 (drop i file));
      counts = k.counts_all;
      empty = k.none;
      body = ltb-false (length file) (end_of g) b;
    })))
    (λ no. rw (f, no) tt)

pub header-whole : (last : ℕ) (file : List ℕ) → IfOk (header_in last file) (Whole last file)
header-whole last file = from-holds last (length file) no_header file 0 (none-whole last file)

-- where there is none, the file is corrupt
from-errs : (last n : ℕ) (h : Header) (file : List ℕ) (i : ℕ)
    → IfErr (header_from last n h file i) (λ why. why ≡ Corrupt)
unfolding header_from
from-errs last zero h file i = tt
from-errs last (suc n) h file i = let g = header_at file i in
    split (ltb (length file) g.body) (λ t. rw t tt) λ f. split (ok_after last h g)
    (λ ok. split (ltb (length file) (end_of g)) (λ t. rw (f, ok, t) tt) λ b. rw (f, ok, b)
    (from-errs last n g file (end_of g)))
    (λ no. rw (f, no) refl)

pub header-errs : (last : ℕ) (file : List ℕ) → IfErr (header_in last file) (λ why. why ≡ Corrupt)
header-errs last file = from-errs last (length file) no_header file 0

-- ---- it is the header of the checkpoint that a file has

ltb-drop : (i k : ℕ) (xs : List ℕ) → i ≤ length xs → ltb (length (drop i xs)) k ≡ ltb (length xs) (i + k)
ltb-drop i k xs h = split (ltb (length xs) (i + k))
    (λ t. let g = ltb-true (length xs) (i + k) t in rw t
    (lt-ltb (length (drop i xs)) k (simp length-drop (omega arith))))
    (λ f. let g = ltb-false (length xs) (i + k) f in rw f
    (le-ltb (length (drop i xs)) k (simp length-drop (omega arith))))

from_found : (last n : ℕ) (h : Header) (file : List ℕ) (i : ℕ) → i ≤ length file
    → last_from last n (checkpoint_by file h) (drop i file) ≡ found_in file (header_from last n h file i)
unfolding last_from header_from found_in
from_found last zero h file i le = refl
from_found last (suc n) h file i le = let g = header_at file i in
    rw (ltb-drop i header_size file le, drop-drop header_size i file)
    (split (ltb (length file) (i + header_size)) (λ t. rw t) λ f. let le' = ltb-false (length file) (i + header_size)
    f in
    split (ok_after last h g) (λ ok. rw (f, ok, ltb-drop (i + header_size) (body_size g.counts) file le')
    (split (ltb (length file) (end_of g)) (λ t. rw t) λ b.
    rw (b, drop-drop (body_size g.counts) (i + header_size) file)
    (from_found last n g file (end_of g) (ltb-false (length file) (end_of g) b))))
    (λ no. rw (f, no)))

pub header-found : (last : ℕ) (file : List ℕ) → checkpoint_in last file ≡ found_in file (header_in last file)
unfolding rows_in numbers_in
header-found last file = from_found last (length file) no_header file 0 (omega arith)
