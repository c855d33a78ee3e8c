-- The words that the entries of a partition (01: lot) lay are its runs, joined. Definitions: specs/Runs.antt;
-- Joined.antt.
-- In order: a run as a word; a part and its next element; where the laying stands; the entries of one partition; all
-- partitions.
-- Assumes nothing.
use mathlib.Core.Path.{◌≡◌, refl, sym, ◌∙◌, ap}
use mathlib.Core.Bool.{Bool, true, false, cond}
use mathlib.Core.List.{List, [], ◌∷◌, foldl}
use Prim.Native.Nat.{ℕ, suc, ◌+◌, ◌-◌, ◌*◌, ◌/◌, ◌%◌, ◌≤◌, ◌<◌}
use native.Mathlib.Omega.{arith}
use native.Mathlib.Nat.{div-add-mod'}
use lib.ListN.{length, take, drop, get_or, set, length-set}
use lib.Seq.{get_or-set_same, get_or-set_other, take-set-le, drop-set-lt, get_or-take, take-take}
use lib.Dec.{ltb}
use borrow.Author.Tests.{lt-ltb, le-ltb}
use Rattle.lists.specs.Lists.{part}
use Rattle.lists.proofs.Laws.Bools.{split}
use Rattle.lists.proofs.Laws.Places.{from_next}
use Rattle.rules.specs.Limits.{rows_max, entries_max}
use Rattle.rules.specs.WellFormed.{ends_ok}
use Rattle.rules.specs.declared.Entry.{Entry}
use Rattle.laws.proofs.Laws.Span.{end-ok, ends_ok-le}
use Rattle.totals.specs.Reach.{shows}
use Rattle.totals.specs.declared.Cut.{Cut}
use Rattle.plan_save.specs.declared.runs.Pending.{Pending}
use Rattle.plan_save.specs.Runs.{Run, from_in, end_in, runs_in, runs_max, words_max, next_of, pending_turn}
use Rattle.plan_save.specs.Runs.{place_in, word_of, Laid, laid_turn}
use Rattle.plan_save.proofs.Laws.Joined.{closed, joined}

-- ---- a run as a word

whole : (a b : ℕ) → b < 65536 → (a * 65536 + b) / 65536 ≡ a
whole a b h = let m : (a * 65536 + b) % 65536 ≡ b = omega arith in
    omega (arith, div-add-mod' (a * 65536 + b) 65536, m)

module _ (s : Pending) (up : s.from ≤ s.end) (few : s.end ≤ rows_max) where
  word_end : end_in (word_of s) ≡ s.end
  unfolding word_of
  word_end = omega arith

  word-from : from_in (word_of s) ≡ s.from
  unfolding word_of
  word-from = let m : s.from % 65536 ≡ s.from = omega arith in
      whole (s.from % 65536) (s.end % 65536) (omega arith) ∙ m

  runs-word : (ws : List ℕ) → runs_in (word_of s ∷ ws)
      ≡ cond (ltb s.from s.end) (record { from = s.from; end = s.end } ∷ runs_in ws) []
  unfolding runs_in
  runs-word ws = rw (word-from, word_end)

-- ---- a part and its next element

part-next : (xs : List ℕ) (i to : ℕ) → i < to → to ≤ length xs
    → part i (to - i) xs ≡ get_or xs i 0 ∷ part (i + 1) (to - (i + 1)) xs
part-next xs i to h k = let n : to - i ≡ suc (to - (i + 1)) = omega arith in rw (n, from_next xs 0 i (omega arith))

-- ---- where the laying stands: the pending run is written, behind it no row; n entries are left

pub record Stands (b n : ℕ) (x : Laid) : Type 0 where
  pub long : length x.words ≡ words_max
  pub inside : b + runs_max ≤ words_max
  pub low : b ≤ x.pending.at
  pub room : 2 * (x.pending.at - b) + cond (ltb x.pending.from x.pending.end) 1 0 + n ≤ entries_max
  pub up : x.pending.from ≤ x.pending.end
  pub few : x.pending.end ≤ rows_max
  pub here : get_or x.words x.pending.at 0 ≡ word_of x.pending
  pub blank : (j : ℕ) → x.pending.at < j → j < b + runs_max → get_or x.words j 0 ≡ 0

-- the runs from the pending one on, and what stays
pub record Lays (b : ℕ) (x y : Laid) (rs : List Run) : Type 0 where
  pub long : length y.words ≡ words_max
  pub before : take x.pending.at y.words ≡ take x.pending.at x.words
  pub behind : drop (b + runs_max) y.words ≡ drop (b + runs_max) x.words
  pub runs : runs_in (part x.pending.at (b + runs_max - x.pending.at) y.words) ≡ rs

module _ (b : ℕ) where
  -- no entry is left
  ends : (n : ℕ) (x : Laid) → Stands b n x → Lays b x x (closed x.pending.from x.pending.end [])
  ends n x s = let l = s.long in let i = s.inside in let w = s.low in let r = s.room in let p = x.pending in
      record {
        long = l;
        before = refl;
        behind = refl;
        runs = split (ltb p.from p.end)
            (λ y. let m : 2 * (p.at - b) + 1 + n ≤ entries_max = rw y at r in
            let z = s.blank (p.at + 1) (omega arith) (omega arith) in
            rw (
              part-next x.words p.at (b + runs_max) (omega arith) (omega arith),
              s.here,
              runs-word p s.up s.few,
              y,
              part-next x.words (p.at + 1) (b + runs_max) (omega arith)
                  (omega arith),
              z,
            ) (unfold runs_in in refl))
            (λ f. let m : 2 * (p.at - b) + 0 + n ≤ entries_max = rw f at r in
            rw (
              part-next x.words p.at (b + runs_max) (omega arith) (omega arith),
              s.here,
              runs-word p s.up s.few,
              f,
            ));
      }

  place_is : (s : Pending) → s.at < words_max → place_in s ≡ s.at
  unfolding place_in
  place_is s h = rw (lt-ltb s.at words_max h)

  abbrev with-run : Laid → Pending → Laid
  with-run x s = record { pending = s; words = set x.words (place_in s) (word_of s) }

  at_most : (t : Bool) → cond t 1 0 ≤ 1
  at_most true = omega arith
  at_most false = omega arith

  module _ (n : ℕ) (x : Laid) (s : Stands b (suc n) x) where
    abbrev p : Pending
    p = x.pending

    -- the pending run is another, at the same place
    module _ (from end : ℕ) (up : from ≤ end) (few : end ≤ rows_max) where
      abbrev same : Pending
      same = record { at = p.at; from = from; end = end }

      inside-same : p.at < b + runs_max
      inside-same = let r = s.room in let l = s.low in omega arith

      place_same : place_in same ≡ p.at
      place_same = let i = s.inside in let h = inside-same in place_is same (omega arith)

      stands_same : Stands b n (with-run x same)
      stands_same = let i = s.inside in let l = s.long in let h = inside-same in let r = s.room in
          let m = at_most (ltb from end) in rw place_same (record {
            long = length-set x.words p.at (word_of same) ∙ l;
            inside = i;
            low = s.low;
            room = omega arith;
            up = up;
            few = few;
            here = get_or-set_same x.words p.at (word_of same) 0 (omega arith);
            blank = λ j a k. get_or-set_other x.words p.at j (word_of same) 0 (λ q. omega arith) ∙ s.blank j a k;
          })

      lays-same : (y : Laid) (rs : List Run) → Lays b (with-run x same) y rs → Lays b x y rs
      lays-same y rs z = let h = inside-same in record {
        long = z.long;
        before = z.before ∙ rw place_same (take-set-le p.at x.words p.at (word_of same) (omega arith));
        behind = z.behind ∙ rw place_same (drop-set-lt (b + runs_max) x.words p.at (word_of same) h);
        runs = z.runs;
      }

    -- the pending run has rows, and another one begins behind it
    module _ (some : ltb p.from p.end ≡ true) (end : ℕ) (few : end ≤ rows_max) where
      abbrev next : Pending
      next = record { at = p.at + 1; from = end; end = end }

      room_next : 2 * (p.at - b) + 1 + suc n ≤ entries_max
      room_next = rw some at s.room

      place-next : place_in next ≡ p.at + 1
      place-next = let i = s.inside in let l = s.low in let r = room_next in place_is next (omega arith)

      none_yet : ltb end end ≡ false
      none_yet = le-ltb end end (omega arith)

      stands-next : Stands b n (with-run x next)
      stands-next = let i = s.inside in let l = s.long in let w = s.low in let r = room_next in
          rw place-next (record {
            long = length-set x.words (p.at + 1) (word_of next) ∙ l;
            inside = i;
            low = omega arith;
            room = rw none_yet (omega arith);
            up = omega arith;
            few = few;
            here = get_or-set_same x.words (p.at + 1) (word_of next) 0 (omega arith);
            blank = λ j a k. get_or-set_other x.words (p.at + 1) j (word_of next) 0 (λ q. omega arith)
                ∙ s.blank j (omega arith) k;
          })

      module _ (y : Laid) (rs : List Run) (z : Lays b (with-run x next) y rs) where
        kept : take (p.at + 1) y.words ≡ take (p.at + 1) x.words
        kept = z.before ∙ rw place-next (take-set-le (p.at + 1) x.words (p.at + 1) (word_of next) (omega arith))

        word_kept : get_or y.words p.at 0 ≡ word_of p
        word_kept = sym (get_or-take (p.at + 1) y.words p.at 0 (omega arith))
            ∙ (ap (λ ws. get_or ws p.at 0) kept ∙ (get_or-take (p.at + 1) x.words p.at 0 (omega arith) ∙ s.here))

        lays-next : Lays b x y (record { from = p.from; end = p.end } ∷ rs)
        lays-next = let i = s.inside in let w = s.low in let r = room_next in let l = z.long in record {
          long = l;
          before = sym (take-take p.at (p.at + 1) y.words (omega arith))
              ∙ (ap (take p.at) kept ∙ take-take p.at (p.at + 1) x.words (omega arith));
          behind = z.behind ∙ rw place-next (drop-set-lt (b + runs_max) x.words (p.at + 1) (word_of next)
              (omega arith));
          runs = rw (
            part-next y.words p.at (b + runs_max) (omega arith) (omega arith),
            word_kept,
            runs-word p s.up s.few,
            some,
            z.runs,
          );
        }

  -- ---- the entries of one partition

  turn-shown : (c : Cut) (p : Pending) (e : Entry) → shows c p.end e.epoch ≡ true
      → pending_turn c p e ≡ record { at = p.at; from = p.from; end = e.end }
  unfolding pending_turn
  turn-shown c p e h = rw h

  turn-next : (c : Cut) (p : Pending) (e : Entry) → shows c p.end e.epoch ≡ false
      → ltb p.from p.end ≡ true → p.at < words_max
      → pending_turn c p e ≡ record { at = p.at + 1; from = e.end; end = e.end }
  unfolding pending_turn next_of
  turn-next c p e h y k = rw (h, y, lt-ltb p.at words_max k)

  turn-same : (c : Cut) (p : Pending) (e : Entry) → shows c p.end e.epoch ≡ false
      → ltb p.from p.end ≡ false → pending_turn c p e ≡ record { at = p.at; from = e.end; end = e.end }
  unfolding pending_turn next_of
  turn-same c p e h y = rw (h, y)

  pub lays : (c : Cut) (m : ℕ) (es : List Entry) (x : Laid) → m ≤ rows_max → ends_ok m x.pending.end es ≡ true
      → Stands b (length es) x
      → Lays b x (foldl (laid_turn c) x es) (joined c x.pending.from x.pending.end es)
  unfolding joined
  lays c m [] x f h s = ends 0 x s
  lays c m (e ∷ es) x f h s =
      let p = x.pending in let o = end-ok m p.end e es h in let low = o.low in
      let g = ends_ok-le m e.end es o.rest in let n = length es in let u = s.up in
      split (shows c p.end e.epoch)
      (λ t. rw (t, turn-shown c p e t) (lays-same n x s p.from e.end (omega arith) (omega arith) _ _
      (lays c m es _ f o.rest (stands_same n x s p.from e.end (omega arith) (omega arith)))))
      (λ t. split (ltb p.from p.end)
      (λ y. let r : 2 * (p.at - b) + 1 + suc n ≤ entries_max = rw y at s.room in let i = s.inside in
      let l = s.low in rw (t, y, turn-next c p e t y (omega arith))
      (lays-next n x s y e.end (omega arith) _ _
      (lays c m es _ f o.rest (stands-next n x s y e.end (omega arith)))))
      (λ y. rw (t, y, turn-same c p e t y) (lays-same n x s e.end e.end (omega arith) (omega arith) _ _
      (lays c m es _ f o.rest (stands_same n x s e.end e.end (omega arith) (omega arith))))))
