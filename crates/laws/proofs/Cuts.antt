-- Every cut of a file that saving could have written has its last whole checkpoint (02: round). 02 (v).
-- In order: what is left of a cut, one more checkpoint, every cut; a file of one checkpoint.
-- Statement: rules/specs/Saving.antt.
-- Assumes nothing.
use mathlib.Core.Path.{◌≡◌, refl, sym, ◌∙◌, ap}
use mathlib.Core.Bool.{true, cond}
use mathlib.Core.List.{List, [], ◌∷◌, ◌++◌, map}
use Prim.Native.Nat.{ℕ, zero, suc, ◌+◌, ◌-◌, ◌^◌, ◌≤◌, ◌<◌}
use native.Mathlib.Omega.{arith}
use lib.ListN.{length, take, drop, length-append, length-take}
use lib.Seq.{take-nil, take-append_seam, take-append-add, drop_at}
use lib.Dec.{ltb, leb}
use borrow.Author.Tests.{leb-true, leb-false, lt-ltb, le-ltb, le-leb}
use Rattle.lists.proofs.Laws.Bools.{split, and_left, and_right, and_both}
use Rattle.rules.specs.Limits.{last_epoch}
use Rattle.rules.specs.Checkpoint.{Checkpoint, no_checkpoint, encoded, header_size, body_size, rows_in, Found, found}
use Rattle.rules.specs.Checkpoint.{last_from, checkpoint_in}
use Rattle.rules.specs.Saving.{savable, in_turn, file_of, last_within, EveryCut}
use Rattle.laws.proofs.Laws.Limits.{last_epoch-fits}
use Rattle.laws.proofs.Laws.Bytes.{length-bodies, rows_in-bodies}
use Rattle.laws.proofs.Laws.Checkpoint.{header_of, bodies_of, encoded_ahead, length-header, length-encoded}
use Rattle.laws.proofs.Laws.Checkpoint.{Savable, savable-parts, epoch_in-header, counts_in-header}

-- ---- what is left of a cut

-- fewer bytes than a header
short_cut : (last n : ℕ) (c : Checkpoint) (bs : List ℕ) → length bs < header_size → last_from last n c bs ≡ found c
unfolding last_from
short_cut last zero c bs h = refl
short_cut last (suc n) c bs h = rw (lt-ltb (length bs) header_size h)

-- a header, and what is behind it
module _ (last n : ℕ) (fits : last < 2 ^ 64) (c d : Checkpoint) (s : Savable last c.epoch d) (rest : List ℕ) where
  after-header : last_from last (suc n) c (header_of d ++ rest)
      ≡ cond (ltb (length rest) (body_size (map length d.rows))) (found c)
      (last_from last n (record { epoch = d.epoch; rows = rows_in (map length d.rows) rest })
      (drop (body_size (map length d.rows)) rest))
  unfolding last_from
  after-header =
      let whole = header_of d ++ rest in
      let l = length-header d s.partitions in
      rw (
        le-ltb (length whole) header_size (omega (arith, length-append (header_of d) rest)),
        epoch_in-header last c.epoch fits d s rest,
        counts_in-header last c.epoch fits d s rest,
        s.header,
        drop_at (header_of d) rest header_size l,
      )

  -- the bodies are cut
  cut-bodies : length rest < body_size (map length d.rows) → last_from last (suc n) c (header_of d ++ rest) ≡ found c
  cut-bodies h = after-header ∙ rw (lt-ltb (length rest) (body_size (map length d.rows)) h)

-- ---- one more checkpoint

whole-one : (last n : ℕ) → last < 2 ^ 64 → (c d : Checkpoint) → Savable last c.epoch d → (more : List ℕ)
    → last_from last (suc n) c (encoded d ++ more) ≡ last_from last n d more
whole-one last n fits c d s more =
    let size = body_size (map length d.rows) in let rest = bodies_of d ++ more in
    let l : length (bodies_of d) ≡ size = length-bodies d.rows in
    let e : size ≤ length rest = omega (arith, length-append (bodies_of d) more) in
    rw (encoded_ahead d more) (after-header last n fits c d s rest
    ∙ rw (
      le-ltb (length rest) size e,
      drop_at (bodies_of d) more size l,
      rows_in-bodies d.rows more s.words,
    ))

-- ---- every cut

take_past : (xs ys : List ℕ) (n : ℕ) → length xs ≤ n → take n (xs ++ ys) ≡ xs ++ take (n - length xs) ys
take_past xs ys n h = let e : n ≡ length xs + (n - length xs) = omega arith in
    ap (λ k. take k (xs ++ ys)) e ∙ take-append-add xs ys (n - length xs)

-- n bytes of a checkpoint d and what is behind it
module _ (last : ℕ) (fits : last < 2 ^ 64) (c d : Checkpoint) (s : Savable last c.epoch d) (more : List ℕ)
    (n : ℕ) where
  -- its header or its bodies are cut
  cut-one : (fuel : ℕ) → n < length (encoded d) → last_from last fuel c (take n (encoded d ++ more)) ≡ found c
  unfolding last_from
  cut-one zero h = refl
  cut-one (suc fuel) h = split (leb header_size n)
      (λ t. let g = leb-true header_size n t in let l = length-header d s.partitions in
      let rest = take (n - length (header_of d)) (bodies_of d ++ more) in
      let e = length-encoded d s.partitions in
      rw (encoded_ahead d more, take_past (header_of d) (bodies_of d ++ more) n (omega arith))
      (cut-bodies last fuel fits c d s rest
      (omega (arith, length-take (n - length (header_of d)) (bodies_of d ++ more)))))
      (λ f. let g = leb-false header_size n f in
      short_cut last (suc fuel) c (take n (encoded d ++ more)) (omega (arith, length-take n (encoded d ++ more))))

  -- it is whole, and what is behind it is a cut too
  whole-cut : (fuel : ℕ) (x : Found) → length (encoded d) ≤ n → length (take n (encoded d ++ more)) ≤ fuel
      → ((k : ℕ) → length (take (n - length (encoded d)) more) ≤ k
      → last_from last k d (take (n - length (encoded d)) more) ≡ x)
      → last_from last fuel c (take n (encoded d ++ more)) ≡ x
  whole-cut fuel x h enough next = let e = take_past (encoded d) more n h in
      rw e (go fuel (take (n - length (encoded d)) more) next (rw e at enough))
    where
      go : (fuel : ℕ) (rest : List ℕ) → ((k : ℕ) → length rest ≤ k → last_from last k d rest ≡ x)
          → length (encoded d ++ rest) ≤ fuel → last_from last fuel c (encoded d ++ rest) ≡ x
      go zero rest next g = let l = length-encoded d s.partitions in
          absurd (omega (arith, length-append (encoded d) rest))
      go (suc k) rest next g = let l = length-encoded d s.partitions in
          whole-one last k fits c d s rest ∙ next k (omega (arith, length-append (encoded d) rest))

from_cut : (last : ℕ) → last < 2 ^ 64 → (cs : List Checkpoint) (c : Checkpoint) → in_turn last c.epoch cs ≡ true
    → (n fuel : ℕ) → length (take n (file_of cs)) ≤ fuel
    → last_from last fuel c (take n (file_of cs)) ≡ found (last_within n c cs)
unfolding last_within
from_cut last fits [] c t n fuel h = rw (take-nil {A = ℕ} n) (short_cut last fuel c [] (omega arith))
from_cut last fits (d ∷ ds) c t n fuel h =
    let s = savable-parts last c.epoch d (and_left (savable last c.epoch d) (in_turn last d.epoch ds) t) in
    let later = and_right (savable last c.epoch d) (in_turn last d.epoch ds) t in
    let size = length (encoded d) in
    split (leb size n)
    (λ y. rw y (whole-cut last fits c d s (file_of ds) n fuel (found (last_within (n - size) d ds))
    (leb-true size n y) h (from_cut last fits ds d later (n - size))))
    (λ f. rw f (cut-one last fits c d s (file_of ds) n fuel (leb-false size n f)))

pub every-cut : EveryCut
every-cut last fits cs t n = from_cut last fits cs no_checkpoint t n (length (take n (file_of cs))) (omega arith)

-- ---- a file of one checkpoint

pub last_fits : last_epoch < 2 ^ 64
last_fits = omega (arith, last_epoch-fits)

pub encoded-saved : (c : Checkpoint) → savable last_epoch 0 c ≡ true → checkpoint_in last_epoch (encoded c) ≡ found c
unfolding last_within
encoded-saved c h =
    let size = length (encoded c) in
    let file : take size (file_of (c ∷ [])) ≡ encoded c = take-append_seam (encoded c) [] in
    ap (checkpoint_in last_epoch) (sym file)
    ∙ every-cut last_epoch last_fits (c ∷ []) (and_both (savable last_epoch 0 c) true h refl) size
    ∙ rw (le-leb size size (omega arith))
