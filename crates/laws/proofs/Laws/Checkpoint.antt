-- Checkpoints (02: rounds) as bytes. 02 (v).
-- In order: encoded as a header and bodies; a header that may stand there; what was encoded is read back; what a file
-- has is within the limits.
-- Definitions: rules/specs/Checkpoint.antt.
-- Assumes nothing.
use mathlib.Core.Path.{◌≡◌, refl, sym, ◌∙◌}
use mathlib.Core.Bool.{Bool, true, false, not, ◌||◌, cond}
use mathlib.Core.List.{List, [], ◌∷◌, ◌++◌, map, append_assoc}
use Prim.Native.Nat.{ℕ, zero, suc, ◌+◌, ◌^◌, ◌≤◌, ◌<◌}
use native.Mathlib.Omega.{arith}
use lib.ListN.{length, drop, get_or, length-append, length-map}
use lib.Seq.{take_at, drop_at}
use lib.Dec.{ltb, leb, eqb}
use borrow.Author.Tests.{leb-true, ltb-true, eqb-true, not-false}
use Rattle.lists.specs.Lists.{gather, all_of}
use Rattle.lists.proofs.Laws.All.{All, All_imp, All-all_of, get_d-All}
use Rattle.lists.proofs.Laws.Bools.{and_left, and_right, or_cases}
use Rattle.lists.proofs.Laws.Parts.{get_d-pad}
use Rattle.lists.proofs.Laws.Tests.{and-three, and-four}
use Rattle.rules.specs.Limits.{last_epoch, rows_max, partitions_max}
use Rattle.rules.specs.Checkpoint.{bytes_of, Checkpoint, no_checkpoint, encoded, header_size, sum_of, epoch_in}
use Rattle.rules.specs.Checkpoint.{counts_in}
use Rattle.rules.specs.Checkpoint.{body_size, rows_in, header_ok, Found, found, corrupt, last_from, checkpoint_in}
use Rattle.rules.specs.Checkpoint.{checkpoint_of, saved_in}
use Rattle.rules.specs.Saving.{is_word, savable}
use Rattle.laws.proofs.Laws.Bytes.{length-bytes_of, Fits, number_of-bytes_of, length-numbers_in, length-numbers}
use Rattle.laws.proofs.Laws.Bytes.{numbers_in-bytes, length-bodies, length-rows_in, rows_in-count}

-- ---- encoded: a header, then the bodies

abbrev pub header_of : Checkpoint → List ℕ
header_of c = bytes_of 8 c.epoch ++ gather (bytes_of 2) (map length c.rows)

abbrev pub bodies_of : Checkpoint → List ℕ
bodies_of c = gather (gather (bytes_of 8)) c.rows

pub encoded-parts : (c : Checkpoint) → encoded c ≡ header_of c ++ bodies_of c
unfolding encoded
encoded-parts c = rw (counts c.rows)
    (sym (append_assoc (bytes_of 8 c.epoch) (gather (bytes_of 2) (map length c.rows)) (bodies_of c)))
  where
    counts : (rows : List (List ℕ)) → gather (λ ws. bytes_of 2 (length ws)) rows ≡ gather (bytes_of 2) (map length rows)
    counts [] = refl
    counts (ws ∷ rows) = rw (counts rows)

pub encoded_ahead : (d : Checkpoint) (more : List ℕ) → encoded d ++ more ≡ header_of d ++ (bodies_of d ++ more)
encoded_ahead d more = rw (encoded-parts d) (append_assoc (header_of d) (bodies_of d) more)

module _ (c : Checkpoint) (eight : length c.rows ≡ partitions_max) where
  counts-eight : length (map length c.rows) ≡ partitions_max
  counts-eight = length-map c.rows length ∙ eight

  pub length-header : length (header_of c) ≡ header_size
  length-header = let counts = map length c.rows in
      rw (
        length-append (bytes_of 8 c.epoch) (gather (bytes_of 2) counts),
        length-bytes_of 8 c.epoch,
        length-numbers 2 counts,
        counts-eight,
      )

  pub length-encoded : length (encoded c) ≡ header_size + body_size (map length c.rows)
  length-encoded = rw (encoded-parts c, length-append (header_of c) (bodies_of c), length-header, length-bodies c.rows)

-- ---- a header that may stand there

sum-at : (xs : List ℕ) (p : ℕ) → get_or xs p 0 ≤ sum_of xs
sum-at [] p = omega arith
sum-at (x ∷ xs) zero = omega arith
sum-at (x ∷ xs) (suc p) = let ih = sum-at xs p in omega arith

limit-at : (m : ℕ) (xs : List ℕ) → all_of (λ n. leb n m) xs ≡ true → (p : ℕ) → get_or xs p 0 ≤ m
limit-at m [] h p = omega arith
limit-at m (x ∷ xs) h zero = leb-true x m (and_left (leb x m) (all_of (λ n. leb n m) xs) h)
limit-at m (x ∷ xs) h (suc p) = limit-at m xs (and_right (leb x m) (all_of (λ n. leb n m) xs) h) p

-- header_ok by its parts
pub record HeaderOk (last before e : ℕ) (counts : List ℕ) : Type 0 where
  pub counts_all : all_of (λ n. leb n rows_max) counts ≡ true
  pub counts-fit : (p : ℕ) → get_or counts p 0 ≤ rows_max
  pub epoch-fits : e ≤ last
  pub epoch-rises : before ≤ e
  pub none : e ≡ 0 → sum_of counts ≡ 0

pub header_ok_lem : (last before e : ℕ) (counts : List ℕ) → header_ok last before e counts ≡ true
    → HeaderOk last before e counts
unfolding header_ok
header_ok_lem last before e counts h =
    let any = ltb 0 e || eqb (sum_of counts) 0 in
    let t = and-four (all_of (λ n. leb n rows_max) counts) (leb e last) (leb before e) any h in
    record {
      counts_all = t.0;
      counts-fit = limit-at rows_max counts t.0;
      epoch-fits = leb-true e last t.1;
      epoch-rises = leb-true before e t.2;
      none = λ z. or_cases (ltb 0 e) (eqb (sum_of counts) 0) t.3 (λ l. let g = ltb-true 0 e l in absurd (omega arith))
          (λ _ q. eqb-true (sum_of counts) 0 q);
    }

-- ---- what was encoded is read back, with what is behind it

-- what may be saved after a checkpoint of epoch `before`, by its parts
pub record Savable (last before : ℕ) (c : Checkpoint) : Type 0 where
  pub partitions : length c.rows ≡ partitions_max
  pub words : All (All (Fits 8)) c.rows
  pub header : header_ok last before c.epoch (map length c.rows) ≡ true

pub savable-parts : (last before : ℕ) (c : Checkpoint) → savable last before c ≡ true → Savable last before c
savable-parts last before c h =
    let header = header_ok last before c.epoch (map length c.rows) in
    let t = and-three (eqb (length c.rows) partitions_max) (all_of (all_of is_word) c.rows) header h in
    record {
      partitions = eqb-true (length c.rows) partitions_max t.0;
      words = All_imp (λ ws. all_of is_word ws ≡ true) (All (Fits 8))
          (λ ws w. All_imp (λ x. is_word x ≡ true) (Fits 8) (λ x. ltb-true x (2 ^ 64)) ws (All-all_of is_word ws w))
          c.rows (All-all_of (all_of is_word) c.rows t.1);
      header = t.2;
    }

module _ (last before : ℕ) (fits : last < 2 ^ 64) (c : Checkpoint) (s : Savable last before c) (rest : List ℕ) where
  header-parts : HeaderOk last before c.epoch (map length c.rows)
  header-parts = header_ok_lem last before c.epoch (map length c.rows) s.header

  pub epoch_in-header : epoch_in (header_of c ++ rest) ≡ c.epoch
  epoch_in-header = let h = header-parts in
      let e = bytes_of 8 c.epoch in let counts = gather (bytes_of 2) (map length c.rows) in
      rw (append_assoc e counts rest, take_at e (counts ++ rest) 8 (length-bytes_of 8 c.epoch))
      (number_of-bytes_of 8 c.epoch (omega arith))

  pub counts_in-header : counts_in (header_of c ++ rest) ≡ map length c.rows
  counts_in-header = let e = bytes_of 8 c.epoch in let counts = map length c.rows in
      let small : All (Fits 2) counts =
      get_d-All (Fits 2) 0 counts (λ i _. let h = header-parts.counts-fit i in omega arith) in
      rw (
        append_assoc e (gather (bytes_of 2) counts) rest,
        drop_at e (gather (bytes_of 2) counts ++ rest) 8 (length-bytes_of 8 c.epoch),
      )
      (rw (counts-eight c s.partitions) at (numbers_in-bytes 2 counts rest small))

-- ---- what a file has

-- a checkpoint of eight partitions (01: lots) within the limits, without rows where L is 0
pub record CheckpointOk (last : ℕ) (c : Checkpoint) : Type 0 where
  pub partitions : length c.rows ≡ partitions_max
  pub epoch-fits : c.epoch ≤ last
  pub rows_fit : (p : ℕ) → length (get_or c.rows p []) ≤ rows_max
  pub none : c.epoch ≡ 0 → (p : ℕ) → get_or c.rows p [] ≡ []

length-nil : {A : Type 0} (xs : List A) → length xs ≡ 0 → xs ≡ []
length-nil [] h = refl
length-nil (x ∷ xs) h = absurd (omega arith)

header-rows : (last before e : ℕ) (counts bs : List ℕ) → length counts ≡ partitions_max → HeaderOk last before e counts
    → CheckpointOk last (record { epoch = e; rows = rows_in counts bs })
header-rows last before e counts bs len h = record {
  partitions = length-rows_in counts bs ∙ len;
  epoch-fits = h.epoch-fits;
  rows_fit = λ p. rw (rows_in-count counts bs p) (h.counts-fit p);
  none = λ z p. let s = h.none z in let g = sum-at counts p in
      length-nil (get_or (rows_in counts bs) p []) (rows_in-count counts bs p ∙ omega arith);
}

none-at : (p : ℕ) → get_or no_checkpoint.rows p [] ≡ []
none-at p = get_d-pad {A = List ℕ} partitions_max [] [] p

pub none-ok : (last : ℕ) → CheckpointOk last no_checkpoint
none-ok last = record {
  partitions = refl;
  epoch-fits = omega arith;
  rows_fit = λ p. rw (none-at p) (omega arith);
  none = λ _ p. none-at p;
}

by_cond : {A : Type 0} (P : A → Type 0) (b : Bool) (x y : A) → (b ≡ true → P x) → (b ≡ false → P y) → P (cond b x y)
by_cond P true x y t f = t refl
by_cond P false x y t f = f refl

last_from-ok : (last n : ℕ) (c : Checkpoint) (bs : List ℕ) → CheckpointOk last c
    → CheckpointOk last (checkpoint_of (last_from last n c bs))
unfolding last_from
last_from-ok last zero c bs h = h
last_from-ok last (suc n) c bs h =
    let counts = counts_in bs in let body = drop header_size bs in
    let ok = header_ok last c.epoch (epoch_in bs) counts in
    let next : Checkpoint = record { epoch = epoch_in bs; rows = rows_in counts body } in
    let more = last_from last n next (drop (body_size counts) body) in
    let Ok : Found → Type 0 = λ x. CheckpointOk last (checkpoint_of x) in
    let whole = cond (ltb (length body) (body_size counts)) (found c) more in
    by_cond Ok (ltb (length bs) header_size) (found c) (cond (not ok) corrupt whole) (λ _. h)
    (λ _. by_cond Ok (not ok) corrupt whole (λ _. none-ok last)
    (λ t. by_cond Ok (ltb (length body) (body_size counts)) (found c) more (λ _. h)
    (λ _. last_from-ok last n next (drop (body_size counts) body)
    (header-rows last c.epoch (epoch_in bs) counts body (length-numbers_in 2 partitions_max (drop 8 bs))
    (header_ok_lem last c.epoch (epoch_in bs) counts (not-false ok t))))))

pub checkpoint-ok : (last : ℕ) (file : List ℕ) → CheckpointOk last (checkpoint_of (checkpoint_in last file))
checkpoint-ok last file = last_from-ok last (length file) no_checkpoint file (none-ok last)

pub saved-ok : (file : List ℕ) → CheckpointOk last_epoch (saved_in file)
saved-ok file = checkpoint-ok last_epoch file
