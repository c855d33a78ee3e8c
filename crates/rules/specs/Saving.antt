-- What saving and recovery come to, as statements. 02 (v).
-- In order: checkpoints (02: rounds) that saving could have written, one after the other; every cut of their file; a
-- save after a history; recovery of what was saved.
-- Proofs: laws/proofs/Cuts.antt (every cut), laws/proofs/Saving.antt, laws/proofs/Recovers.antt.
-- Assumes nothing.
use Rattle.std.specs.Prelude.{◌≡◌, Bool, true, ◌&&◌, cond, List, [], ◌∷◌, ◌++◌, map, ℕ, ◌+◌, ◌-◌, ◌^◌, ◌≤◌, ◌<◌}
use Rattle.std.specs.Prelude.{length, take, drop, get_or, ltb, leb, eqb}
use Rattle.lists.specs.Lists.{gather, keep_if, all_of}
use Rattle.rules.specs.Limits.{last_epoch, partitions_max}
use Rattle.rules.specs.Bitmap.{bytes_for}
use Rattle.rules.specs.Checkpoint.{Checkpoint, no_checkpoint, encoded, header_size, body_size, header_ok, found}
use Rattle.rules.specs.Checkpoint.{checkpoint_in}
use Rattle.rules.specs.Store.{Store, manager_of, partition_at, created_store}
use Rattle.rules.specs.Answers.{accepted}
use Rattle.rules.specs.WellFormed.{lengths_ok}
use Rattle.rules.specs.Recovery.{checkpoint_at, recovered_store}
use Rattle.rules.specs.Step.{Call, save, recover, begin_ro, step}
use Rattle.rules.specs.Ledger.{Ledger, lines_at, with_opened, shows_by, reader_shows}
use Rattle.rules.specs.Claim.{words_scanned, Start, of_file, first_ledger}
use Rattle.rules.specs.Histories.{Made, store_after, ledger_after}
use Rattle.rules.specs.Totals.{shown_now}
use Rattle.rules.specs.declared.Reader.TheVariants.{Ro}
use Rattle.rules.specs.declared.Answer.TheVariants.{Saved, Recovered}

-- ---- what saving could have written

-- a row is a word of 64 bits
abbrev pub is_word : ℕ → Bool
is_word w = ltb w (2 ^ 64)

-- after a checkpoint of epoch `before`, where `last` is the greatest epoch: eight partitions (01: lots) of such rows,
-- and a header that may stand there
abbrev pub savable : ℕ → ℕ → Checkpoint → Bool
savable last before c =
    eqb (length c.rows) partitions_max && all_of (all_of is_word) c.rows
    && header_ok last before c.epoch (map length c.rows)

-- one after the other, L never falling
abbrev pub in_turn : ℕ → ℕ → List Checkpoint → Bool
in_turn last before [] = true
in_turn last before (c ∷ cs) = savable last before c && in_turn last c.epoch cs

abbrev pub file_of : List Checkpoint → List ℕ
file_of cs = gather encoded cs

-- ---- every cut: recovery of the first n bytes is that of the last checkpoint that is whole within n, or the store
-- made new at 1

-- the last that is whole within n bytes, or c
unfoldable pub last_within : ℕ → Checkpoint → List Checkpoint → Checkpoint
last_within n c [] = c
last_within n c (d ∷ ds) =
    let size = length (encoded d) in cond (leb size n) (last_within (n - size) d ds) c

abbrev pub EveryCut : Type 0
EveryCut =
    (last : ℕ) → last < 2 ^ 64 → (cs : List Checkpoint) → in_turn last 0 cs ≡ true → (n : ℕ)
    → checkpoint_in last (take n (file_of cs)) ≡ found (last_within n no_checkpoint cs)

abbrev pub RecoversCut : Type 0
RecoversCut =
    (cs : List Checkpoint) → in_turn last_epoch 0 cs ≡ true → (n : ℕ) (st : Store) → lengths_ok st ≡ true
    → let out = step (recover (take n (file_of cs))) st in
    (out.answer ≡ Recovered) × (out.store ≡ recovered_store (last_within n no_checkpoint cs) st)

abbrev pub RecoversNone : Type 0
RecoversNone = (st : Store) → lengths_ok st ≡ true → recovered_store no_checkpoint st ≡ created_store 1 st

-- ---- a save after a history

-- what the ledger shows, of partition p, a page at e, where 0 is epoch 0: by the loads committed with an epoch of at
-- most e
abbrev pub page_shows : ℕ → ℕ → Ledger → List ℕ
page_shows e p g = shows_by (keep_if (λ c. leb c e) g.committed) (lines_at p g)

-- a page that is opened at another epoch than 0, which means LCE there
abbrev pub PageAt : Type 0
PageAt = (e t p : ℕ) (g : Ledger) → 0 < e → reader_shows t p (with_opened e t g) ≡ page_shows e p g

-- c is written at the front of the output and may follow any checkpoint of no later epoch; its rows are what the ledger
-- shows a page at e
pub record SavesShown (e : ℕ) (lent : List ℕ) (c : Checkpoint) (g : Ledger) (at : Store) : Type 0 where
  pub answer : (step (save e lent) at).answer ≡ Saved (length (encoded c))
  pub written : (step (save e lent) at).bytes ≡ encoded c ++ drop (length (encoded c)) lent
  pub size : length (encoded c) ≡ header_size + body_size (map length c.rows)
  pub ok : (before : ℕ) → before ≤ e → savable last_epoch before c ≡ true
  pub shown : (p : ℕ) → p < partitions_max → get_or c.rows p [] ≡ page_shows e p g

-- a row that is lent has 64 bits by its type
abbrev pub HistorySaves : Type 0
HistorySaves =
    (s : Start) (st : Store) → Made s st → (calls : List Call) (e : ℕ) (lent : List ℕ)
    → let g = ledger_after s st calls in let at = store_after s st calls in
    all_of is_word at.rows ≡ true → accepted (step (save e lent) at).answer ≡ true
    → SavesShown e lent (checkpoint_at e at) g at

-- ---- recovery of what was saved, on any store of the right lengths: a page at LCE shows what the page at e showed

pub record RecoversShown (e : ℕ) (c : Checkpoint) (g : Ledger) (st : Store) : Type 0 where
  pub answer : (step (recover (encoded c)) st).answer ≡ Recovered
  pub lce : (manager_of (step (recover (encoded c)) st).store).clock.lce ≡ e
  pub shown : (t p : ℕ) → p < partitions_max → shown_now t p (first_ledger (of_file (encoded c))) ≡ page_shows e p g
  pub scans : (p : ℕ) → p < partitions_max → (lent : List ℕ)
      → let opened = (step (begin_ro 0) (step (recover (encoded c)) st).store).store in
      bytes_for (partition_at p opened).rows ≤ length lent → words_scanned (Ro 1) p lent opened ≡ page_shows e p g

abbrev pub HistoryRecovers : Type 0
HistoryRecovers =
    (s : Start) (st : Store) → Made s st → (calls : List Call) (e : ℕ) (lent : List ℕ)
    → let g = ledger_after s st calls in let at = store_after s st calls in
    all_of is_word at.rows ≡ true → accepted (step (save e lent) at).answer ≡ true
    → (st' : Store) → lengths_ok st' ≡ true → RecoversShown e (checkpoint_at e at) g st'
