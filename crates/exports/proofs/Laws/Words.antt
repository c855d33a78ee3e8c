-- What a call is to leave, of what the store's call left. Definitions: specs/Words.antt.
-- In order: a call with no part, a purge, a scan or a save.
-- Assumes nothing.
use mathlib.Core.Path.{◌≡◌, refl, sym, ◌∙◌, ap, subst}
use mathlib.Core.Bool.{true}
use mathlib.Core.List.{List}
use Prim.Native.Nat.{ℕ, ◌+◌, ◌≤◌, ◌<◌}
use native.Mathlib.Omega.{arith}
use lib.ListN.{length}
use borrow.Author.Tests.{lt-ltb}
use Rattle.lists.specs.Lists.{part}
use Rattle.lists.proofs.Laws.Bools.{split}
use Rattle.rules.specs.Limits.{partitions_max, areas_max}
use Rattle.rules.specs.Answers.{accepted, reply_of}
use Rattle.rules.specs.Store.{Store, partition_at, rows_at}
use Rattle.rules.specs.WellFormed.{sound}
use Rattle.rules.specs.Step.{Outcome, step, purge}
use Rattle.rules.specs.declared.Answer.{Answer}
use Rattle.rules.specs.declared.Entry.{Entry}
use Rattle.rules.specs.declared.Kept.{Kept}
use Rattle.laws.proofs.Laws.Calls.{purge-passed}
use Rattle.laws.proofs.Laws.Live.{purge-live}
use Rattle.laws.proofs.Laws.Sound.{sound-step, refused-same}
use Rattle.laws.proofs.Laws.WellFormed.{StoreOk}
use Rattle.laws.proofs.Laws.Totals.{sound-facts}
use Rattle.store.specs.Kept.{store_of, Left, Showed}
use Rattle.exports.specs.Words.{nowhere, place_in, replied_at, replied_of, purged_of, seen_of, Leaves, Replies, Purges}
use Rattle.exports.specs.Words.{Shows}
use Rattle.exports.specs.declared.words.Place.{Place}

leaves : (out : Outcome) (r : Kept) (w : Place) (rows : List ℕ) (entries : List Entry) → Left out r rows entries
    → Leaves out (replied_at r w) rows entries
leaves out r w rows entries left = ((rw left.0, rw left.0, rw left.0), left.1)

pub replies : (out : Outcome) (r : Kept) (rows : List ℕ) (entries : List Entry) → Left out r rows entries
    → Replies out (replied_of r) rows entries
replies out r rows entries left = (leaves out r nowhere rows entries left, refl, refl)

-- ---- a purge

passed : (p : ℕ) (st : Store) → accepted (step (purge p) st).answer ≡ true
    → (sound st ≡ true) × (p < partitions_max)
unfolding step
passed p st t = purge-passed p st t

module _ (st : Store) (eight : length st.state.partitions.at ≡ partitions_max) (r : Kept) (rows : List ℕ)
    (entries : List Entry) (p : ℕ) (left : Left (step (purge p) st) r rows entries) where
  abbrev place : Place
  place = place_in (reply_of r.answer).number r.state.partitions p

  placed : (part place.from place.count rows ≡ (step (purge p) st).live)
      × (place.from + place.count ≤ length rows)
  placed = split (accepted (step (purge p) st).answer)
      (λ t. let h = passed p st t in let ok = sound-facts st eight h.0 in
      let after = subst StoreOk (sym left.1) (sound-step (purge p) st ok).shape in
      let own = after.partition p h.1 in let n = own.row_count in let f = own.spans-ok.rows_fit in
      let l = after.rows-length in let i = after.areas.inside p h.1 in
      rw (left.0, t, lt-ltb (partition_at p (store_of r.state rows entries)).area areas_max i)
      (ap (rows_at p) left.1 ∙ sym (purge-live p st ok h.1), omega arith))
      (λ f. rw (left.0, f) (sym (refused-same (purge p) st f).live, omega arith))

  pub purges : Purges (step (purge p) st) (purged_of r p) rows entries
  purges = (leaves (step (purge p) st) r place rows entries left, placed.0, placed.1)

-- ---- a scan

pub shows : (out : Outcome) (a : Answer) (bytes : List ℕ) (st : Store) → Showed out a bytes st
    → Shows out (seen_of a) bytes st
shows out a bytes st showed = ((rw showed.0, rw showed.0, rw showed.0), showed.1, showed.2)
