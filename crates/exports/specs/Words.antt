-- Replies in words, for callers in C and Rust.
-- In order: the place of a part, an answer in words, what a call is to leave. Laws: proofs/Laws/Words.antt.
-- Assumes nothing.
use Rattle.std.specs.Prelude.{◌≡◌, cond, List, ℕ, ◌+◌, ◌≤◌, eqb, length, get_or}
use Rattle.lists.specs.Lists.{part}
use Rattle.rules.specs.Limits.{rows_max}
use Rattle.rules.specs.Answers.{reply_of, first_value, second_value}
use Rattle.rules.specs.Store.{Store, no_partition}
use Rattle.rules.specs.Step.{Outcome}
use Rattle.rules.specs.declared.Answer.{Answer}
use Rattle.rules.specs.declared.Entry.{Entry}
use Rattle.rules.specs.declared.Kept.{Kept}
use Rattle.rules.specs.declared.Partitions.{Partitions}
use Rattle.area.specs.Area.{base_of}
use Rattle.store.specs.Kept.{store_of}
use Rattle.exports.specs.declared.words.Place.{Place}
use Rattle.exports.specs.declared.words.Replied.{Replied}
use Rattle.exports.specs.declared.words.Seen.{Seen}

-- ---- the part in force, as rows of those lent

abbrev pub nowhere : Place
nowhere = record { from = 0; count = 0 }

-- all rows of partition p, where a call of this number was accepted
abbrev pub place_in : ℕ → Partitions → ℕ → Place
place_in number ps p =
    let q = get_or ps.at p no_partition in
    cond (eqb number 0) (record { from = base_of rows_max q.area; count = q.rows }) nowhere

-- ---- an answer in words

abbrev pub replied_at : Kept → Place → Replied
replied_at k w =
    let reply = reply_of k.answer in
    record {
      state = k.state;
      number = reply.number;
      value = first_value reply;
      second = second_value reply;
      from = w.from;
      count = w.count;
    }

abbrev pub replied_of : Kept → Replied
replied_of k = replied_at k nowhere

abbrev pub purged_of : Kept → ℕ → Replied
purged_of k p = replied_at k (place_in (reply_of k.answer).number k.state.partitions p)

abbrev pub seen_of : Answer → Seen
seen_of a = let reply = reply_of a in
    record { number = reply.number; value = first_value reply; second = second_value reply }

-- ---- what a call is to leave

-- 01's number of step's answer, and its values
abbrev pub Numbers : Outcome → ℕ → ℕ → ℕ → Type 0
Numbers out number value second =
    let reply = reply_of out.answer in
    (number ≡ reply.number) × (value ≡ first_value reply) × (second ≡ second_value reply)

-- with the books and the lent areas at the end, which are step's store
abbrev pub Leaves : Outcome → Replied → List ℕ → List Entry → Type 0
Leaves out r rows entries =
    Numbers out r.number r.value r.second × (store_of r.state rows entries ≡ out.store)

-- and no part
abbrev pub Replies : Outcome → Replied → List ℕ → List Entry → Type 0
Replies out r rows entries = Leaves out r rows entries × (r.from ≡ 0) × (r.count ≡ 0)

-- and step's part, which lies among the rows
abbrev pub Purges : Outcome → Replied → List ℕ → List Entry → Type 0
Purges out r rows entries =
    Leaves out r rows entries × (part r.from r.count rows ≡ out.live) × (r.from + r.count ≤ length rows)

-- a scan or a save leaves these bytes; the store st that it read is step's at the end too
abbrev pub Shows : Outcome → Seen → List ℕ → Store → Type 0
Shows out r bytes st =
    Numbers out r.number r.value r.second × (bytes ≡ out.bytes) × (st ≡ out.store)
