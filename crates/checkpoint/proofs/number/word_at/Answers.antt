-- `word_at` meets its contract. Assumes nothing.
use Rattle.std.proofs.Common.{◌∙◌}
use Rattle.lists.proofs.Laws.Parts.{length_part}
use Rattle.checkpoint.proofs.Laws.Numbers.{number_8}
use Rattle.checkpoint.proofs.number.word_at.Goals as goal

pub returns : goal.returns
returns c = c.from_le_bytes.ensures ∙
    rw c.bytes_at.ensures (number_8 _ (length_part c.args.at 8 c.args.bytes.now c.requires))
