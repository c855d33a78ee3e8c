-- `count_at` meets its contract. Assumes nothing.
use Rattle.std.proofs.Common.{◌∙◌}
use Rattle.lists.proofs.Laws.Parts.{length_part}
use Rattle.checkpoint.proofs.Laws.Numbers.{number_2}
use Rattle.checkpoint.proofs.number.count_at.Goals as goal

pub returns : goal.returns
returns c = c.from_le_bytes.ensures ∙
    rw c.bytes_at.ensures (number_2 _ (length_part c.args.at 2 c.args.bytes.now c.requires))
