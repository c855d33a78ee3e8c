-- Assumes nothing.
use Rattle.std.proofs.Common.{arith}
use Rattle.rules.specs.Limits.{deps_max}
use Rattle.txn_close.proofs.Laws.Rows.{row-filled}
use Rattle.txn_close.proofs.close.zero_row.Goals as goal

pub returns : goal.returns
returns c = row-filled c.args.from deps_max c.args.deps.now _ (omega (arith, c.requires.1))
    (c.fill.ensures.after (λ y h. h))
