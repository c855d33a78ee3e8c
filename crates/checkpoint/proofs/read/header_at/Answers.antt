-- Assumes nothing.
use lib.Seq.{drop-drop}
use Rattle.checkpoint.proofs.read.header_at.Goals as goal

pub returns : goal.returns
returns c = let a = c.args in rw (c.word_at.ensures, c.counts_at.ensures, drop-drop 8 a.at a.file.now)
