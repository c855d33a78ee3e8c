-- A reply's number and values as words. Definition of a reply: rules' specs/Answers.antt.
-- Assumes nothing.
use Rattle.std.specs.Prelude.{List, ℕ, length}
use Rattle.lists.specs.Lists.{pad}
use Rattle.rules.specs.Answers.{Reply, values_max}
use Rattle.reply.specs.declared.ReplyWords.{ReplyWords}

-- the values at the front, and 0 behind them
abbrev pub words_of : Reply → ReplyWords
words_of r = record { number = r.number; values = pad values_max 0 r.values; count = length r.values }

-- accepted, with n of two words
abbrev pub accepted : List ℕ → ℕ → ReplyWords
accepted vs n = record { number = 0; values = vs; count = n }
