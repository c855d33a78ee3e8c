-- `session_line::turn::answer_line` meets its contract.
-- Assumes nothing.
use Rattle.std.proofs.Common.{◌≡◌, ℕ, ◌+◌, min, List, ◌++◌, length, take, ◌∙◌, ap, arith}
use Rattle.session_line.proofs.Laws.Turn.{tail_all, tail-whole}
use Rattle.session_line.proofs.turn.answer_line.Goals as goal

pub returns : goal.returns
returns c = let out = c.args.out.now in let w = c.min-written.result in let r = c.say-size.ensures in
    let size = rw (tail_all out w) at r.size in let bytes = rw (tail_all out w) at r.bytes in
    let used : c.min-used.result ≡ min (c.args.at.end + 1) (length c.args.input.now) =
    omega (arith, c.min-used.ensures, c.saturating_add.ensures) in
    rw (← c.min-written.ensures, ← used) record {
      cursor = rw (← size) c.seek.ensures;
      bytes = tail-whole out w c.say-size.new.out ∙ ap (λ (o : List ℕ). take w out ++ o) bytes;
      words = r.words;
    }
