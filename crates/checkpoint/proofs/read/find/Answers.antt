-- Each header that is read is judged by `header_ok`, and its bodies end at `end_of`. Assumes nothing.
use Rattle.std.proofs.Common.{arith}
use Rattle.lists.proofs.Laws.Branches.{said}
use Rattle.laws.proofs.Laws.Checkpoint.{header_ok_lem}
use Rattle.checkpoint.proofs.Laws.Header.{sought-start, sought-short, sought-corrupt, sought-cut, sought-next}
use Rattle.checkpoint.proofs.read.find.Goals as goal

pub loop-i-init : goal.loop-i-init
loop-i-init c = (omega arith, rw c.no_header-h.ensures (sought-start _ _))

pub returns-then-not-header_ok : goal.returns-then-not-header_ok
returns-then-not-header_ok c = let l = c.loop-i in
    let judged = rw c.header_at-g.ensures at c.header_ok.ensures in
    sought-corrupt l.invariant.1 (omega arith) (said judged c.if-not-header_ok.true)

pub end_of-end-requires : goal.end_of-end-requires
end_of-end-requires c = let judged = rw c.header_at-g.ensures at c.header_ok.ensures in
    let ok = header_ok_lem _ _ _ _ (said judged c.if-not-header_ok.false) in
    rw c.header_at-g.ensures (ok.counts_all, omega (arith, c.well_formed))

pub loop-i-preserved : goal.loop-i-preserved
loop-i-preserved c = let l = c.loop-i in let e = rw c.header_at-g.ensures at c.end_of-end.ensures in
    let judged = rw c.header_at-g.ensures at c.header_ok.ensures in
    let ok = said judged c.if-not-header_ok.false in
    (omega arith, rw (c.header_at-g.ensures, e) (sought-next l.invariant.1 (omega arith) ok (omega arith)))

pub returns-after-loop-i : goal.returns-after-loop-i
returns-after-loop-i c = let l = c.loop-i in sought-short l.invariant.1 (omega arith)

pub returns-then-file-end : goal.returns-then-file-end
returns-then-file-end c = let l = c.loop-i in let e = rw c.header_at-g.ensures at c.end_of-end.ensures in
    let judged = rw c.header_at-g.ensures at c.header_ok.ensures in
    sought-cut l.invariant.1 (omega arith) (said judged c.if-not-header_ok.false) (omega (arith, c.if-file-end.true))
