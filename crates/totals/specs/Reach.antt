-- Some epochs, the greatest clearing among them, and the rows that it leaves. 01 "Who sees a row".
-- In order: in_reach, page_reach, the greatest clearing by one pass, cut_of, cuts_of, shows. Laws:
-- proofs/Laws/Weighs.antt.
-- Assumes nothing.
use Rattle.std.specs.Prelude.{Bool, not, ◌&&◌, cond, ℕ, ltb, leb, eqb}
use Rattle.rules.specs.Limits.{rows_max}
use Rattle.rules.specs.declared.Entry.{Entry}
use Rattle.rules.specs.declared.Partition.{Partition}
use Rattle.area.specs.Area.{base_of}
use Rattle.totals.specs.declared.Reach.{Reach}
use Rattle.totals.specs.declared.Top.{Top}
use Rattle.totals.specs.declared.Cut.{Cut}
use Rattle.totals.specs.declared.Cuts.{Cuts}

unfoldable pub in_reach : Reach → ℕ → Bool
in_reach r j = ltb r.over j && leb j r.high && not (eqb j r.gone)

-- those that a read-only transaction (01: page) at e sees
abbrev pub page_reach : ℕ → Reach
page_reach e = record { over = 0; high = e; gone = 0 }

abbrev pub no_top : Top
no_top = record { epoch = 0; edge = 0 }

-- one entry more
abbrev pub top_turn : Reach → Top → Entry → Top
top_turn r t e =
    cond (eqb e.mark 1 && in_reach r e.epoch && leb t.epoch e.epoch)
    (record { epoch = e.epoch; edge = e.end }) t

-- past every row
abbrev pub farthest : ℕ
farthest = 18446744073709551615

abbrev pub cut_of : Reach → Top → ℕ → Cut
cut_of r t base = record {
  low = cond (eqb t.epoch 0) r.over t.epoch;
  edge = cond (eqb t.epoch 0) farthest t.edge;
  high = r.high;
  gone = r.gone;
  base = base;
}

-- of partition q: t is the greatest clearing among the epochs r, newest the one among those that land
abbrev pub cuts_of : Partition → Reach → Top → Reach → Top → Cuts
cuts_of q r t lands newest =
    let base = base_of rows_max q.area in record { shown = cut_of r t base; lands = cut_of lands newest base }

-- the rows of epoch j that begin at row n
unfoldable pub shows : Cut → ℕ → ℕ → Bool
shows c n j = leb j c.high && not (eqb j c.gone) && cond (ltb n c.edge) (ltb c.low j) (leb c.low j)
