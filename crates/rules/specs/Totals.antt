-- Standing totals, as statements: the total that the books keep for each partition (01: lot). 02 (iii).
-- In order: after every history it is what the ledger shows a page that is opened now; after every call on a sound
-- store it is the sum worked out afresh; the calls that leave it as it was.
-- Proofs: laws/proofs/Totals.antt.
-- Assumes nothing.
use Rattle.std.specs.Prelude.{◌≡◌, Bool, true, false, List, ℕ, ◌<◌, length, get_or}
use Rattle.rules.specs.Limits.{partitions_max}
use Rattle.rules.specs.Weight.{weight}
use Rattle.rules.specs.Store.{Store, total_at}
use Rattle.rules.specs.WellFormed.{sound}
use Rattle.rules.specs.Step.{Call, create, manage, append, clear, rollback, scan, purge, save, recover}
use Rattle.rules.specs.Step.{step}
use Rattle.rules.specs.Ledger.{Ledger, with_opened, reader_shows}
use Rattle.rules.specs.Claim.{Start}
use Rattle.rules.specs.Histories.{Made, store_after, ledger_after}
use Rattle.rules.specs.declared.ManagerCall.TheVariants.{Begin, Commit, BeginRo, EndRo, AdvanceLse}

-- the total that the books keep for partition p
abbrev pub kept_total : ℕ → Store → ℕ
kept_total p st = get_or st.state.totals p 0

-- what the ledger shows, of partition p, a page that is opened now at 0 and gets ticket t
abbrev pub shown_now : ℕ → ℕ → Ledger → List ℕ
shown_now t p g = reader_shows t p (with_opened 0 t g)

abbrev pub HistoryTotals : Type 0
HistoryTotals =
    (s : Start) (st : Store) → Made s st → (calls : List Call) (p : ℕ) → p < partitions_max → (t : ℕ)
    → kept_total p (store_after s st calls) ≡ weight (shown_now t p (ledger_after s st calls))

-- every call on a sound store, refused ones included; an array of the source has its length by its type
abbrev pub TotalsFresh : Type 0
TotalsFresh =
    (c : Call) (st : Store) → length st.state.partitions.at ≡ partitions_max → sound st ≡ true
    → (p : ℕ) → p < partitions_max → let end = (step c st).store in kept_total p end ≡ total_at p end

-- all but making new, commit, roll back and recovery
abbrev pub leaves_totals : Call → Bool
leaves_totals (create s) = false
leaves_totals (manage Begin) = true
leaves_totals (manage (Commit i)) = false
leaves_totals (manage (BeginRo e)) = true
leaves_totals (manage (EndRo t)) = true
leaves_totals (manage (AdvanceLse t)) = true
leaves_totals (append i p batch) = true
leaves_totals (clear i p) = true
leaves_totals (rollback i) = false
leaves_totals (scan r p lent) = true
leaves_totals (purge p) = true
leaves_totals (save e lent) = true
leaves_totals (recover file) = false

abbrev pub TotalsStay : Type 0
TotalsStay =
    (c : Call) (st : Store) → length st.state.partitions.at ≡ partitions_max → sound st ≡ true
    → leaves_totals c ≡ true → (p : ℕ) → p < partitions_max → kept_total p (step c st).store ≡ kept_total p st
