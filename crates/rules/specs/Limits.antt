-- The numbers of 01, each named once. 01 "Words of this store", "The books", "Lots", "Refusals that come from
-- the state".
-- Laws: laws/proofs/Laws/Limits.antt.
-- Assumes nothing.
use Rattle.std.specs.Prelude.{ℕ, ◌*◌}

-- an epoch is 1 to last_epoch, and EC stops one above
unfoldable pub last_epoch : ℕ
last_epoch = 2147483647

-- a ticket is 1 to last_ticket, and the next ticket stops one above
unfoldable pub last_ticket : ℕ
last_ticket = 4294967295

-- 32 read-write transactions (01: loads) open or waiting, 32 read-only ones (01: pages), 31 deps
abbrev pub writers_max : ℕ
writers_max = 32

abbrev pub readers_max : ℕ
readers_max = 32

abbrev pub deps_max : ℕ
deps_max = 31

-- the deps of all read-write transactions, in one table
abbrev pub deps_all : ℕ
deps_all = writers_max * deps_max

-- eight partitions (01: lots) in nine areas of 512 rows and 64 entries
abbrev pub partitions_max : ℕ
partitions_max = 8

abbrev pub areas_max : ℕ
areas_max = 9

abbrev pub rows_max : ℕ
rows_max = 512

abbrev pub entries_max : ℕ
entries_max = 64
