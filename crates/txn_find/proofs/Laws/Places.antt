-- How many places each array of the manager has, from what a function is told of its parameters: Sized. What a default
-- record is, field by field: that of an unused place.
-- Assumes nothing.
use mathlib.Core.Path.{◌≡◌}
use mathlib.Core.List.{List}
use lib.ListN.{length}
use mir.Val.{Val}
use denote.Laws.{Is}
use denote.Struct.Declared.{row}
use Rattle.rules.specs.Limits.{writers_max, readers_max, deps_all}
use Rattle.rules.specs.declared.RwTxn.{RwTxn}
use Rattle.rules.specs.declared.RwTxns.{RwTxns}
use Rattle.rules.specs.declared.RoTxn.{RoTxn}
use Rattle.rules.specs.declared.RoTxns.{RoTxns}
use Rattle.rules.specs.declared.State.{State}
use Rattle.rules.specs.Manager.{Manager, no_rw, no_ro, manager_in}
use Rattle.rules.specs.contracts.RwTxns as rws-type
use Rattle.rules.specs.contracts.RoTxns as ros-type
use Rattle.rules.specs.contracts.State as state-type

pub writers_32 : (x : RwTxns) (vs : List Val) → Is (row rws-type.the_type) x vs → length x.at ≡ writers_max
writers_32 x vs g = g.1.1.0.1.0.1

pub readers_32 : (x : RoTxns) (vs : List Val) → Is (row ros-type.the_type) x vs → length x.at ≡ readers_max
readers_32 x vs g = g.1.1.0.1.0.1

pub record Sized (m : Manager) : Type 0 where
  pub writers : length m.writers.at ≡ writers_max
  pub deps : length m.deps ≡ deps_all
  pub readers : length m.readers.at ≡ readers_max

pub sized : (s : State) {vs : List Val} → Is (row state-type.the_type) s vs → Sized (manager_in s)
sized s g = record {
  writers = writers_32 s.writers _ g.1.1.1.0;
  deps = g.1.1.1.1.0.1.0.1;
  readers = readers_32 s.readers _ g.1.1.1.1.1.0;
}

pub default_rw : {t : RwTxn} → (t.epoch ≡ 0) × ((t.waiting ≡ 0) × (t.deps ≡ 0)) → t ≡ no_rw
default_rw z = λ i. record { epoch = z.0 i; waiting = z.1.0 i; deps = z.1.1 i }

pub default_ro : {p : RoTxn} → (p.ticket ≡ 0) × (p.epoch ≡ 0) → p ≡ no_ro
default_ro z = λ i. record { ticket = z.0 i; epoch = z.1 i }
