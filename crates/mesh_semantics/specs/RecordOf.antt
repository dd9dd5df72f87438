-- The record of a program over a schedule, from its start.
use Rattle.std.specs.Prelude.{ℕ, List}
use Rattle.run_types.specs.declared.types.Event.{Event}
use Rattle.run_types.specs.declared.types.Placement.{Placement}
use Rattle.mesh_semantics.specs.Language.{Language}
use Rattle.mesh_semantics.specs.Delay.{no_delay, no_delay_on_wires}
use Rattle.mesh_semantics.specs.Record.{start, Record, record_at}

-- the record over links without wires
abbrev pub record_of : {S : Type 0} → Language S → Placement → ℕ → List Event → Record S
record_of g l q es = record_at g l q (start g l) no_delay es

-- the record over wires
abbrev pub record_on_wires : {S : Type 0} → Language S → Placement → ℕ → List Event → Record S
record_on_wires g l q es = record_at g l q (start g l) no_delay_on_wires es
