use Rattle.mesh_semantics.specs.Delay.{no_delay, no_delay_on_wires}
use Rattle.mesh_semantics.specs.RecordOf.{record_of, record_on_wires}
use Rattle.mesh_of_terms.specs.Terms.{terms}
use Rattle.search_laws.proofs.Laws.{never_dead_after_settling}
use Rattle.adequacy.proofs.RecordToRun.{as_run, as_run_on_wires, never_to_dead, never_a_cycle}
use Rattle.adequacy.proofs.theorems.where_nobody_dies_no_record_has_a_cycle.Goals as goal

pub returns-clause-dead : goal.returns-clause-dead
returns-clause-dead c =
    λ p l q es h none.
    never_to_dead p l q h no_delay (record_of (terms p) l q es) (as_run p l q es h) none

pub returns-clause-dead_on_wires : goal.returns-clause-dead_on_wires
returns-clause-dead_on_wires c =
    λ p l q es h none.
    never_to_dead p l q h no_delay_on_wires (record_on_wires (terms p) l q es) (as_run_on_wires p l q es h) none

pub returns-clause-cycle : goal.returns-clause-cycle
returns-clause-cycle c =
    λ p l q es h none.
    never_a_cycle p l q h no_delay (record_of (terms p) l q es) (as_run p l q es h) none

pub returns-clause-cycle_on_wires : goal.returns-clause-cycle_on_wires
returns-clause-cycle_on_wires c =
    λ p l q es h none.
    never_a_cycle p l q h no_delay_on_wires (record_on_wires (terms p) l q es) (as_run_on_wires p l q es h) none

pub returns-clause-listed : goal.returns-clause-listed
returns-clause-listed c =
    λ p list l q es h less whole each.
    never_to_dead p l q h no_delay (record_of (terms p) l q es) (as_run p l q es h) (never_dead_after_settling p list less whole each)

pub returns-clause-listed_on_wires : goal.returns-clause-listed_on_wires
returns-clause-listed_on_wires c =
    λ p list l q es h less whole each.
    never_to_dead p l q h no_delay_on_wires (record_on_wires (terms p) l q es) (as_run_on_wires p l q es h) (never_dead_after_settling p list less whole each)
