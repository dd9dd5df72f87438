use Rattle.mesh_semantics.specs.Delay.{no_delay, no_delay_on_wires}
use Rattle.mesh_semantics.specs.RecordOf.{record_of, record_on_wires}
use Rattle.mesh_of_terms.specs.Terms.{terms}
use Rattle.adequacy.proofs.RecordToRun.{as_run, as_run_on_wires, never_in_a_call, never_left_over, never_an_error}
use Rattle.adequacy.proofs.theorems.what_no_run_leads_to_no_record_shows.Goals as goal

pub returns-clause-stuck : goal.returns-clause-stuck
returns-clause-stuck c =
    λ p l q es h never.
    never_in_a_call p l q h no_delay (record_of (terms p) l q es) (as_run p l q es h) never

pub returns-clause-stuck_on_wires : goal.returns-clause-stuck_on_wires
returns-clause-stuck_on_wires c =
    λ p l q es h never.
    never_in_a_call p l q h no_delay_on_wires (record_on_wires (terms p) l q es) (as_run_on_wires p l q es h) never

pub returns-clause-unfinished : goal.returns-clause-unfinished
returns-clause-unfinished c =
    λ p l q es h never.
    never_left_over p l q h no_delay (record_of (terms p) l q es) (as_run p l q es h) never

pub returns-clause-unfinished_on_wires : goal.returns-clause-unfinished_on_wires
returns-clause-unfinished_on_wires c =
    λ p l q es h never.
    never_left_over p l q h no_delay_on_wires (record_on_wires (terms p) l q es) (as_run_on_wires p l q es h) never

pub returns-clause-faulty : goal.returns-clause-faulty
returns-clause-faulty c =
    λ p l q es h never.
    never_an_error p l q h no_delay (record_of (terms p) l q es) (as_run p l q es h) never

pub returns-clause-faulty_on_wires : goal.returns-clause-faulty_on_wires
returns-clause-faulty_on_wires c =
    λ p l q es h never.
    never_an_error p l q h no_delay_on_wires (record_on_wires (terms p) l q es) (as_run_on_wires p l q es h) never
