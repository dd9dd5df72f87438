use Rattle.mesh_semantics.specs.Delay.{no_delay, no_delay_on_wires}
use Rattle.mesh_semantics.specs.RecordOf.{record_of, record_on_wires}
use Rattle.mesh_of_terms.specs.Terms.{terms}
use Rattle.search_laws.proofs.Laws.{never_stuck_after_settling, never_unfinished_after_settling, never_faulty_after_settling}
use Rattle.adequacy.proofs.RecordToRun.{as_run, as_run_on_wires, never_in_a_call, never_left_over, never_an_error}
use Rattle.adequacy.proofs.theorems.a_whole_list_speaks_of_every_record.Goals as goal

pub returns-clause-stuck : goal.returns-clause-stuck
returns-clause-stuck c =
    λ p list l q es h less whole each.
    never_in_a_call p l q h no_delay (record_of (terms p) l q es) (as_run p l q es h) (never_stuck_after_settling p list less whole each)

pub returns-clause-stuck_on_wires : goal.returns-clause-stuck_on_wires
returns-clause-stuck_on_wires c =
    λ p list l q es h less whole each.
    never_in_a_call p l q h no_delay_on_wires (record_on_wires (terms p) l q es) (as_run_on_wires p l q es h) (never_stuck_after_settling p list less whole each)

pub returns-clause-unfinished : goal.returns-clause-unfinished
returns-clause-unfinished c =
    λ p list l q es h less whole each.
    never_left_over p l q h no_delay (record_of (terms p) l q es) (as_run p l q es h) (never_unfinished_after_settling p list less whole each)

pub returns-clause-unfinished_on_wires : goal.returns-clause-unfinished_on_wires
returns-clause-unfinished_on_wires c =
    λ p list l q es h less whole each.
    never_left_over p l q h no_delay_on_wires (record_on_wires (terms p) l q es) (as_run_on_wires p l q es h) (never_unfinished_after_settling p list less whole each)

pub returns-clause-faulty : goal.returns-clause-faulty
returns-clause-faulty c =
    λ p list l q es h less whole each.
    never_an_error p l q h no_delay (record_of (terms p) l q es) (as_run p l q es h) (never_faulty_after_settling p list less whole each)

pub returns-clause-faulty_on_wires : goal.returns-clause-faulty_on_wires
returns-clause-faulty_on_wires c =
    λ p list l q es h less whole each.
    never_an_error p l q h no_delay_on_wires (record_on_wires (terms p) l q es) (as_run_on_wires p l q es h) (never_faulty_after_settling p list less whole each)
