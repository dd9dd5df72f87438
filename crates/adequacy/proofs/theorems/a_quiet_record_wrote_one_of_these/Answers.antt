use Rattle.mesh_semantics.specs.Delay.{no_delay, no_delay_on_wires}
use Rattle.mesh_semantics.specs.Record.{labels}
use Rattle.mesh_semantics.specs.RecordOf.{record_of, record_on_wires}
use Rattle.mesh_of_terms.specs.Terms.{terms, plain}
use Rattle.reachability.specs.Outcomes.{written}
use Rattle.search_laws.proofs.Laws.{nothing_else_is_written, nothing_else_whatever_the_names}
use Rattle.adequacy.proofs.RecordToRun.{as_run, as_run_on_wires, quiet_ends}
use Rattle.adequacy.proofs.theorems.a_quiet_record_wrote_one_of_these.Goals as goal

pub returns-clause-nothing_else : goal.returns-clause-nothing_else
returns-clause-nothing_else c =
    λ p s list vs l q es h less whole all quiet.
    nothing_else_is_written p s list vs less whole all (written (labels (record_of (terms p) l q es).lines)) (plain (record_of (terms p) l q es).last)
    (quiet_ends p l q h no_delay (record_of (terms p) l q es) (as_run p l q es h) quiet)

pub returns-clause-whatever_the_names : goal.returns-clause-whatever_the_names
returns-clause-whatever_the_names c =
    λ p s list vs l q es h less whole all plain_names quiet.
    nothing_else_whatever_the_names p s list vs less whole all plain_names (written (labels (record_of (terms p) l q es).lines)) (plain (record_of (terms p) l q es).last)
    (quiet_ends p l q h no_delay (record_of (terms p) l q es) (as_run p l q es h) quiet)

pub returns-clause-nothing_else_on_wires : goal.returns-clause-nothing_else_on_wires
returns-clause-nothing_else_on_wires c =
    λ p s list vs l q es h less whole all quiet.
    nothing_else_is_written p s list vs less whole all (written (labels (record_on_wires (terms p) l q es).lines)) (plain (record_on_wires (terms p) l q es).last)
    (quiet_ends p l q h no_delay_on_wires (record_on_wires (terms p) l q es) (as_run_on_wires p l q es h) quiet)

pub returns-clause-whatever_the_names_on_wires : goal.returns-clause-whatever_the_names_on_wires
returns-clause-whatever_the_names_on_wires c =
    λ p s list vs l q es h less whole all plain_names quiet.
    nothing_else_whatever_the_names p s list vs less whole all plain_names (written (labels (record_on_wires (terms p) l q es).lines)) (plain (record_on_wires (terms p) l q es).last)
    (quiet_ends p l q h no_delay_on_wires (record_on_wires (terms p) l q es) (as_run_on_wires p l q es h) quiet)

pub returns-clause-is_an_end : goal.returns-clause-is_an_end
returns-clause-is_an_end c = λ p l q es h quiet. quiet_ends p l q h no_delay (record_of (terms p) l q es) (as_run p l q es h) quiet

pub returns-clause-is_an_end_on_wires : goal.returns-clause-is_an_end_on_wires
returns-clause-is_an_end_on_wires c =
    λ p l q es h quiet.
    quiet_ends p l q h no_delay_on_wires (record_on_wires (terms p) l q es) (as_run_on_wires p l q es h) quiet
