-- Records of code, computed: they have the lines of the records of terms.
use Rattle.std.proofs.Common.{◌≡◌, refl, List, [], ◌∷◌, ◌++◌}
use Rattle.run_types.specs.declared.types.Event.{Event}
use Rattle.run_types.specs.declared.types.Event.TheVariants.{Turn, Link}
use Rattle.pool_syntax.specs.Terms.{ProgramTree}
use Rattle.code_semantics.specs.declared.unit.Unit.{Unit as Code}
use Rattle.pool_compile.specs.Code.{code}
use Rattle.mesh_semantics.specs.RecordOf.{record_of}
use Rattle.mesh_of_terms.specs.Terms.{terms}
use Rattle.mesh_of_terms.proofs.Laws.{turns, two_nodes_placement, two_nodes_program, placement, program, rounds}
use Rattle.mesh_of_code.specs.Coded.{coded}

abbrev unit_of : ProgramTree → Code
unit_of p = record { names = []; classes = code p }

abbrev schedule : List Event
schedule = Turn 0 ∷ Link 0 1 ∷ Link 1 0 ∷ turns 0 2 ++ Link 0 1 ∷ Turn 0 ∷ turns 1 3 ++ Link 1 0 ∷ Turn 0 ∷ []

a_call_between_two_nodes : (record_of (coded (unit_of two_nodes_program)) two_nodes_placement 10 schedule).lines ≡ (record_of (terms two_nodes_program) two_nodes_placement 10 schedule).lines
a_call_between_two_nodes = refl

-- a program over four nodes, at two quanta
four_nodes : (record_of (coded (unit_of program)) placement 50 (rounds 500)).lines ≡ (record_of (terms program) placement 50 (rounds 500)).lines
four_nodes = refl

four_nodes_step_by_step : (record_of (coded (unit_of program)) placement 1 (rounds 500)).lines ≡ (record_of (terms program) placement 1 (rounds 500)).lines
four_nodes_step_by_step = refl
