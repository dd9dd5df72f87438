use Rattle.run_types.specs.GivenProperties.{IsGiven}
use Rattle.mesh_semantics.proofs.Laws.{fit_of}
use Rattle.node_semantics.proofs.StartsAgree.{start_agrees, start_agrees_on_wires}
use Rattle.node_semantics.proofs.theorems.a_machine_starts_as_what_it_stands_for.Goals as goal

pub returns-clause-start : goal.returns-clause-start
returns-clause-start g c = λ h kept l fit req. start_agrees h (IsGiven kept) req l (fit_of h l fit)

pub returns-clause-on_wires : goal.returns-clause-on_wires
returns-clause-on_wires g c = λ h kept l fit req. start_agrees_on_wires h (IsGiven kept) req l (fit_of h l fit)
