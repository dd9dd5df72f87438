use Rattle.run_types.specs.GivenProperties.{IsGiven}
use Rattle.node_semantics.proofs.MachineStandings.{object_stands, nothing_stands}
use Rattle.node_semantics.proofs.theorems.a_machine_says_where_an_object_stands.Goals as goal

pub returns-clause-there : goal.returns-clause-there
returns-clause-there g z = λ h kept l m c d o x law req sound st there. object_stands h (IsGiven kept) law req l m c d sound st o x there

pub returns-clause-absent : goal.returns-clause-absent
returns-clause-absent g z = λ h l m c d o st absent. nothing_stands h l m c d st o absent
