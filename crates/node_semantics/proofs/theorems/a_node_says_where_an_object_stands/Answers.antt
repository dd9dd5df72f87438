use Rattle.run_types.specs.GivenProperties.{IsGiven}
use Rattle.node_semantics.proofs.NodeStandings.{node_says}
use Rattle.node_semantics.proofs.theorems.a_node_says_where_an_object_stands.Goals as goal

pub returns : goal.returns
returns g z = λ h kept l m c d o x s law req sound st there here. node_says h (IsGiven kept) law req l m c d sound st o x there s here
