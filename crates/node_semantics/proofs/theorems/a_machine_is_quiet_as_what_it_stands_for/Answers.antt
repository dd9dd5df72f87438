use Rattle.run_types.specs.GivenProperties.{IsGiven}
use Rattle.node_semantics.proofs.QuietAgrees.{quiet_agrees}
use Rattle.node_semantics.proofs.WiresAgree.{acknowledged_same}
use Rattle.node_semantics.proofs.theorems.a_machine_is_quiet_as_what_it_stands_for.Goals as goal

pub returns : goal.returns
returns g z = λ h kept l m c d law req sound st. quiet_agrees h (IsGiven kept) law req l m c d sound.state st.state (acknowledged_same m.wires d.wires m.links st.wires)
