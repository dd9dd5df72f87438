use Rattle.run_types.specs.GivenProperties.{IsGiven}
use Rattle.mesh_semantics.proofs.Laws.{fit_of}
use Rattle.node_semantics.proofs.ReceivablePackets.{head_is_receivable}
use Rattle.node_semantics.proofs.theorems.a_packet_off_a_link_is_receivable.Goals as goal

pub returns : goal.returns
returns g z = λ h kept l m c d a b e rest x law req names fit sound st head at node.
    head_is_receivable h (IsGiven kept) law req names l (fit_of h l fit).objects m c d sound st a b e rest head at x node
