use Rattle.std.proofs.Common.{IsTrue, inl, inr, sym, subst}
use Rattle.std.specs.Prelude.{◌↔◌, nat_lt}
use Rattle.mesh_of_code.specs.Coded.{coded}
use Rattle.rendezvous_protocol.specs.declared.packet.Packet.{Packet}
use Rattle.rendezvous_protocol.specs.Packets.{numbered}
use Rattle.node_state.specs.Views.{node_of}
use Rattle.pool_node.specs.Acceptable.{IsAcceptable}
use Rattle.pool_node.proofs.AcceptablePackets.{class_tested, slot_tested}
use Rattle.pool_node.proofs.receipt.can_receive.Goals as goal

pub returns-in-Create : goal.returns-in-Create
returns-in-Create c =
    subst (λ (z : Packet). IsTrue c.is_some.result ↔ IsAcceptable (coded c.args.unit.now) (node_of c.args.parts.now).state (numbered z).packet) (sym c.in-Create.is)
    (class_tested c.args.unit.now c.in-Create.class c.class_named.result c.is_some.result c.class_named.ensures c.is_some.ensures)

pub returns-in-Request : goal.returns-in-Request
returns-in-Request c =
    let Tested : Packet → Type 0 = λ z. IsTrue (nat_lt c.slot_of.result c.objects.result) ↔ IsAcceptable (coded c.args.unit.now) (node_of c.args.parts.now).state (numbered z).packet in
    let tested = slot_tested c.args.parts.now c.in-Request.to c.slot_of.result c.objects.result c.slot_of.ensures.slot c.objects.ensures.count in
    elim c.in-Request.is [ inl h ↦ subst Tested (sym h.4) tested | inr h ↦ subst Tested (sym h.3) tested ]
