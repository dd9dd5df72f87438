use Rattle.std.proofs.Common.{sym, subst, ◌∙◌}
use Rattle.mesh_of_code.specs.Coded.{coded}
use Rattle.node_semantics.specs.Node.{receipt}
use Rattle.pool_node.specs.Acceptable.{IsAcceptable}
use Rattle.rendezvous_protocol.specs.declared.packet.Packet.{Packet}
use Rattle.rendezvous_protocol.specs.Packets.{numbered}
use Rattle.node_state.specs.Views.{node_of}
use Rattle.node_acts.specs.ActOf.{act_of}
use Rattle.node_acts.specs.NodeSteps.{ReportsAct}
use Rattle.node_turns.proofs.Laws.{class_below}
use Rattle.pool_node.proofs.PacketReceipt.{named_there, object_there}
use Rattle.pool_node.proofs.receipt.received.Goals as goal

pub receive_create-requires-clause-class : goal.receive_create-requires-clause-class
receive_create-requires-clause-class c = class_below c.args.plan.now.unit.now c.in-Create.class c.in-Some.place (sym c.class_named.ensures ∙ c.in-Some.is)

pub receive_message-requires-clause-there : goal.receive_message-requires-clause-there
receive_message-requires-clause-there c = object_there c.args.parts.now c.in-Request.to (subst (λ (z : Packet). IsAcceptable (coded c.args.plan.now.unit.now) (node_of c.args.parts.now).state (numbered z).packet) c.in-Request.is c.requires.packet)

pub receive_message-requires-in-Async-clause-there : goal.receive_message-requires-in-Async-clause-there
receive_message-requires-in-Async-clause-there c = object_there c.args.parts.now c.in-Async.to (subst (λ (z : Packet). IsAcceptable (coded c.args.plan.now.unit.now) (node_of c.args.parts.now).state (numbered z).packet) c.in-Async.is c.requires.packet)

pub returns-in-Some : goal.returns-in-Some
returns-in-Some c =
    subst (λ (z : Packet). ReportsAct c.args.plan.now.unit.now c.args.plan.now.placement.now c.args.plan.now.leaving (act_of c.receive_create.result c.receive_create.new.room) c.args.parts.now c.receive_create.new.parts
    (receipt (coded c.args.plan.now.unit.now) c.args.parts.now.id (node_of c.args.parts.now).state (numbered z).number (numbered z).packet)) (sym c.in-Create.is) (c.receive_create.ensures c.in-Create.node)

pub returns-in-None : goal.returns-in-None
returns-in-None c = named_there 0 c.args.plan.now.unit.now.classes c.in-Create.class (subst (λ (z : Packet). IsAcceptable (coded c.args.plan.now.unit.now) (node_of c.args.parts.now).state (numbered z).packet) c.in-Create.is c.requires.packet) (sym c.class_named.ensures ∙ c.in-None.is)
