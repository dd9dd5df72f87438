use Rattle.std.proofs.Common.{ap, sym}
use Rattle.mesh_semantics.specs.Act.{first_of}
use Rattle.wire_link.specs.Wires.{acks_in}
use Rattle.wire_link.proofs.FirstFrame.{ack_first, none_front}
use Rattle.wire_link.proofs.sides.first_ack.Goals as goal

pub returns-in-None : goal.returns-in-None
returns-in-None c = ap (λ xs. first_of (acks_in xs)) (sym (none_front c.args.acks.now.items c.in-None.ensures))

pub returns-in-Some : goal.returns-in-Some
returns-in-Some c = ack_first c.args.acks.now.items c.in-Some.first.now c.in-Some.ensures c.requires c.decode.result c.ack_of.result c.decode.ensures c.ack_of.ensures
