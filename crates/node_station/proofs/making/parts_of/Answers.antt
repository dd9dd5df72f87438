use Rattle.std.proofs.Common.{ap}
use Rattle.rendezvous_protocol.specs.declared.packet.Packet.{Packet}
use Rattle.mesh_routing.specs.Links.{LinksOf}
use Rattle.node_station.proofs.FirstNodes.{is_alone}
use Rattle.node_station.proofs.making.parts_of.Goals as goal

pub returns-clause-first : goal.returns-clause-first
returns-clause-first c = λ m h.
    is_alone c.in_ok-node.node.state c.in_ok-links.links.links c.in_ok-acked.acked.items c.in_ok-handed.handed.items _ m.nodes c.args.id
    (ap (λ (k : LinksOf Packet). k.links) c.in_ok-links.ensures) c.in_ok-acked.ensures c.in_ok-handed.ensures (c.in_ok-node.ensures.first m h)
