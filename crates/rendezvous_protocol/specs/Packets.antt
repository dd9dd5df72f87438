-- The packet of `mesh_semantics` that a packet of the code represents, with the number of its request.
use Rattle.std.specs.Prelude.{Some, None}
use Rattle.mesh_semantics.specs.Delay as D
use Rattle.mesh_semantics.specs.NumberedPackets.{NumberedPacket}
use Rattle.rendezvous_protocol.specs.declared.packet.Packet.{Packet}
use Rattle.rendezvous_protocol.specs.declared.packet.Packet.TheVariants as P

-- a packet and its number
abbrev pub numbered : Packet → NumberedPacket
numbered (P.Create number o goal class) = record { number = Some number; packet = D.Create o goal class.0 }
numbered (P.Created number o name) = record { number = Some number; packet = D.Created o name }
numbered (P.Request number o r m args) = record { number = Some number; packet = D.Request o r m.0 args }
numbered (P.Result number o v) = record { number = Some number; packet = D.Result o v }
numbered (P.Async o r m args) = record { number = None; packet = D.Async o r m.0 args }
