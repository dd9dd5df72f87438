-- Packets with the numbers of their requests.
use Rattle.std.specs.Prelude.{ℕ, Option}
use Rattle.mesh_semantics.specs.Delay.{Packet}

-- a packet with the number of its request; an asynchronous message has no number
pub record NumberedPacket : Type 0 where
  pub number : Option ℕ
  pub packet : Packet
