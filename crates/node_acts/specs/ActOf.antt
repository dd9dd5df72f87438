-- The outcome of a node as one value, made from a call's answer and its output buffer.
use Rattle.std.specs.Prelude.{Option, Some, None}
use Rattle.run_types.specs.declared.types.What.{What}
use Rattle.run_types.specs.declared.types.FullKind.{FullKind}
use Rattle.rendezvous_protocol.specs.declared.packet.Packet.{Packet}
use Rattle.node_acts.specs.declared.types.StepOutput.{StepOutput}
use Rattle.node_acts.specs.declared.types.TurnOutcome.{TurnOutcome}
use Rattle.node_acts.specs.declared.types.TurnOutcome.TheVariants as T
use Rattle.node_acts.specs.declared.types.Act.{Act as Seen}
use Rattle.node_acts.specs.declared.types.Act.TheVariants as S

-- no object is ready; a step, with its line and the packet that leaves the node, if one does; or nothing, since the
-- step would exceed this limit
pub data Act : Type 0 where
  Idle : Act
  Line : (what : What) (packet : Option Packet) → Act
  Full : (kind : FullKind) → Act

-- the outcome of an answer and the buffer
abbrev pub act_of : TurnOutcome → StepOutput → Act
act_of T.Idle room = Idle
act_of T.Line room = Line room.what None
act_of T.Leaves room = Line room.what (Some room.packet)
act_of (T.Full kind) room = Full kind

-- the outcome of an answer that is one value
abbrev pub act_seen : Seen → Act
act_seen S.Idle = Idle
act_seen (S.Line what packet) = Line what packet
act_seen (S.Full kind) = Full kind
