-- What a node needs of a packet at its goal, for the receipt to be what the definition says, whoever sent the packet.
use Rattle.run_types.specs.PathFacts.{In}
use Rattle.mesh_semantics.specs.Language.{Language}
use Rattle.mesh_semantics.specs.Delay as D
use Rattle.mesh_semantics.specs.Delay.{Packet}
use Rattle.node_semantics.specs.Node.{NodeState}
use Rattle.node_semantics.specs.Receives.{HasObject}

-- the class of a new object exists; a receiver has a slot
abbrev pub IsAcceptable : {S : Type 0} → Language S → NodeState S → Packet → Type 0
IsAcceptable g x (D.Create o goal class) = In class g.classes
IsAcceptable g x (D.Created o name) = Unit {0}
IsAcceptable g x (D.Request o r m args) = HasObject x r
IsAcceptable g x (D.Result o v) = Unit {0}
IsAcceptable g x (D.Async o r m args) = HasObject x r
