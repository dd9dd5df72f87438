use Rattle.mesh_semantics.specs.Wire.{empty_wire}
use Rattle.mesh_semantics.proofs.WireLaws.{facts_empty, happened_facts, happened_put}
use Rattle.mesh_semantics.proofs.theorems.wires_hand_out_what_entered_in_order.Goals as goal

pub returns-clause-facts : goal.returns-clause-facts
returns-clause-facts g c = λ hs. happened_facts hs empty_wire facts_empty

pub returns-clause-entered : goal.returns-clause-entered
returns-clause-entered g c = λ hs. happened_put hs empty_wire
