use Rattle.std.proofs.Common.{arith}
use Rattle.node_acts.specs.ActOf.{act_of}
use Rattle.node_turns.proofs.NodeAct.{turn_slot, begun_set, steps_now, turn_acts}
use Rattle.node_turns.proofs.turn.step_of.Goals as goal

pub slot_turn-told-requires-clause-set : goal.slot_turn-told-requires-clause-set
slot_turn-told-requires-clause-set c = begun_set c.args.plan.now.unit.now c.args.plan.now.placement.now c.args.plan.now.leaving c.args.parts.now c.requires.whole c.requires.unit c.requires.placement c.requires.cells c.args.slot (omega arith)

pub slot_turn-told-requires-clause-slot : goal.slot_turn-told-requires-clause-slot
slot_turn-told-requires-clause-slot c = (turn_slot c.args.plan.now.unit.now c.args.parts.now c.requires.unit c.args.slot c.requires.turn).there

pub slot_turn-told-requires-clause-free : goal.slot_turn-told-requires-clause-free
slot_turn-told-requires-clause-free c = (turn_slot c.args.plan.now.unit.now c.args.parts.now c.requires.unit c.args.slot c.requires.turn).go.free

pub slot_turn-told-requires-clause-fault : goal.slot_turn-told-requires-clause-fault
slot_turn-told-requires-clause-fault c = (turn_slot c.args.plan.now.unit.now c.args.parts.now c.requires.unit c.args.slot c.requires.turn).go.fault

pub slot_turn-told-requires-clause-steps : goal.slot_turn-told-requires-clause-steps
slot_turn-told-requires-clause-steps c = steps_now c.args.plan.now.unit.now c.args.plan.now.placement.now c.args.plan.now.leaving c.args.parts.now c.requires.whole c.requires.unit c.requires.placement c.requires.cells c.args.slot (turn_slot c.args.plan.now.unit.now c.args.parts.now c.requires.unit c.args.slot c.requires.turn)

pub returns-clause-act : goal.returns-clause-act
returns-clause-act c = (turn_acts c.args.plan.now.unit.now c.args.plan.now.placement.now c.args.plan.now.leaving c.args.parts.now c.requires.whole c.requires.unit c.requires.placement c.requires.cells c.args.slot c.args.quantum (act_of c.slot_turn-told.result c.slot_turn-told.new.room) c.slot_turn-told.new.parts c.keep_last.new.parts (turn_slot c.args.plan.now.unit.now c.args.parts.now c.requires.unit c.args.slot c.requires.turn) c.slot_turn-told.ensures (c.keep_last.ensures c.slot_turn-told.new.room) (omega arith)).0

pub returns-clause-whole : goal.returns-clause-whole
returns-clause-whole c = (turn_acts c.args.plan.now.unit.now c.args.plan.now.placement.now c.args.plan.now.leaving c.args.parts.now c.requires.whole c.requires.unit c.requires.placement c.requires.cells c.args.slot c.args.quantum (act_of c.slot_turn-told.result c.slot_turn-told.new.room) c.slot_turn-told.new.parts c.keep_last.new.parts (turn_slot c.args.plan.now.unit.now c.args.parts.now c.requires.unit c.args.slot c.requires.turn) c.slot_turn-told.ensures (c.keep_last.ensures c.slot_turn-told.new.room) (omega arith)).1

pub returns-clause-unit : goal.returns-clause-unit
returns-clause-unit c = (turn_acts c.args.plan.now.unit.now c.args.plan.now.placement.now c.args.plan.now.leaving c.args.parts.now c.requires.whole c.requires.unit c.requires.placement c.requires.cells c.args.slot c.args.quantum (act_of c.slot_turn-told.result c.slot_turn-told.new.room) c.slot_turn-told.new.parts c.keep_last.new.parts (turn_slot c.args.plan.now.unit.now c.args.parts.now c.requires.unit c.args.slot c.requires.turn) c.slot_turn-told.ensures (c.keep_last.ensures c.slot_turn-told.new.room) (omega arith)).2
