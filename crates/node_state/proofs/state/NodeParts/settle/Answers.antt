use Rattle.node_state.proofs.SlotUpdate.{slot_real}
use Rattle.node_state.proofs.SmallChanges.{by_settled, slot_of_number, number_of_slot, asking_now}
use Rattle.node_state.proofs.state.NodeParts.settle.Goals as goal

pub resume_with-requires-clause-fits : goal.resume_with-requires-clause-fits
resume_with-requires-clause-fits c = (slot_real c.args.unit.now c.args.self.now c.requires.unit c.settle-slot.result (slot_of_number c.args.self.now c.requires.whole c.settle-slot.result c.args.number c.settle-slot.ensures.slot)).fits

pub resume_with-requires-clause-rests : goal.resume_with-requires-clause-rests
resume_with-requires-clause-rests c = (slot_real c.args.unit.now c.args.self.now c.requires.unit c.settle-slot.result (slot_of_number c.args.self.now c.requires.whole c.settle-slot.result c.args.number c.settle-slot.ensures.slot)).rests

pub resume_with-requires-clause-asking : goal.resume_with-requires-clause-asking
resume_with-requires-clause-asking c =
    asking_now c.args.unit.now c.args.self.now c.requires.unit c.settle-slot.result (slot_of_number c.args.self.now c.requires.whole c.settle-slot.result c.args.number c.settle-slot.ensures.slot) c.args.number (number_of_slot c.args.self.now c.requires.whole c.settle-slot.result c.args.number c.settle-slot.ensures.slot)

pub returns-clause-number : goal.returns-clause-number
returns-clause-number c = number_of_slot c.args.self.now c.requires.whole c.settle-slot.result c.args.number c.settle-slot.ensures.slot

pub returns-clause-changed : goal.returns-clause-changed
returns-clause-changed c =
    by_settled c.args.unit.now c.args.self.now c.requires.whole c.requires.unit c.settle-slot.result (slot_of_number c.args.self.now c.requires.whole c.settle-slot.result c.args.number c.settle-slot.ensures.slot) c.args.value c.settle-slot.new.self c.resume_with.new.heap c.refresh.new.self
    c.settle-slot.ensures.removed c.resume_with.ensures.given c.resume_with.ensures.fits c.resume_with.ensures.rests c.refresh.ensures
