use Rattle.node_state.proofs.SlotUpdate.{slot_real}
use Rattle.node_state.proofs.SmallChanges.{by_heap, given_changed}
use Rattle.node_state.proofs.state.NodeParts.give.Goals as goal

pub resume_with-requires-clause-fits : goal.resume_with-requires-clause-fits
resume_with-requires-clause-fits c = (slot_real c.args.unit.now c.args.self.now c.requires.unit c.args.slot c.requires.slot).fits

pub returns : goal.returns
returns c =
    by_heap c.args.unit.now c.args.self.now c.requires.whole c.requires.unit c.args.slot c.requires.slot _ c.resume_with.new.heap c.refresh.new.self _ c.resume_with.ensures.given c.resume_with.ensures.fits c.resume_with.ensures.rests c.refresh.ensures
    (given_changed c.args.unit.now c.args.self.now c.requires.whole c.requires.unit c.args.slot c.requires.slot c.args.value c.requires.free)
