use Rattle.node_state.proofs.SlotUpdate.{slot_real}
use Rattle.node_state.proofs.SmallChanges.{by_heap, picked_changed}
use Rattle.node_state.proofs.state.NodeParts.pick.Goals as goal

pub pick-requires-clause-fits : goal.pick-requires-clause-fits
pick-requires-clause-fits c = (slot_real c.args.unit.now c.args.self.now c.requires.unit c.args.slot c.requires.slot).fits

pub returns : goal.returns
returns c =
    by_heap c.args.unit.now c.args.self.now c.requires.whole c.requires.unit c.args.slot c.requires.slot _ c.pick.new.heap c.refresh.new.self _ c.pick.ensures.picked c.pick.ensures.fits c.pick.ensures.rests c.refresh.ensures
    (picked_changed c.args.unit.now c.args.self.now c.requires.whole c.requires.unit c.args.slot c.requires.slot c.args.alt c.requires.free)
