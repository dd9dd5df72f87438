use Rattle.node_state.proofs.SlotUpdate.{slot_real}
use Rattle.node_state.proofs.SmallChanges.{by_heap, done_changed}
use Rattle.node_state.proofs.state.NodeParts.go_on.Goals as goal

pub go_on-requires-clause-fits : goal.go_on-requires-clause-fits
go_on-requires-clause-fits c = (slot_real c.args.unit.now c.args.self.now c.requires.unit c.args.slot c.requires.slot).fits

pub returns : goal.returns
returns c =
    by_heap c.args.unit.now c.args.self.now c.requires.whole c.requires.unit c.args.slot c.requires.slot _ c.go_on.new.heap c.refresh.new.self _ c.go_on.ensures.gone_on c.go_on.ensures.fits c.go_on.ensures.rests c.refresh.ensures
    (done_changed c.args.unit.now c.args.self.now c.requires.whole c.requires.unit c.args.slot c.requires.slot c.requires.free c.requires.once)
