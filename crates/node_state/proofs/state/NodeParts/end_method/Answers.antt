use Rattle.node_state.proofs.SlotUpdate.{slot_real}
use Rattle.node_state.proofs.SmallChanges.{by_heap, returned_changed}
use Rattle.node_state.proofs.state.NodeParts.end_method.Goals as goal

pub go_on-requires-clause-fits : goal.go_on-requires-clause-fits
go_on-requires-clause-fits c = (slot_real c.args.unit.now c.args.self.now c.requires.unit c.args.slot c.requires.slot).fits

pub returns : goal.returns
returns c =
    by_heap c.args.unit.now c.args.self.now c.requires.whole c.requires.unit c.args.slot c.requires.slot _ c.go_on.new.heap c.refresh.new.self _ c.go_on.ensures.gone_on c.go_on.ensures.fits c.go_on.ensures.rests c.refresh.ensures
    (returned_changed c.args.unit.now c.args.self.now c.requires.whole c.requires.unit c.args.slot c.requires.slot c.requires.returns.0 c.requires.returns.1 c.requires.returns.2 c.requires.free c.requires.returns.3)
