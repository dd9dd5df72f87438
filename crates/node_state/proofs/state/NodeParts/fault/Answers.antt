use Rattle.node_state.proofs.SlotUpdate.{slot_real}
use Rattle.node_state.proofs.SmallChanges.{by_faulted}
use Rattle.node_state.proofs.state.NodeParts.fault.Goals as goal

pub refresh-requires-clause-fits : goal.refresh-requires-clause-fits
refresh-requires-clause-fits c = (slot_real c.args.unit.now c.args.self.now c.requires.unit c.args.slot c.requires.slot).fits

pub refresh-requires-clause-rests : goal.refresh-requires-clause-rests
refresh-requires-clause-rests c = (slot_real c.args.unit.now c.args.self.now c.requires.unit c.args.slot c.requires.slot).rests

pub returns : goal.returns
returns c = by_faulted c.args.unit.now c.args.self.now c.requires.whole c.requires.unit c.args.slot c.requires.slot c.args.error c.set.new.self c.refresh.new.self c.set.ensures c.requires.free c.refresh.ensures
