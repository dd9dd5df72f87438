use Rattle.node_state.proofs.SlotUpdate.{slot_real, unused_seen}
use Rattle.node_state.proofs.SmallChanges.{by_asked}
use Rattle.node_state.proofs.state.NodeParts.ask.Goals as goal

pub refresh-requires-clause-fits : goal.refresh-requires-clause-fits
refresh-requires-clause-fits c = (slot_real c.args.unit.now c.args.self.now c.requires.unit c.args.slot c.requires.slot).fits

pub returns-clause-unused : goal.returns-clause-unused
returns-clause-unused c = unused_seen c.args.self.now c.issue-number.result c.issue-number.ensures.unused

pub returns-clause-changed : goal.returns-clause-changed
returns-clause-changed c =
    by_asked c.args.unit.now c.args.self.now c.requires.whole c.requires.unit c.args.slot c.requires.slot c.issue-number.result c.args.goal c.issue-number.new.self c.set.new.self c.refresh.new.self c.issue-number.ensures.added c.set.ensures
    c.issue-number.ensures.unused c.requires.asks c.refresh.ensures
