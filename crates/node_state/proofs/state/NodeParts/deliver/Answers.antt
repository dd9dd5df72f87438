use Rattle.node_state.proofs.SlotUpdate.{slot_real}
use Rattle.node_state.proofs.SmallChanges.{by_delivered, on_ok}
use Rattle.std.proofs.Common.{sym, ◌∙◌}
use Rattle.node_state.proofs.state.NodeParts.deliver.Goals as goal

pub refresh-requires-clause-fits : goal.refresh-requires-clause-fits
refresh-requires-clause-fits c = (slot_real c.args.unit.now c.args.self.now c.requires.unit c.args.slot c.requires.slot).fits

pub refresh-requires-clause-rests : goal.refresh-requires-clause-rests
refresh-requires-clause-rests c = (slot_real c.args.unit.now c.args.self.now c.requires.unit c.args.slot c.requires.slot).rests

pub returns-then-is_ok : goal.returns-then-is_ok
returns-then-is_ok c = by_delivered c.args.unit.now c.args.self.now c.requires.whole c.requires.unit c.args.slot c.requires.slot c.args.message c.post.new.self c.refresh.new.self (on_ok c.post.result _ c.post.ensures.ok (sym c.is_ok.ensures.value ∙ c.if-is_ok.true)) c.refresh.ensures
