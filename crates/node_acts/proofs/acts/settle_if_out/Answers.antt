use Rattle.std.proofs.Common.{sym, ◌∙◌}
use Rattle.node_acts.proofs.ReturnStep.{settled_moved, settled_nowhere}
use Rattle.node_acts.proofs.acts.settle_if_out.Goals as goal

pub returns-then-is_out : goal.returns-then-is_out
returns-then-is_out c =
    settled_moved c.args.unit.now c.args.parts.now c.requires.unit c.args.number c.args.value c.settle-slot.new.self c.settle-slot.result
    c.settle-slot.ensures.slot c.settle-slot.ensures.number c.settle-slot.ensures.changed

pub returns-else-is_out : goal.returns-else-is_out
returns-else-is_out c =
    settled_nowhere c.args.unit.now c.args.parts.now c.requires.unit c.args.number c.args.value c.requires.whole (sym c.is_out.ensures ∙ c.if-is_out.false)
