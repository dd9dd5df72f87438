use Rattle.std.proofs.Common.{refl, sym, ◌∙◌}
use Rattle.run_types.specs.declared.types.What.TheVariants as W
use Rattle.pool_node.proofs.PacketReceipt.{message_full, message_room, message_made}
use Rattle.pool_node.proofs.receipt.receive_message.Goals as goal

pub returns-then-no_cell : goal.returns-then-no_cell
returns-then-no_cell c = message_full c.args.plan.now.unit.now c.args.plan.now.placement.now c.args.plan.now.leaving c.args.parts.now c.requires.set c.args.to c.args.message c.requires.there _ _ refl (sym c.if-no_cell.true ∙ c.no_cell.ensures)

pub deliver_to-requires-clause-room : goal.deliver_to-requires-clause-room
deliver_to-requires-clause-room c = λ h. message_room c.args.plan.now.unit.now c.args.plan.now.placement.now c.args.plan.now.leaving c.args.parts.now c.requires.set c.args.to c.args.message c.requires.there W.Idle (sym c.if-no_cell.false ∙ c.no_cell.ensures)

pub returns : goal.returns
returns c = message_made c.args.plan.now.unit.now c.args.plan.now.placement.now c.args.plan.now.leaving c.args.parts.now c.requires.set c.args.to c.args.message c.requires.there _ c.deliver_to.new.parts c.deliver_to.ensures (sym c.if-no_cell.false ∙ c.no_cell.ensures)
