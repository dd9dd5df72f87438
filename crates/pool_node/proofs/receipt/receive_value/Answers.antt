use Rattle.pool_node.proofs.PacketReceipt.{value_made}
use Rattle.pool_node.proofs.receipt.receive_value.Goals as goal

pub returns : goal.returns
returns c = λ l leaving set. value_made c.args.unit.now l leaving c.args.parts.now set c.args.number c.args.value c.args.what c.settle_if_out.new.parts c.settle_if_out.ensures
