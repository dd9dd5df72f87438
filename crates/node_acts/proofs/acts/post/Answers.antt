use Rattle.std.proofs.Common.{None, Some, refl, arith, rules}
use Rattle.node_acts.proofs.PostStep.{posted_here}
use Rattle.node_acts.proofs.acts.post.Goals as goal

pub returns-then-node_of-parts : goal.returns-then-node_of-parts
returns-then-node_of-parts c = λ l leaving cells has.
    (None, refl, posted_here c.args.unit.now l leaving c.args.room.now.what c.args.parts.now c.deliver_to.new.parts c.args.to c.args.message (omega arith) c.deliver_to.ensures cells has)

pub returns-else-node_of-parts : goal.returns-else-node_of-parts
returns-else-node_of-parts c = λ l leaving cells has. (Some c.packet-room.result, refl, search rules)
