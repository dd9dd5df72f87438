use Rattle.mesh_semantics.proofs.FifoTraffic.{in_order}
use Rattle.mesh_semantics.proofs.theorems.order_is_kept_between_two_nodes.Goals as goal

pub returns : goal.returns
returns g c = λ l es a b w i p q. in_order l w es i a b p q
