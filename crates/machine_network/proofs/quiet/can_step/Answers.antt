use Rattle.std.proofs.Common.{◌≡◌, ◌+◌, map, sym, ap, ◌∙◌, is_some, false, arith}
use Rattle.mesh_semantics.specs.Act.{first_of}
use Rattle.std.proofs.lemmas.Option.{slice_get_within}
use Rattle.mesh_of_code.specs.Coded.{Placed, coded}
use Rattle.node_semantics.specs.Node.{NodeState, ready_slots}
use Rattle.machine_network.proofs.ReadyNodes.{element, state_there, node_behind, none_ready, one_further, ready_found}
use Rattle.machine_network.proofs.quiet.can_step.Goals as goal

pub is_ready-requires : goal.is_ready-requires
is_ready-requires c = (c.requires c.loop-node.node-index c.node-item.result (element c.args.nodes.now c.loop-node.node-index c.node-item.result c.loop-node-test.true c.node-item.is)).1

pub returns-then-is_ready : goal.returns-then-is_ready
returns-then-is_ready c =
    let at = element c.args.nodes.now c.loop-node.node-index c.node-item.result c.loop-node-test.true c.node-item.is in
    let id : c.node-item.result.id ≡ 0 + c.loop-node.node-index = (c.requires c.loop-node.node-index c.node-item.result at).0 ∙ (omega arith) in
    sym (ready_found (coded c.args.unit.now) 0 (map (λ n. n.state) c.args.nodes.now) c.loop-node.node-index c.node-item.result.state (state_there c.args.nodes.now c.loop-node.node-index c.node-item.result at)
    (ap (λ k. is_some (first_of (ready_slots (coded c.args.unit.now) k c.node-item.result.state))) (sym id) ∙ sym c.is_ready.ensures ∙ c.if-is_ready.true))

pub loop-node-preserved : goal.loop-node-preserved
loop-node-preserved c =
    one_further (λ n. is_some (first_of (ready_slots (coded c.args.unit.now) n.id n.state)) ≡ false) c.args.nodes.now c.loop-node.node-index c.node-item.result
    (element c.args.nodes.now c.loop-node.node-index c.node-item.result c.loop-node-test.true c.node-item.is) (sym c.is_ready.ensures ∙ c.if-is_ready.false) c.loop-node.invariant

pub returns : goal.returns
returns c = sym (none_ready (coded c.args.unit.now) 0 (map (λ n. n.state) c.args.nodes.now) (λ i x e.
    let n = node_behind c.args.nodes.now i x e in
    let id : n.0.id ≡ 0 + i = (c.requires i n.0 n.1).0 ∙ (omega arith) in
    let few = slice_get_within c.args.nodes.now i n.0 n.1 in
    ap (λ k. is_some (first_of (ready_slots (coded c.args.unit.now) k x))) (sym id)
    ∙ ap (λ (z : NodeState Placed). is_some (first_of (ready_slots (coded c.args.unit.now) n.0.id z))) (sym n.2)
    ∙ c.loop-node.invariant i (let t = c.loop-node-test.false in omega (arith, few, t)) n.0 n.1))
