use Rattle.std.proofs.Common.{◌≡◌, map, sym, ap, ◌∙◌, is_some, false, arith}
use Rattle.std.specs.List.{list_any}
use Rattle.std.proofs.lemmas.Option.{slice_get_within}
use Rattle.mesh_of_code.specs.Coded.{Placed}
use Rattle.node_semantics.specs.Node.{NodeState, Slot}
use Rattle.machine_network.proofs.Laws.{element, state_there, node_behind, one_further}
use Rattle.pool_machine.proofs.Searches.{found_none, found_one}
use Rattle.pool_machine.proofs.report.has_faulted.Goals as goal

pub returns-then-any_faulted : goal.returns-then-any_faulted
returns-then-any_faulted c =
    let at = element c.args.nodes.now c.loop-node.node-index c.node-item.result c.loop-node-test.true c.node-item.is in
    sym (found_one (λ (x : NodeState Placed). list_any (λ s. is_some s.state.fault) x.slots) (map (λ n. n.state) c.args.nodes.now) c.loop-node.node-index c.node-item.result.state
    (state_there c.args.nodes.now c.loop-node.node-index c.node-item.result at) (sym c.any_faulted.ensures ∙ c.if-any_faulted.true))

pub loop-node-preserved : goal.loop-node-preserved
loop-node-preserved c =
    one_further (λ n. list_any (λ (s : Slot Placed). is_some s.state.fault) n.state.slots ≡ false) c.args.nodes.now c.loop-node.node-index c.node-item.result
    (element c.args.nodes.now c.loop-node.node-index c.node-item.result c.loop-node-test.true c.node-item.is) (sym c.any_faulted.ensures ∙ c.if-any_faulted.false) c.loop-node.invariant

pub returns : goal.returns
returns c = sym (found_none (λ (x : NodeState Placed). list_any (λ s. is_some s.state.fault) x.slots) (map (λ n. n.state) c.args.nodes.now) (λ i x e.
    let n = node_behind c.args.nodes.now i x e in
    let few = slice_get_within c.args.nodes.now i n.0 n.1 in
    ap (λ (z : NodeState Placed). list_any (λ (s : Slot Placed). is_some s.state.fault) z.slots) (sym n.2)
    ∙ c.loop-node.invariant i (let t = c.loop-node-test.false in omega (arith, few, t)) n.0 n.1))
