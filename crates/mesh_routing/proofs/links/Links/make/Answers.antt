use Rattle.std.proofs.Common.{◌≡◌, ◌*◌, arith, ◌∙◌}
use Rattle.mesh_routing.proofs.LinkCalls.{starts_empty}
use Rattle.mesh_routing.proofs.links.Links.make.Goals as goal

pub returns : goal.returns
returns g c =
    let n : c.loop-node.node ≡ c.args.mesh.now.width * c.args.mesh.now.height = omega (arith, c.loop-node-test.false, c.loop-node.auto.node-end) in
    starts_empty c.args.mesh.now.width c.args.mesh.now.height c.args.cells c.loop-node.nodes.items (c.loop-node.invariant.0 ∙ n)
    (λ j m. c.loop-node.invariant.1 j (omega (arith, m, c.loop-node.invariant.0)))
