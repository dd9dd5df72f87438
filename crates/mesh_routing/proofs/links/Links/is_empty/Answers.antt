use Rattle.std.proofs.Common.{◌<◌, ◌*◌, ap, arith, sym, refl, ◌∙◌, subst}
use Rattle.cell_pool.specs.Lists.{Pool, lengths}
use Rattle.mesh_routing.specs.Links.{LinksOf}
use Rattle.mesh_routing.proofs.LinkCalls.{is_node, has_cells, some_leave, none_leave}
use Rattle.mesh_routing.proofs.links.Links.is_empty.Goals as goal

pub returns-then-free-self : goal.returns-then-free-self
returns-then-free-self g c =
    let l : c.loop-node.node < c.self.inside.mesh.width * c.self.inside.mesh.height = omega (arith, c.loop-node-test.true, c.loop-node.auto.node-end, c.len-node-end.ensures, c.self.invariant.many) in
    let n = is_node c.self.inside.mesh.width c.self.inside.mesh.height c.self.inside.cells c.self.inside.nodes.items c.self.inside.mesh.wide.0 c.self.invariant c.loop-node.node l c.index-pool.result.now c.index-pool.ensures in
    let k = has_cells c.self.inside.mesh.width c.self.inside.mesh.height c.self.inside.cells c.self.inside.nodes.items c.self.inside.mesh.wide.0 c.self.invariant c.loop-node.node l c.index-pool.result.now c.index-pool.ensures in
    let some : 0 < lengths c.index-pool.result.now.lists = omega (arith, k, c.free.ensures.free, c.free.ensures.within, c.if-free-self.true) in
    let leaves = some_leave c.self.inside.mesh.width c.self.inside.mesh.height c.self.inside.cells c.self.inside.nodes.items c.self.inside.mesh.wide.0 c.self.invariant c.loop-node.node l (subst (λ (p : Pool g.row.T.Denot). 0 < lengths p.lists) (sym n) some) in
    (λ e. absurd (cc), λ e. absurd (leaves (ap (λ (z : LinksOf g.row.T.Denot). z.links) c.self.view_is ∙ e)))

pub returns : goal.returns
returns g c =
    let none = none_leave c.self.inside.mesh.width c.self.inside.mesh.height c.self.inside.cells c.self.inside.nodes.items c.self.inside.mesh.wide.0 c.self.invariant (λ j m. c.loop-node.invariant j (omega (arith, m, c.loop-node-test.false, c.loop-node.auto.node-end, c.len-node-end.ensures))) in
    (λ e. sym (ap (λ (z : LinksOf g.row.T.Denot). z.links) c.self.view_is) ∙ none, λ e. refl)
