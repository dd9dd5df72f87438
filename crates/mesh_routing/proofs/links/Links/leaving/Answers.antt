use Rattle.std.proofs.Common.{◌≡◌, ◌<◌, ◌-◌, ◌*◌, sym, subst}
use Rattle.run_types.specs.LinkTables.{leaving}
use Rattle.mesh_routing.specs.Links.{LinksOf}
use Rattle.mesh_routing.proofs.LinkCalls.{free_there}
use Rattle.mesh_routing.proofs.links.Links.leaving.Goals as goal

pub returns-clause-count : goal.returns-clause-count
returns-clause-count g c =
    let l : c.args.from < c.self.inside.mesh.width * c.self.inside.mesh.height = subst (λ (k : LinksOf g.row.T.Denot). c.args.from < k.width * k.height) (sym c.self.view_is) c.requires in
    let f = free_there c.self.inside.mesh.width c.self.inside.mesh.height c.self.inside.cells c.self.inside.nodes.items c.self.inside.mesh.wide.0 c.self.invariant c.args.from l c.index-pool.result.now c.index-pool.ensures c.free.result c.free.ensures.free c.free.ensures.within in
    subst (λ (k : LinksOf g.row.T.Denot). c.self.inside.cells - c.free.result ≡ leaving k.links c.args.from) c.self.view_is f
