use Rattle.std.proofs.Common.{◌≡◌, ◌<◌, ◌*◌, rules, ap, arith, sym, ◌∙◌, subst, length}
use Rattle.run_types.specs.Tables.{pair_cmp, list_at}
use Rattle.run_types.specs.LinkTables.{leaving}
use Rattle.mesh_routing.specs.Links.{LinksOf}
use Rattle.mesh_routing.specs.Nodes.{view_of}
use Rattle.mesh_routing.proofs.LinkCalls.{one_there, there_read}
use Rattle.mesh_routing.proofs.links.Links.length.Goals as goal

pub returns : goal.returns
returns g c =
    let l : c.args.from < c.self.inside.mesh.width * c.self.inside.mesh.height = subst (λ (k : LinksOf g.row.T.Denot). c.args.from < k.width * k.height) (sym c.self.view_is) c.requires.link.0 in
    let t = there_read c.self.inside.mesh.width c.self.inside.mesh.height c.self.inside.cells c.self.inside.nodes.items c.self.inside.mesh.wide.0 c.self.invariant c.args.from l c.index-pool.result.now c.index-pool.ensures c.args.to c.way-way.result c.way-way.ensures in
    subst (λ (k : LinksOf g.row.T.Denot). c.len.result ≡ length (list_at pair_cmp (c.args.from, c.args.to) k.links)) c.self.view_is
    (c.len.ensures ∙ ap length (sym t))

pub overflow_cast-result : goal.overflow_cast-result
overflow_cast-result g c =
    let l : c.args.from < c.self.inside.mesh.width * c.self.inside.mesh.height = subst (λ (k : LinksOf g.row.T.Denot). c.args.from < k.width * k.height) (sym c.self.view_is) c.requires.link.0 in
    let w = one_there c.self.inside.mesh.width c.self.inside.mesh.height c.self.inside.cells c.self.inside.nodes.items c.self.inside.mesh.wide.0 c.self.invariant c.args.from l c.index-pool.result.now c.index-pool.ensures c.way-way.result in
    let most : leaving (view_of c.self.inside.mesh.width c.self.inside.mesh.height c.self.inside.cells c.self.inside.nodes.items).links c.args.from ≡ c.leaving-most.result =
    ap (λ (k : LinksOf g.row.T.Denot). leaving k.links c.args.from) c.self.view_is ∙ sym c.leaving-most.ensures.count in
    search (rules, arith, w, most, c.len.ensures)
