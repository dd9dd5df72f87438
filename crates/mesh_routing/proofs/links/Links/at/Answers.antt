use Rattle.std.proofs.Common.{◌≡◌, ◌<◌, ◌*◌, ap, arith, sym, ◌∙◌, subst, Some, None, slice_get}
use Rattle.std.proofs.lemmas.Option.{slice_get_past}
use Rattle.run_types.specs.Tables.{pair_cmp, list_at}
use Rattle.cell_pool.specs.Lists.{list_of}
use Rattle.mesh_routing.specs.Links.{LinksOf}
use Rattle.mesh_routing.proofs.LinkCalls.{there_read}
use Rattle.mesh_routing.proofs.links.Links.at.Goals as goal

pub returns-then-len-place : goal.returns-then-len-place
returns-then-len-place g c =
    let l : c.args.from < c.self.inside.mesh.width * c.self.inside.mesh.height = subst (λ (k : LinksOf g.row.T.Denot). c.args.from < k.width * k.height) (sym c.self.view_is) c.requires.link.0 in
    let t = there_read c.self.inside.mesh.width c.self.inside.mesh.height c.self.inside.cells c.self.inside.nodes.items c.self.inside.mesh.wide.0 c.self.invariant c.args.from l c.index-pool.result.now c.index-pool.ensures c.args.to c.way-way.result c.way-way.ensures in
    let past = slice_get_past (list_of c.index-pool.result.now c.way-way.result) c.args.place (omega (arith, c.if-len-place.true, c.len.ensures)) in
    subst (λ (k : LinksOf g.row.T.Denot). None ≡ slice_get (list_at pair_cmp (c.args.from, c.args.to) k.links) c.args.place) c.self.view_is
    (sym (ap (λ z. slice_get z c.args.place) t ∙ past))

pub returns : goal.returns
returns g c =
    let l : c.args.from < c.self.inside.mesh.width * c.self.inside.mesh.height = subst (λ (k : LinksOf g.row.T.Denot). c.args.from < k.width * k.height) (sym c.self.view_is) c.requires.link.0 in
    let t = there_read c.self.inside.mesh.width c.self.inside.mesh.height c.self.inside.cells c.self.inside.nodes.items c.self.inside.mesh.wide.0 c.self.invariant c.args.from l c.index-pool.result.now c.index-pool.ensures c.args.to c.way-way.result c.way-way.ensures in
    subst (λ (k : LinksOf g.row.T.Denot). Some c.get.result.now ≡ slice_get (list_at pair_cmp (c.args.from, c.args.to) k.links) c.args.place) c.self.view_is
    (sym (ap (λ z. slice_get z c.args.place) t ∙ c.get.ensures))
