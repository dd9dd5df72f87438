use Rattle.std.proofs.Common.{◌≡◌, ◌<◌, ◌*◌, ap, sym, ◌∙◌, subst, set, drop, slice_get}
use Rattle.run_types.specs.Tables.{pair_cmp, list_at, put_list}
use Rattle.cell_pool.specs.Lists.{list_of, with_list}
use Rattle.mesh_routing.specs.Links.{LinksOf, with_links}
use Rattle.mesh_routing.specs.Nodes.{node_of, view_of}
use Rattle.mesh_routing.proofs.LinkCalls.{is_node, there_read, moved, moved_kept}
use Rattle.mesh_routing.proofs.links.Links.move_head.Goals as goal

pub invariant_of-self : goal.invariant_of-self
invariant_of-self g c =
    let l : c.args.from < c.self.inside.mesh.width * c.self.inside.mesh.height = subst (λ (k : LinksOf g.row.T.Denot). c.args.from < k.width * k.height) (sym c.self.view_is) c.requires.link.0 in
    let n = is_node c.self.inside.mesh.width c.self.inside.mesh.height c.self.inside.cells c.self.inside.nodes.items c.self.inside.mesh.wide.0 c.self.invariant c.args.from l c.index_mut-pool.result.now c.index_mut-pool.ensures.value in
    let e : c.pop_front.new.self ≡ with_list (node_of c.self.inside.nodes.items c.args.from) c.way-way.result (drop 1 (list_of (node_of c.self.inside.nodes.items c.args.from) c.way-way.result)) =
    subst (λ p. c.pop_front.new.self ≡ with_list p c.way-way.result (drop 1 (list_of p c.way-way.result))) (sym n) c.pop_front.ensures.lists in
    moved_kept c.self.inside.mesh.width c.self.inside.mesh.height c.self.inside.cells c.self.inside.nodes.items c.self.inside.mesh.wide.0 c.self.invariant c.args.from c.way-way.result _ c.pop_front.new.self l e

pub returns-clause-value : goal.returns-clause-value
returns-clause-value g c =
    let l : c.args.from < c.self.inside.mesh.width * c.self.inside.mesh.height = subst (λ (k : LinksOf g.row.T.Denot). c.args.from < k.width * k.height) (sym c.self.view_is) c.requires.link.0 in
    let t = there_read c.self.inside.mesh.width c.self.inside.mesh.height c.self.inside.cells c.self.inside.nodes.items c.self.inside.mesh.wide.0 c.self.invariant c.args.from l c.index_mut-pool.result.now c.index_mut-pool.ensures.value c.args.to c.way-way.result c.way-way.ensures in
    subst (λ (k : LinksOf g.row.T.Denot). c.pop_front.result ≡ slice_get (list_at pair_cmp (c.args.from, c.args.to) k.links) 0) c.self.view_is
    (c.pop_front.ensures.value ∙ sym (ap (λ z. slice_get z 0) t))

pub returns-clause-rest : goal.returns-clause-rest
returns-clause-rest g c =
    let l : c.args.from < c.self.inside.mesh.width * c.self.inside.mesh.height = subst (λ (k : LinksOf g.row.T.Denot). c.args.from < k.width * k.height) (sym c.self.view_is) c.requires.link.0 in
    let n = is_node c.self.inside.mesh.width c.self.inside.mesh.height c.self.inside.cells c.self.inside.nodes.items c.self.inside.mesh.wide.0 c.self.invariant c.args.from l c.index_mut-pool.result.now c.index_mut-pool.ensures.value in
    let e : c.pop_front.new.self ≡ with_list (node_of c.self.inside.nodes.items c.args.from) c.way-way.result (drop 1 (list_of (node_of c.self.inside.nodes.items c.args.from) c.way-way.result)) =
    subst (λ p. c.pop_front.new.self ≡ with_list p c.way-way.result (drop 1 (list_of p c.way-way.result))) (sym n) c.pop_front.ensures.lists in
    subst (λ (k : LinksOf g.row.T.Denot). view_of c.self.inside.mesh.width c.self.inside.mesh.height c.self.inside.cells (set c.self.inside.nodes.items c.args.from c.pop_front.new.self) ≡ with_links k (put_list pair_cmp (c.args.from, c.args.to) (drop 1 (list_at pair_cmp (c.args.from, c.args.to) k.links)) k.links))
    c.self.view_is (moved c.self.inside.mesh.width c.self.inside.mesh.height c.self.inside.cells c.self.inside.nodes.items c.self.inside.mesh.wide.0 c.self.invariant c.args.from c.args.to c.way-way.result c.pop_front.new.self l c.way-way.ensures e)
