use Rattle.std.proofs.Common.{◌≡◌, ◌<◌, ◌≤◌, ◌*◌, sym, subst, [], ◌∷◌, ◌++◌, set, OnOk, IfErr, IsErr}
use Rattle.run_types.specs.Tables.{pair_cmp}
use Rattle.run_types.specs.LinkTables.{leaving, push_list}
use Rattle.cell_pool.specs.Lists.{list_of, with_list}
use Rattle.mesh_routing.specs.Links.{LinksOf, with_links}
use Rattle.mesh_routing.specs.Nodes.{view_of}
use Rattle.mesh_routing.proofs.LinkCalls.{is_node, full_there, within_there, put_kept, put_ok, put_err}
use Rattle.mesh_routing.proofs.links.Links.put.Goals as goal

pub invariant_of-self : goal.invariant_of-self
invariant_of-self g c =
    let l : c.args.from < c.self.inside.mesh.width * c.self.inside.mesh.height = subst (λ (k : LinksOf g.row.T.Denot). c.args.from < k.width * k.height) (sym c.self.view_is) c.requires.link.0 in
    let n = is_node c.self.inside.mesh.width c.self.inside.mesh.height c.self.inside.cells c.self.inside.nodes.items c.self.inside.mesh.wide.0 c.self.invariant c.args.from l c.index_mut-pool.result.now c.index_mut-pool.ensures.value in
    let ok = subst (λ p. OnOk c.push_back.result (c.push_back.new.self ≡ with_list p c.way-way.result (list_of p c.way-way.result ++ c.args.packet ∷ []))) (sym n) c.push_back.ensures.ok in
    let err = subst (λ p. IfErr c.push_back.result (λ v. (v ≡ c.args.packet) × (c.push_back.new.self ≡ p))) (sym n) c.push_back.ensures.err in
    put_kept c.self.inside.mesh.width c.self.inside.mesh.height c.self.inside.cells c.self.inside.nodes.items c.self.inside.mesh.wide.0 c.self.invariant c.args.from c.args.to c.way-way.result c.args.packet c.push_back.new.self l c.way-way.ensures c.push_back.result ok err

pub returns-clause-full : goal.returns-clause-full
returns-clause-full g c =
    let l : c.args.from < c.self.inside.mesh.width * c.self.inside.mesh.height = subst (λ (k : LinksOf g.row.T.Denot). c.args.from < k.width * k.height) (sym c.self.view_is) c.requires.link.0 in
    subst (λ (k : LinksOf g.row.T.Denot). (IsErr c.push_back.result → leaving k.links c.args.from ≡ k.cells) × (leaving k.links c.args.from ≡ k.cells → IsErr c.push_back.result)) c.self.view_is
    (full_there c.self.inside.mesh.width c.self.inside.mesh.height c.self.inside.cells c.self.inside.nodes.items c.self.inside.mesh.wide.0 c.self.invariant c.args.from l c.index_mut-pool.result.now c.index_mut-pool.ensures.value (IsErr c.push_back.result) c.push_back.ensures.full c.push_back.ensures.within)

pub returns-clause-within : goal.returns-clause-within
returns-clause-within g c =
    let l : c.args.from < c.self.inside.mesh.width * c.self.inside.mesh.height = subst (λ (k : LinksOf g.row.T.Denot). c.args.from < k.width * k.height) (sym c.self.view_is) c.requires.link.0 in
    subst (λ (k : LinksOf g.row.T.Denot). leaving k.links c.args.from ≤ k.cells) c.self.view_is
    (within_there c.self.inside.mesh.width c.self.inside.mesh.height c.self.inside.cells c.self.inside.nodes.items c.self.inside.mesh.wide.0 c.self.invariant c.args.from l c.index_mut-pool.result.now c.index_mut-pool.ensures.value c.push_back.ensures.within)

pub returns-clause-ok : goal.returns-clause-ok
returns-clause-ok g c =
    let l : c.args.from < c.self.inside.mesh.width * c.self.inside.mesh.height = subst (λ (k : LinksOf g.row.T.Denot). c.args.from < k.width * k.height) (sym c.self.view_is) c.requires.link.0 in
    let n = is_node c.self.inside.mesh.width c.self.inside.mesh.height c.self.inside.cells c.self.inside.nodes.items c.self.inside.mesh.wide.0 c.self.invariant c.args.from l c.index_mut-pool.result.now c.index_mut-pool.ensures.value in
    let ok = subst (λ p. OnOk c.push_back.result (c.push_back.new.self ≡ with_list p c.way-way.result (list_of p c.way-way.result ++ c.args.packet ∷ []))) (sym n) c.push_back.ensures.ok in
    subst (λ (k : LinksOf g.row.T.Denot). OnOk c.push_back.result (view_of c.self.inside.mesh.width c.self.inside.mesh.height c.self.inside.cells (set c.self.inside.nodes.items c.args.from c.push_back.new.self) ≡ with_links k (push_list pair_cmp (c.args.from, c.args.to) c.args.packet k.links)))
    c.self.view_is (put_ok c.self.inside.mesh.width c.self.inside.mesh.height c.self.inside.cells c.self.inside.nodes.items c.self.inside.mesh.wide.0 c.self.invariant c.args.from c.args.to c.way-way.result c.args.packet c.push_back.new.self l c.way-way.ensures c.push_back.result ok)

pub returns-clause-err : goal.returns-clause-err
returns-clause-err g c =
    let l : c.args.from < c.self.inside.mesh.width * c.self.inside.mesh.height = subst (λ (k : LinksOf g.row.T.Denot). c.args.from < k.width * k.height) (sym c.self.view_is) c.requires.link.0 in
    let n = is_node c.self.inside.mesh.width c.self.inside.mesh.height c.self.inside.cells c.self.inside.nodes.items c.self.inside.mesh.wide.0 c.self.invariant c.args.from l c.index_mut-pool.result.now c.index_mut-pool.ensures.value in
    let err = subst (λ p. IfErr c.push_back.result (λ v. (v ≡ c.args.packet) × (c.push_back.new.self ≡ p))) (sym n) c.push_back.ensures.err in
    subst (λ (k : LinksOf g.row.T.Denot). IfErr c.push_back.result (λ v. (v ≡ c.args.packet) × (view_of c.self.inside.mesh.width c.self.inside.mesh.height c.self.inside.cells (set c.self.inside.nodes.items c.args.from c.push_back.new.self) ≡ k)))
    c.self.view_is (put_err c.self.inside.mesh.width c.self.inside.mesh.height c.self.inside.cells c.self.inside.nodes.items c.self.inside.mesh.wide.0 c.self.invariant c.args.from c.args.to c.way-way.result c.args.packet c.push_back.new.self l c.way-way.ensures c.push_back.result err)
