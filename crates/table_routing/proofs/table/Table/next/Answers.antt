use Rattle.std.proofs.Common.{◌≡◌, ◌<◌, ◌+◌, ◌*◌, sym, subst}
use Rattle.run_types.specs.declared.types.Placement.{Placement}
use Rattle.run_types.specs.Paths.{IsLink, next}
use Rattle.run_types.proofs.Laws.{routed_ways}
use Rattle.table_routing.specs.Tables.{size}
use Rattle.table_routing.specs.RoutesOf.{AreRoutesOf}
use Rattle.table_routing.proofs.Places.{entry, place_there}
use Rattle.table_routing.proofs.table.Table.next.Goals as goal

pub index-requires : goal.index-requires
index-requires c =
    let l = c.self.inside.placement.now in
    let r = c.routes-routes.result.now in
    let t = subst (AreRoutesOf l) (sym c.routes-routes.ensures) c.self.invariant in
    let at : c.args.at < size l = subst (λ (p : Placement). c.args.at < size p) (sym c.self.view_is) c.requires.at in
    let to : c.args.to < size l = subst (λ (p : Placement). c.args.to < size p) (sym c.self.view_is) c.requires.to in
    subst (λ n. c.args.at * (r.mesh.width * r.mesh.height) + c.args.to < n) (sym r.nexts.ok.0)
    (place_there l r.nexts.items r.mesh.width r.mesh.height c.args.at c.args.to t.width t.height t.nexts at to)

pub returns-clause-some : goal.returns-clause-some
returns-clause-some c =
    let l = c.self.inside.placement.now in
    let r = c.routes-routes.result.now in
    let t = subst (AreRoutesOf l) (sym c.routes-routes.ensures) c.self.invariant in
    let at : c.args.at < size l = subst (λ (p : Placement). c.args.at < size p) (sym c.self.view_is) c.requires.at in
    let to : c.args.to < size l = subst (λ (p : Placement). c.args.to < size p) (sym c.self.view_is) c.requires.to in
    subst (λ (p : Placement). c.index.result.now ≡ next p c.args.at c.args.to) c.self.view_is
    (entry l r.nexts.items r.mesh.width r.mesh.height c.args.at c.args.to c.index.result.now t.width t.height t.nexts at to c.if-at-to.false c.index.ensures)

pub returns-clause-link : goal.returns-clause-link
returns-clause-link c =
    let l = c.self.inside.placement.now in
    let r = c.routes-routes.result.now in
    let t = subst (AreRoutesOf l) (sym c.routes-routes.ensures) c.self.invariant in
    let at : c.args.at < size l = subst (λ (p : Placement). c.args.at < size p) (sym c.self.view_is) c.requires.at in
    let to : c.args.to < size l = subst (λ (p : Placement). c.args.to < size p) (sym c.self.view_is) c.requires.to in
    let is = entry l r.nexts.items r.mesh.width r.mesh.height c.args.at c.args.to c.index.result.now t.width t.height t.nexts at to c.if-at-to.false c.index.ensures in
    subst (λ (p : Placement). IsLink p (c.args.at, c.index.result.now)) c.self.view_is
    (subst (λ n. IsLink l (c.args.at, n)) (sym is) ((routed_ways l t.routed t.paths).link c.args.at c.args.to at to c.if-at-to.false))
