use Rattle.std.proofs.Common.{◌≡◌, ◌<◌, ◌*◌, ◌∙◌, refl, ap, subst, sym}
use Rattle.std.specs.Prelude.{IfSome, IsNone}
use Rattle.mesh_routing.specs.Links.{with_links}
use Rattle.run_types.specs.LinkTables.{push_list}
use Rattle.run_types.specs.Tables.{pair_cmp}
use Rattle.run_types.specs.Paths.{AreNeighbours, IsLink, next}
use Rattle.pool_machine.proofs.PostedPackets.{was_put}
use Rattle.pool_machine.proofs.turns.post.Goals as goal

pub put-requires : goal.put-requires
put-requires c =
    let l : IsLink c.args.table.now (c.args.at, c.in-Some.next) = subst (λ r. IfSome r (λ n. IsLink c.args.table.now (c.args.at, n))) c.in-Some.is c.next.ensures.link in
    record {
      link =
          subst (λ w. (c.args.at < w * c.args.links.now.height) × (c.in-Some.next < w * c.args.links.now.height) × AreNeighbours w c.args.at c.in-Some.next) c.requires.width
          (subst (λ h. (c.args.at < c.args.table.now.width * h) × (c.in-Some.next < c.args.table.now.width * h) × AreNeighbours c.args.table.now.width c.args.at c.in-Some.next) c.requires.height
          (l.from, l.to, l.beside));
    }

pub next-requires : goal.next-requires
next-requires c = record {
  at = c.requires.at;
  to = subst (λ n. n < c.args.table.now.width * c.args.table.now.height) (sym c.goal-to.ensures) c.requires.goal;
}

pub returns-in-Some : goal.returns-in-Some
returns-in-Some c =
    let is : c.in-Some.next ≡ next c.args.table.now c.args.at c.goal-to.result = subst (λ r. IfSome r (λ n. n ≡ next c.args.table.now c.args.at c.goal-to.result)) c.in-Some.is c.next.ensures.some in
    was_put c.put.result c.put.ensures.full c.requires.room c.put.ensures.ok
    ∙ ap (λ n. with_links c.args.links.now (push_list pair_cmp (c.args.at, n) c.args.packet.now c.args.links.now.links)) (is ∙ ap (next c.args.table.now c.args.at) c.goal-to.ensures)

pub returns-in_default : goal.returns-in_default
returns-in_default c = absurd (c.requires.away (c.next.ensures.none.0 (subst IsNone (sym c.in_default.is) refl) ∙ c.goal-to.ensures))
