use Rattle.std.proofs.Common.{◌≡◌, ◌∷◌, ◌++◌, List, [], suc, refl, subst, ap, ◌∙◌, Some, get_or, length, arith}
use Rattle.std.proofs.lemmas.Option.{slice_get_read}
use Rattle.std.specs.List.{slice_get}
use Rattle.run_types.specs.declared.types.Item.{Item}
use Rattle.visited_set.specs.declared.writings.Node.{Node}
use Rattle.visited_set.specs.WritingsOf.{lists_of}
use Rattle.visited_set.proofs.WrittenListsGrowth.{at_seen, number_within}
use Rattle.visited_set.proofs.writings.Writings.seen.Goals as goal

pub returns-then-same_item : goal.returns-then-same_item
returns-then-same_item c =
    let ns = c.args.self.now.nodes.items in
    let number = c.in_ok-number.field-0.now in
    let index = c.in_ok-index.index in
    let node = c.in_ok-node.node.now in
    let is : number ≡ suc index = omega (arith, c.in_ok-index.ensures) in
    let xs = c.as_slice.result.now in
    let l = c.in_ok-node.ensures.lookup in
    let there : slice_get ns index ≡ Some node =
    subst (λ (ys : List Node). slice_get ys index ≡ Some node) c.as_slice.ensures.value (slice_get_read xs (length xs) index node refl l.3.0 l.1) in
    let same : node.item ≡ c.args.item = c.same_item.ensures c.if-same_item.true in (
      at_seen ns number index c.args.before node is there (omega (arith, c.if-before-number.true)) c.if-node-before.true ∙ ap (λ (i : Item). get_or (lists_of c.args.self.now) c.args.before [] ++ i ∷ []) same,
      number_within ns number index node is there,
    )
