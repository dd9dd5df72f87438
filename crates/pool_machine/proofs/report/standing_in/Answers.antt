use Rattle.std.proofs.Common.{◌<◌, length, subst, sym, ◌∙◌}
use Rattle.std.proofs.lemmas.Option.{slice_get_within}
use Rattle.pool_node.specs.Standings.{told_standing}
use Rattle.run_types.specs.ObjectNames.{node_of, slot_of}
use Rattle.pool_machine.proofs.ReportedStandings.{Found, due_told, found_at, node_listed, none_on_mesh, on_way, slot_found, slot_told}
use Rattle.pool_machine.proofs.report.standing_in.Goals as goal

pub returns-then-is_on_way : goal.returns-then-is_on_way
returns-then-is_on_way c =
    let f : Found c.args.nodes.now c.args.name = slot_found c.args.nodes.now c.args.name (sym c.has_object.ensures ∙ c.if-not-has_object.false) in
    let y = c.is_on_way.ensures.yes c.if-is_on_way.true in
    due_told c.args.unit.now c.args.placement.now c.args.nodes.now c.args.links.now c.args.name f (on_way c.args.name (y.0, y.1) c.args.links.now.links y.2)

pub standing-requires-clause-unit : goal.standing-requires-clause-unit
standing-requires-clause-unit c =
    let f : Found c.args.nodes.now c.args.name = found_at c.args.nodes.now c.args.name (slot_found c.args.nodes.now c.args.name (sym c.has_object.ensures ∙ c.if-not-has_object.false))
    c.index-nodes-node.result (rw c.node_of-node.ensures.node at c.index-nodes-node.is) in
    (c.requires.kept.parts.each (node_of c.args.name) c.index-nodes-node.result f.node_is).of_unit

pub standing-requires-clause-slot : goal.standing-requires-clause-slot
standing-requires-clause-slot c =
    let f : Found c.args.nodes.now c.args.name = found_at c.args.nodes.now c.args.name (slot_found c.args.nodes.now c.args.name (sym c.has_object.ensures ∙ c.if-not-has_object.false))
    c.index-nodes-node.result (rw c.node_of-node.ensures.node at c.index-nodes-node.is) in
    rw c.slot_of.ensures.slot (slice_get_within c.index-nodes-node.result.state.slots (slot_of c.args.name) f.slot f.slot_is)

pub returns : goal.returns
returns c =
    let f : Found c.args.nodes.now c.args.name = found_at c.args.nodes.now c.args.name (slot_found c.args.nodes.now c.args.name (sym c.has_object.ensures ∙ c.if-not-has_object.false))
    c.index-nodes-node.result (rw c.node_of-node.ensures.node at c.index-nodes-node.is) in
    slot_told c.args.unit.now c.args.placement.now c.args.nodes.now c.args.links.now c.args.name f c.requires.kept.parts (told_standing c.standing.result)
    (none_on_mesh c.args.unit.now c.args.placement.now c.args.nodes.now c.args.links.now c.requires.kept c.args.name c.args.mesh.now.width c.args.mesh.now.height c.requires.mesh.width c.requires.mesh.height (c.is_on_way.ensures.no c.if-is_on_way.false))
    (λ s e. c.standing.ensures s (rw c.slot_of.ensures.slot e))

pub bounds-nodes-node : goal.bounds-nodes-node
bounds-nodes-node c = subst (λ n. n < length c.args.nodes.now) (sym c.node_of-node.ensures.node) (node_listed c.args.nodes.now c.args.name (sym c.has_object.ensures ∙ c.if-not-has_object.false))

pub is_on_way-requires : goal.is_on_way-requires
is_on_way-requires c = record {
  width = c.requires.mesh.width ∙ sym c.requires.kept.parts.width;
  height = c.requires.mesh.height ∙ sym c.requires.kept.parts.height;
}
