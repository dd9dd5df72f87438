use Rattle.std.proofs.Common.{◌<◌, List, sym, ap, subst, ◌∙◌, length, get_or, Some}
use Rattle.code_semantics.specs.declared.unit.ClassCode.{ClassCode}
use Rattle.std.proofs.lemmas.Option.{slice_get_within}
use Rattle.run_types.specs.ObjectNames.{slot_of}
use Rattle.pool_machine.proofs.ReportedStandings.{Found, class_below, class_is_told, found_at, node_listed, slot_found}
use Rattle.pool_machine.proofs.report.class_in.Goals as goal

pub bounds-items-class : goal.bounds-items-class
bounds-items-class c =
    let f : Found c.args.nodes.now c.args.name = found_at c.args.nodes.now c.args.name (slot_found c.args.nodes.now c.args.name (sym c.has_object.ensures ∙ c.if-not-has_object.false))
    c.index-nodes-node.result (rw c.node_of-node.ensures.node at c.index-nodes-node.is) in
    subst (λ (ks : List ClassCode). c.class_of-class.result < length ks) (sym c.items.ensures)
    (class_below c.args.unit.now c.args.nodes.now c.args.name f c.requires c.class_of-class.result (c.class_of-class.ensures f.slot (rw c.slot_of.ensures.slot f.slot_is)))

pub bounds-items-class-else-not-has_object : goal.bounds-items-class-else-not-has_object
bounds-items-class-else-not-has_object c =
    let f : Found c.args.nodes.now c.args.name = found_at c.args.nodes.now c.args.name (slot_found c.args.nodes.now c.args.name (sym c.has_object.ensures ∙ c.if-not-has_object.false))
    c.index-nodes-node.result (rw c.node_of-node.ensures.node at c.index-nodes-node.is) in
    subst (λ (ks : List ClassCode). c.class_of-class.result < length ks) (sym c.items.ensures)
    (class_below c.args.unit.now c.args.nodes.now c.args.name f c.requires c.class_of-class.result (c.class_of-class.ensures f.slot (rw c.slot_of.ensures.slot f.slot_is)))

pub returns : goal.returns
returns c =
    let f : Found c.args.nodes.now c.args.name = found_at c.args.nodes.now c.args.name (slot_found c.args.nodes.now c.args.name (sym c.has_object.ensures ∙ c.if-not-has_object.false))
    c.index-nodes-node.result (rw c.node_of-node.ensures.node at c.index-nodes-node.is) in
    ap (λ (ks : List ClassCode). Some (get_or ks c.class_of-class.result c.index-items-class.result).name.0) c.items.ensures
    ∙ class_is_told c.args.unit.now c.args.nodes.now c.args.name f c.requires c.class_of-class.result c.index-items-class.result (c.class_of-class.ensures f.slot (rw c.slot_of.ensures.slot f.slot_is))

pub bounds-nodes-node : goal.bounds-nodes-node
bounds-nodes-node c = subst (λ n. n < length c.args.nodes.now) (sym c.node_of-node.ensures.node) (node_listed c.args.nodes.now c.args.name (sym c.has_object.ensures ∙ c.if-not-has_object.false))

pub class_of-class-requires : goal.class_of-class-requires
class_of-class-requires c =
    let f : Found c.args.nodes.now c.args.name = found_at c.args.nodes.now c.args.name (slot_found c.args.nodes.now c.args.name (sym c.has_object.ensures ∙ c.if-not-has_object.false))
    c.index-nodes-node.result (rw c.node_of-node.ensures.node at c.index-nodes-node.is) in
    subst (λ n. n < length f.node.state.slots) (sym c.slot_of.ensures.slot) (slice_get_within f.node.state.slots (slot_of c.args.name) f.slot f.slot_is)
