use Rattle.std.proofs.Common.{sym, ◌∙◌, ap, length, List, ℕ, get_or, arith}
use Rattle.code_semantics.specs.declared.unit.ClassCode.{ClassCode}
use Rattle.code_semantics.specs.Kinds.{code_kind}
use Rattle.node_heap.specs.Heaps.{object_at}
use Rattle.object_interp.specs.declared.types.Need.{Need}
use Rattle.object_interp.specs.declared.types.Hand.TheVariants as H
use Rattle.node_state.proofs.Laws.{slot_real, hand_new}
use Rattle.node_turns.proofs.Laws.{class_found, class_below, class_name}
use Rattle.pool_node.proofs.NodeReport.{calls, creates}
use Rattle.pool_node.proofs.standing.asking.Goals as goal

pub at_hand-requires-clause-fits : goal.at_hand-requires-clause-fits
at_hand-requires-clause-fits c = (slot_real c.args.unit.now c.args.parts.now c.requires.unit c.args.slot c.requires.slot).fits

pub at_hand-requires-clause-rests : goal.at_hand-requires-clause-rests
at_hand-requires-clause-rests c = (slot_real c.args.unit.now c.args.parts.now c.requires.unit c.args.slot c.requires.slot).rests

pub bounds-items-class : goal.bounds-items-class
bounds-items-class c =
    let w = hand_new c.args.unit.now (code_kind c.args.unit.now (object_at c.args.parts.now.heap c.args.slot)) c.in-At-New.class (sym (c.in-At-New.is ∙ ap (λ (d : Need). H.At d) c.in-At-New.field-0-is) ∙ c.at_hand.ensures) in
    let k = class_below c.args.unit.now w.0 c.in-At-New.class (class_found c.args.unit.now (object_at c.args.parts.now.heap c.args.slot) (slot_real c.args.unit.now c.args.parts.now c.requires.unit c.args.slot c.requires.slot).fits c.requires.unit.proper w.0 c.in-At-New.class w.1 w.2) in
    let e = ap (λ (ks : List ClassCode). length ks) c.items.ensures in omega (arith, k, e)

pub bounds-items-class-in-At-New : goal.bounds-items-class-in-At-New
bounds-items-class-in-At-New c =
    let w = hand_new c.args.unit.now (code_kind c.args.unit.now (object_at c.args.parts.now.heap c.args.slot)) c.in-At-New.class (sym (c.in-At-New.is ∙ ap (λ (d : Need). H.At d) c.in-At-New.field-0-is) ∙ c.at_hand.ensures) in
    let k = class_below c.args.unit.now w.0 c.in-At-New.class (class_found c.args.unit.now (object_at c.args.parts.now.heap c.args.slot) (slot_real c.args.unit.now c.args.parts.now c.requires.unit c.args.slot c.requires.slot).fits c.requires.unit.proper w.0 c.in-At-New.class w.1 w.2) in
    let e = ap (λ (ks : List ClassCode). length ks) c.items.ensures in omega (arith, k, e)

pub returns-in-At-New : goal.returns-in-At-New
returns-in-At-New c =
    let w = hand_new c.args.unit.now (code_kind c.args.unit.now (object_at c.args.parts.now.heap c.args.slot)) c.in-At-New.class (sym (c.in-At-New.is ∙ ap (λ (d : Need). H.At d) c.in-At-New.field-0-is) ∙ c.at_hand.ensures) in
    creates c.args.unit.now c.args.parts.now c.args.slot w.0 _ _ c.requires.out w.1 (class_name c.args.unit.now.classes c.items.result.now w.0 c.in-At-New.class _ (class_found c.args.unit.now (object_at c.args.parts.now.heap c.args.slot) (slot_real c.args.unit.now c.args.parts.now c.requires.unit c.args.slot c.requires.slot).fits c.requires.unit.proper w.0 c.in-At-New.class w.1 w.2) c.items.ensures) (ap (λ (gs : List ℕ). get_or gs c.args.slot 0) c.items-in-At-New.ensures)

pub returns-in-At-Send : goal.returns-in-At-Send
returns-in-At-Send c =
    calls c.args.unit.now c.args.parts.now c.args.slot c.in-At-Send.to c.in-At-Send.method c.in-At-Send.field-0-2 c.requires.out (sym (c.in-At-Send.is ∙ ap (λ (d : Need). H.At d) c.in-At-Send.field-0-is) ∙ c.at_hand.ensures)
