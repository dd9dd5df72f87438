use Rattle.std.proofs.Common.{◌≡◌, List, length, sym, ap, ◌∙◌, arith}
use Rattle.run_types.specs.declared.frames.CodeObject.{CodeObject}
use Rattle.node_heap.specs.Heaps.{frames_of}
use Rattle.mesh_of_code.specs.Coded.{placed}
use Rattle.node_turns.proofs.Laws.{class_below}
use Rattle.node_state.proofs.Laws.{on_ok}
use Rattle.pool_node.proofs.NodeReport.{nothing_there, ok_of, root_is, root_named}
use Rattle.pool_node.proofs.making_node.start_in.Goals as goal

pub add-requires-clause-class : goal.add-requires-clause-class
add-requires-clause-class c = class_below c.args.unit.now _ c.in-Some.place (sym c.class_named.ensures ∙ c.in-Some.is)

pub returns-in-Some-clause-root : goal.returns-in-Some-clause-root
returns-in-Some-clause-root c =
    let n = ap (λ (xs : List CodeObject). length xs) (nothing_there c.args.parts.now c.requires.empty) in
    let f : frames_of c.args.parts.now.heap.objects ≡ 0 = ap frames_of (nothing_there c.args.parts.now c.requires.empty) in
    let ok = ok_of c.add.result (λ z. let w = c.add.ensures.objects.0 z in let r = c.requires.whole.room in omega (arith, w, n, r))
    (λ z. let w = c.add.ensures.frames.0 z in let r = c.requires.whole.frames in let v = w.1 in omega (arith, v, f, r)) in
    let a = on_ok c.add.result _ c.add.ensures.added ok in
    (placed a.0, root_is c.args.unit.now c.items-classes.result.now c.index-classes-classes.result c.requires.unit.proper.classes.0 c.items-classes.ensures c.in-Some.place a.0 (sym c.class_named.ensures ∙ c.in-Some.is) a.1, a.2)

pub returns-in_default-clause-root : goal.returns-in_default-clause-root
returns-in_default-clause-root c = absurd (root_named c.args.unit.now c.items-classes.result.now c.index-classes-classes.result c.requires.unit.proper.classes.0 c.items-classes.ensures (sym c.class_named.ensures ∙ c.in_default.is))
