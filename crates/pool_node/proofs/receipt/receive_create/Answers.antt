use Rattle.std.proofs.Common.{refl, sym, ap, ◌∙◌, arith}
use Rattle.node_semantics.specs.Node.{name_at}
use Rattle.node_turns.proofs.Laws.{no_fewer, some_placed}
use Rattle.pool_node.proofs.PacketReceipt.{create_heap, create_frames, create_cells, create_made}
use Rattle.pool_node.proofs.receipt.receive_create.Goals as goal

pub returns-then-objects-plan : goal.returns-then-objects-plan
returns-then-objects-plan c = λ goal. let y = some_placed c.args.plan.now.unit.now c.args.creating.name c.args.creating.class c.requires.named in create_heap c.args.plan.now.unit.now c.args.plan.now.placement.now c.args.plan.now.leaving c.args.parts.now c.requires.set c.args.creating.number c.args.creating.from c.args.creating.class c.args.creating.name c.requires.named y.0 y.1 goal _ refl (omega arith)

pub returns-then-frames-plan : goal.returns-then-frames-plan
returns-then-frames-plan c = λ goal. let y = some_placed c.args.plan.now.unit.now c.args.creating.name c.args.creating.class c.requires.named in create_frames c.args.plan.now.unit.now c.args.plan.now.placement.now c.args.plan.now.leaving c.args.parts.now c.requires.set c.args.creating.number c.args.creating.from c.args.creating.class c.args.creating.name c.requires.named y.0 y.1 goal _ refl (omega arith) (omega arith)

pub returns-then-no_cell : goal.returns-then-no_cell
returns-then-no_cell c = λ goal. let y = some_placed c.args.plan.now.unit.now c.args.creating.name c.args.creating.class c.requires.named in create_cells c.args.plan.now.unit.now c.args.plan.now.placement.now c.args.plan.now.leaving c.args.parts.now c.requires.set c.args.creating.number c.args.creating.from c.args.creating.class c.args.creating.name c.requires.named y.0 y.1 goal _ refl (omega arith) (omega arith) (sym c.if-no_cell.true ∙ c.no_cell.ensures)

pub name_of-object-requires-clause-slot : goal.name_of-object-requires-clause-slot
name_of-object-requires-clause-slot c = no_fewer c.args.plan.now.unit.now c.args.parts.now c.add.new.self _ c.in-Ok.ensures.added.2 c.in-Ok.new c.in-Ok.ensures.slot

pub returns-in-Err-Objects : goal.returns-in-Err-Objects
returns-in-Err-Objects c = λ goal.
    let full = c.add.ensures.objects.0 (cc) in
    let e = c.requires.set.placement.objects in absurd (omega (arith, full, e))

pub returns-in-Err-Frames : goal.returns-in-Err-Frames
returns-in-Err-Frames c = λ goal.
    let full = c.add.ensures.frames.0 (cc) in
    let e = c.requires.set.placement.frames in absurd (omega (arith, full, e))

pub returns-in-Ok : goal.returns-in-Ok
returns-in-Ok c = λ goal.
    create_made c.args.plan.now.unit.now c.args.plan.now.placement.now c.args.plan.now.leaving c.args.parts.now c.requires.set c.args.creating.number c.args.creating.from c.args.creating.class c.args.creating.name c.requires.named c.in-Ok.ensures.added.0 c.in-Ok.ensures.added.1 goal c.add.new.self c.step-room.result c.name_of-object.result c.in-Ok.ensures.added.2
    (c.name_of-object.ensures ∙ ap (λ j. name_at c.add.new.self.id j) c.in-Ok.ensures.slot) c.step-room.ensures (sym c.if-no_cell.false ∙ c.no_cell.ensures)
