use Rattle.std.proofs.Common.{◌∙◌, ap, length, Some, arith}
use Rattle.code_semantics.specs.declared.unit.Instr.TheVariants as I
use Rattle.node_heap.specs.Heaps.{object_at, top_at}
use Rattle.object_interp.proofs.InstructionFacts.{instr_known}
use Rattle.object_interp.proofs.RequestSteps.{else_alone}
use Rattle.object_interp.proofs.hands.alone_at.Goals as goal

pub overflow_cast-items : goal.overflow_cast-items
overflow_cast-items c =
    let x = object_at c.args.heap.now c.args.slot in
    let known = instr_known c.args.unit.now c.requires.proper x c.requires.top (I.Select c.in-Select.alts) (c.requires.at ∙ ap Some c.in-Select.is) in
    omega (arith, known.enough, known.few, ap length c.items.ensures)

pub select_fails-requires-clause-enough : goal.select_fails-requires-clause-enough
select_fails-requires-clause-enough c =
    let x = object_at c.args.heap.now c.args.slot in
    let known = instr_known c.args.unit.now c.requires.proper x c.requires.top (I.Select c.in-Select.alts) (c.requires.at ∙ ap Some c.in-Select.is) in
    omega (arith, known.enough, ap length c.items.ensures)

pub returns-in_default : goal.returns-in_default
returns-in_default c = else_alone (top_at c.args.heap.now c.args.slot) c.args.instr.now c.in_default.not-Halt c.in_default.not-Answer c.in_default.not-Select
