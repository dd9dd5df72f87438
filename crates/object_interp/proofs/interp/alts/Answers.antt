use Rattle.std.proofs.Common.{ap, ◌∙◌, length, Some, arith}
use Rattle.code_semantics.specs.declared.unit.Instr.TheVariants as I
use Rattle.node_heap.specs.Heaps.{object_at}
use Rattle.object_interp.proofs.InnermostFrame.{has_top}
use Rattle.object_interp.proofs.InstructionFacts.{instr_known}
use Rattle.object_interp.proofs.RequestSteps.{count_offered}
use Rattle.object_interp.proofs.interp.alts.Goals as goal

pub overflow_cast-result : goal.overflow_cast-result
overflow_cast-result c =
    let u = c.args.unit.now in
    let x = object_at c.args.heap.now c.args.slot in
    let t = has_top u x c.requires.fits in
    let e = c.instr_at.ensures ∙ ap Some c.in-Select.is in
    let known = instr_known u c.requires.proper x t (I.Select c.in-Select.alts) e in
    omega (arith, known.enough, known.few, ap length c.items.ensures)

pub returns-in-Select-clause-count : goal.returns-in-Select-clause-count
returns-in-Select-clause-count c =
    let u = c.args.unit.now in
    let x = object_at c.args.heap.now c.args.slot in
    let t = has_top u x c.requires.fits in
    let e = c.instr_at.ensures ∙ ap Some c.in-Select.is in
    count_offered u x t c.in-Select.alts e c.items.result.now c.items.ensures

pub returns-in-Select-clause-few : goal.returns-in-Select-clause-few
returns-in-Select-clause-few c =
    let u = c.args.unit.now in
    let x = object_at c.args.heap.now c.args.slot in
    let t = has_top u x c.requires.fits in
    let e = c.instr_at.ensures ∙ ap Some c.in-Select.is in
    let known = instr_known u c.requires.proper x t (I.Select c.in-Select.alts) e in
    omega (arith, known.enough, known.few, ap length c.items.ensures)
