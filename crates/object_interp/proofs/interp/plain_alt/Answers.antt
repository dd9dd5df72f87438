use Rattle.std.proofs.Common.{sym, ap, ◌∙◌, length, Some, None, arith}
use Rattle.code_semantics.specs.declared.unit.Instr.TheVariants as I
use Rattle.node_heap.specs.Heaps.{object_at}
use Rattle.object_interp.proofs.InnermostFrame.{has_top}
use Rattle.object_interp.proofs.InstructionFacts.{instr_known}
use Rattle.object_interp.proofs.RequestSteps.{plain_offered, none_by}
use Rattle.object_interp.proofs.interp.plain_alt.Goals as goal

pub open_alt-requires-clause-enough : goal.open_alt-requires-clause-enough
open_alt-requires-clause-enough c =
    let u = c.args.unit.now in
    let x = object_at c.args.heap.now c.args.slot in
    let t = has_top u x c.requires.fits in
    let e = c.instr_at.ensures ∙ ap Some c.in-Select.is in
    let known = instr_known u c.requires.proper x t (I.Select c.in-Select.alts) e in
    omega (arith, known.enough, ap length c.items.ensures)

pub open_alt-requires-clause-few : goal.open_alt-requires-clause-few
open_alt-requires-clause-few c =
    let u = c.args.unit.now in
    let x = object_at c.args.heap.now c.args.slot in
    let t = has_top u x c.requires.fits in
    let e = c.instr_at.ensures ∙ ap Some c.in-Select.is in
    let known = instr_known u c.requires.proper x t (I.Select c.in-Select.alts) e in
    omega (arith, known.enough, known.few, ap length c.items.ensures)

pub returns-in-Some : goal.returns-in-Some
returns-in-Some c =
    let u = c.args.unit.now in
    let x = object_at c.args.heap.now c.args.slot in
    let t = has_top u x c.requires.fits in
    let e = c.instr_at.ensures ∙ ap Some c.in-Select.is in
    none_by c.in-Some.alternative.now.answer c.is_none.result c.is_none.ensures ∙ sym (plain_offered u x t c.in-Select.alts e c.items.result.now c.items.ensures c.args.alt (Some c.in-Some.alternative.now) c.in-Some.ensures)

pub returns-in-None : goal.returns-in-None
returns-in-None c =
    let u = c.args.unit.now in
    let x = object_at c.args.heap.now c.args.slot in
    let t = has_top u x c.requires.fits in
    let e = c.instr_at.ensures ∙ ap Some c.in-Select.is in
    sym (plain_offered u x t c.in-Select.alts e c.items.result.now c.items.ensures c.args.alt None c.in-None.ensures)
