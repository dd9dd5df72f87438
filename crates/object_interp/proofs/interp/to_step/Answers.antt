use Rattle.std.proofs.Common.{sym, subst}
use Rattle.node_heap.specs.Heaps.{object_at}
use Rattle.code_semantics.specs.StepInstructions.{FitsUnit, IsAtStep}
use Rattle.object_interp.specs.SettledObject.{settled_at}
use Rattle.object_interp.proofs.RequestSteps.{settled_fits, settled_at_step}
use Rattle.object_interp.proofs.InnermostFrame.{has_top}
use Rattle.object_interp.proofs.Slots.{object_then}
use Rattle.object_interp.proofs.interp.to_step.Goals as goal

pub settle-requires-clause-top : goal.settle-requires-clause-top
settle-requires-clause-top c = has_top c.args.unit.now (object_at c.args.heap.now c.args.slot) c.requires.fits

pub returns-clause-fits : goal.returns-clause-fits
returns-clause-fits c =
    let u = c.args.unit.now in
    let h = c.args.heap.now in
    let x = object_at h c.args.slot in
    subst (FitsUnit u) (sym (object_then h c.settle.new.heap c.args.slot (settled_at u x) c.requires.slot c.settle.ensures))
    (settled_fits u c.requires.proper x c.requires.fits)

pub returns-clause-rests : goal.returns-clause-rests
returns-clause-rests c =
    let u = c.args.unit.now in
    let h = c.args.heap.now in
    let x = object_at h c.args.slot in
    subst (IsAtStep u) (sym (object_then h c.settle.new.heap c.args.slot (settled_at u x) c.requires.slot c.settle.ensures))
    (settled_at_step u c.requires.proper x c.requires.fits)
