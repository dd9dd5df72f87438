use Rattle.std.proofs.Common.{◌∙◌, sym}
use Rattle.object_interp.proofs.SilentSteps.{settled_in}
use Rattle.object_interp.proofs.moves.settle.Goals as goal

pub settle_in-requires-clause-top : goal.settle_in-requires-clause-top
settle_in-requires-clause-top c = (c.args.unit.now, c.requires.proper, c.requires.top, c.code_at-code.ensures)

pub returns : goal.returns
returns c = c.settle_in.ensures ∙ sym (settled_in c.args.unit.now c.args.heap.now c.args.slot c.code_at-code.result.now c.requires.top c.code_at-code.ensures)
