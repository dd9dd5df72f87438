use Rattle.std.proofs.Common.{ap, ◌∙◌, sym, length, arith}
use Rattle.std.specs.Prelude.{slice_get}
use Rattle.std.proofs.lemmas.Option.{slice_get_within, slice_get_read}
use Rattle.node_heap.specs.Heaps.{object_at, top_at}
use Rattle.object_interp.specs.Tops.{code_in}
use Rattle.object_interp.proofs.InnermostFrame.{at_hand}
use Rattle.object_interp.proofs.read.instr_at.Goals as goal

pub bounds-code_at-at : goal.bounds-code_at-at
bounds-code_at-at c =
    let x = object_at c.args.heap.now c.args.slot in
    let i = at_hand c.args.unit.now c.requires.proper x c.requires.top in
    let within = slice_get_within (code_in c.args.unit.now x) (top_at c.args.heap.now c.args.slot).at i.0 i.1 in
    omega (arith, within, ap length c.code_at.ensures)

pub returns : goal.returns
returns c =
    let x = object_at c.args.heap.now c.args.slot in
    let i = at_hand c.args.unit.now c.requires.proper x c.requires.top in
    let within = slice_get_within (code_in c.args.unit.now x) (top_at c.args.heap.now c.args.slot).at i.0 i.1 in
    ap (λ code. slice_get code (top_at c.args.heap.now c.args.slot).at) (sym c.code_at.ensures)
    ∙ ap (slice_get c.code_at.result.now) (sym c.at.ensures)
    ∙ slice_get_read c.code_at.result.now (length c.code_at.result.now) c.at.result c.index-code_at-at.result (omega arith)
    (omega (arith, within, ap length c.code_at.ensures)) c.index-code_at-at.is
