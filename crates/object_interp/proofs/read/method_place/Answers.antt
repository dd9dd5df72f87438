use Rattle.std.proofs.Common.{ap, ◌∙◌, sym, length, arith}
use Rattle.std.proofs.lemmas.Option.{slice_get_read}
use Rattle.std.specs.Prelude.{slice_get}
use Rattle.object_interp.proofs.InnermostFrame.{method_first}
use Rattle.object_interp.proofs.read.method_place.Goals as goal

pub returns-then-method-name : goal.returns-then-method-name
returns-then-method-name c =
    let here = ap (λ ms. slice_get ms c.loop-place.place) (sym c.items-method-items.ensures)
    ∙ slice_get_read c.items-method-items.result.now (length c.items-method-items.result.now) c.loop-place.place c.method-item.result (omega arith)
    (omega arith) c.method-item.is in (
      c.method-item.result,
      here,
      c.loop-place.invariant ∙ method_first c.args.class.now.methods c.loop-place.place c.method-item.result c.args.name here c.if-method-name.true,
    )
