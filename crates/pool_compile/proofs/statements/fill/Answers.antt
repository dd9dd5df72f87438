use Rattle.std.proofs.Common.{◌<◌, ap, sym, ◌∙◌, ◌+◌, drop, length, arith}
use Rattle.std.proofs.lemmas.List.{at_drop_more, at_drop_all, length-set}
use Rattle.std.proofs.lemmas.List.Elements.{All-get_or}
use Rattle.pool_compile.specs.Jumps.{filled}
use Rattle.pool_compile.proofs.statements.fill.Goals as goal

pub set-requires : goal.set-requires
set-requires c =
    let h = All-get_or (λ p. p < length c.args.code.now.code) c.args.places.now c.loop-place.place-index 0 (omega arith) c.requires in
    omega (arith, h, c.loop-place.invariant.1)

pub loop-place-preserved : goal.loop-place-preserved
loop-place-preserved c = (
  ap (λ x. filled x (drop (c.loop-place.place-index + 1) c.args.places.now) c.args.end) c.set.ensures
      ∙ sym (at_drop_more (λ ps. filled c.loop-place.code.code ps c.args.end) c.args.places.now c.loop-place.place-index 0 (omega arith))
      ∙ c.loop-place.invariant.0,
  ap length c.set.ensures ∙ length-set c.loop-place.code.code _ _ ∙ c.loop-place.invariant.1,
)

pub returns : goal.returns
returns c =
    sym (at_drop_all (λ ps. filled c.loop-place.code.code ps c.args.end) c.args.places.now c.loop-place.place-index (omega arith))
    ∙ c.loop-place.invariant.0
