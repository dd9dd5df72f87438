use Rattle.std.proofs.Common.{refl, arith}
use Rattle.std.proofs.lemmas.List.{at_drop_all}
use Rattle.object_code.specs.Known.{AlternativeIsKnown}
use Rattle.object_code.specs.Listing.{alternative_text, alternatives_text}
use Rattle.object_code.proofs.SequentialWrites.{holds_at, parts_at, rests_begin, rests_end, rests_step}
use Rattle.object_code.proofs.listing.put_alternatives.Goals as goal

pub put_alternative-requires : goal.put_alternative-requires
put_alternative-requires g c = holds_at (AlternativeIsKnown c.args.names.now) c.args.alts.now c.loop-alt.alt-index c.alt-item.result (omega arith) c.alt-item.is c.requires

pub loop-alt-init : goal.loop-alt-init
loop-alt-init g c = rests_begin _ _

pub loop-alt-preserved : goal.loop-alt-preserved
loop-alt-preserved g c =
    rests_step _ _ _ _ _ _ _ c.loop-alt.invariant
    (parts_at (alternatives_text c.args.names.now) (alternative_text c.args.names.now) c.args.alts.now c.loop-alt.alt-index c.alt-item.result (omega arith) c.alt-item.is (λ y ys. refl)) c.put_alternative.ensures

pub returns : goal.returns
returns g c = rests_end _ _ _ _ c.loop-alt.invariant (at_drop_all (alternatives_text c.args.names.now) c.args.alts.now c.loop-alt.alt-index (omega arith))
