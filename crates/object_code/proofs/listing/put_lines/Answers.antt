use Rattle.std.proofs.Common.{arith}
use Rattle.std.proofs.lemmas.List.{at_drop_all}
use Rattle.object_code.specs.Known.{InstrIsKnown}
use Rattle.object_code.specs.Listing.{lines_text}
use Rattle.object_code.proofs.SequentialWrites.{holds_at, lines_at, rests_begin, rests_end, rests_step}
use Rattle.object_code.proofs.listing.put_lines.Goals as goal

pub put_line-requires : goal.put_line-requires
put_line-requires g c = holds_at (InstrIsKnown c.args.names.now) c.args.code.now c.loop-at.at c.index-code-at.result (omega arith) c.index-code-at.is c.requires

pub loop-at-init : goal.loop-at-init
loop-at-init g c = rests_begin _ _

pub loop-at-preserved : goal.loop-at-preserved
loop-at-preserved g c =
    rests_step _ _ _ _ _ _ _ c.loop-at.invariant (lines_at _ _ _ c.index-code-at.result (omega arith) c.index-code-at.is) c.put_line.ensures

pub returns : goal.returns
returns g c = rests_end _ _ _ _ c.loop-at.invariant (at_drop_all (lines_text c.args.names.now c.loop-at.at) c.args.code.now c.loop-at.at (omega arith))
