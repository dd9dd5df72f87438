use Rattle.std.proofs.Common.{arith}
use Rattle.std.proofs.lemmas.List.{at_drop_more, at_drop_all}
use Rattle.pool_printer.proofs.SeparatedParts.{rests_step, rests_end}
use Rattle.pool_printer.proofs.token_writer.say_all.Goals as goal

pub loop-token-preserved : goal.loop-token-preserved
loop-token-preserved g c =
    rests_step _ _ _ _ _ _ _ _ c.loop-token.invariant (at_drop_more (λ l. l) c.args.tokens.now c.loop-token.token-index _ (omega arith)) c.say.ensures

pub returns : goal.returns
returns g c = rests_end _ _ _ _ _ c.loop-token.invariant (at_drop_all (λ l. l) c.args.tokens.now c.loop-token.token-index (omega arith))
