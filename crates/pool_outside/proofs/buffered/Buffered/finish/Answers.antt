use Rattle.std.proofs.Common.{subst}
use Rattle.std.proofs.lemmas.Result.{on_err_weaker}
use Rattle.pool_outside.specs.Outside.{IsProperFront}
use Rattle.pool_outside.proofs.Buffer.{front_at_end}
use Rattle.pool_outside.proofs.buffered.Buffered.finish.Goals as goal

pub returns-clause-front : goal.returns-clause-front
returns-clause-front g c =
    let had = g.K.Sink.written c.args.self.sink.now in
    let has = g.K.Sink.written c.write_all_of-outcome.new.sink in
    on_err_weaker c.write_all_of-outcome.result
    (λ f text e. front_at_end g.B.Behind.start had has c.args.self.bytes text (subst (λ bytes. IsProperFront had bytes has) c.as_slice.ensures f) c.args.self.grown e)
    c.write_all_of-outcome.ensures.front
