use Rattle.pool_outside.proofs.Buffer.{front_of}
use Rattle.pool_outside.proofs.buffered.Buffered.abandon.Goals as goal

pub returns-clause-front : goal.returns-clause-front
returns-clause-front g c text f =
    front_of g.B.Behind.start (g.K.Sink.written c.args.self.sink.now) c.args.self.bytes text f c.args.self.grown
