use Rattle.pool_syntax.specs.TreeOf.{program_of}
use Rattle.pool_semantics.specs.Plains.{configuration}
use Rattle.pool_semantics.proofs.SoundSteps.{sound_now}
use Rattle.pool_semantics.proofs.plain.Plain.labels.Goals as goal

pub push_objects-requires : goal.push_objects-requires
push_objects-requires c =
    let s = c.args.self.now.state in
    sound_now c.args.self.now.spent (program_of s.program.now) (configuration s) c.args.self.now.typed c.requires
