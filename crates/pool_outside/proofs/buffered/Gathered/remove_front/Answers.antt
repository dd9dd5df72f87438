use Rattle.std.proofs.Common.{arith}
use Rattle.pool_outside.proofs.Buffer.{moved_front}
use Rattle.pool_outside.proofs.buffered.Gathered.remove_front.Goals as goal

pub returns : goal.returns
returns c =
    moved_front c.self.inside.bytes c.copy_within.new.self c.args.self.now c.args.taken c.self.inside.count c.self.view_is c.copy_within.ensures.after c.requires (omega arith)
