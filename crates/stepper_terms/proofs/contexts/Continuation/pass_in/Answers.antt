use Rattle.std.proofs.Common.{arith}
use Rattle.std.proofs.lemmas.Grind.{common_steps}
use Rattle.stepper_terms.proofs.NextFocus.{value_in_post}
use Rattle.stepper_terms.proofs.contexts.Continuation.pass_in.Goals as goal

pub returns-in-Post : goal.returns-in-Post
returns-in-Post c =
    let e = value_in_post c.args.self.now.calls.items c.args.call c.args.value c.in-Post.value c.dropped.result c.in-Post.is c.dropped.ensures in
    grind (arith, common_steps, e)
