use Rattle.std.proofs.Common.{rules}
use Rattle.code_typing.specs.StackEffects.{stack_of}
use Rattle.code_typing.proofs.StackPops.{guards_end}
use Rattle.code_typing.proofs.cell.Stacks.pop_guards.Goals as goal

pub returns-in_err-rest-clause-stack : goal.returns-in_err-rest-clause-stack
returns-in_err-rest-clause-stack c =
    let s = c.args.self.now in
    guards_end s c.loop.counter c.args.count (stack_of s c.args.stack) c.loop.rest c.pop_fitting.result c.from_residual.result (search rules) c.loop.invariant.0 c.pop_fitting.ensures.stack
    (search rules) (search rules)
