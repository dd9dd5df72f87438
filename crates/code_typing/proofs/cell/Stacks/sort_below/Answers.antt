use Rattle.std.proofs.Common.{◌-◌, ◌∙◌, rules}
use Rattle.code_typing.proofs.StackPops.{below_end, below_step}
use Rattle.code_typing.proofs.cell.Stacks.sort_below.Goals as goal

pub returns-in_err-rest : goal.returns-in_err-rest
returns-in_err-rest c =
    let s = c.args.self.now in
    below_end s (c.args.count - c.loop.counter) c.loop.rest c.pop_any.result c.from_residual.result c.pop_any.ensures.stack (search rules) (search rules) ∙ c.loop.invariant

pub loop-preserved : goal.loop-preserved
loop-preserved c =
    let s = c.args.self.now in
    below_step s c.args.count c.loop.counter c.loop.rest c.in_ok-rest.rest (search rules) c.in_ok-rest.ensures.stack ∙ c.loop.invariant
