use Rattle.std.proofs.Common.{◌≡◌, ◌-◌, ◌<◌, ◌∙◌, ap, suc, drop, length, rules}
use Rattle.std.proofs.Math.Seq.{drop-cons}
use Rattle.code_typing.specs.Sorts.{pop_arguments}
use Rattle.code_typing.specs.StackEffects.{stack_of}
use Rattle.code_typing.proofs.StackPops.{arguments_end}
use Rattle.code_typing.proofs.cell.Stacks.pop_arguments.Goals as goal

pub returns-in_err-rest-clause-stack : goal.returns-in_err-rest-clause-stack
returns-in_err-rest-clause-stack c =
    let s = c.args.self.now in
    let ks = c.args.params.now in
    let i = c.loop-i.i in
    let inside : i - 1 < length ks = search rules in
    let next : suc (i - 1) ≡ i = search rules in
    arguments_end s ks (i - 1) _ (stack_of s c.args.stack) c.loop-i.rest _ c.pop_fitting.result c.from_residual.result (drop-cons ks (i - 1) _ inside)
    (ap (λ n. pop_arguments (drop n ks) (stack_of s c.args.stack)) next ∙ c.loop-i.invariant.0) c.kind_sort.ensures c.pop_fitting.ensures.stack (search rules) (search rules)
