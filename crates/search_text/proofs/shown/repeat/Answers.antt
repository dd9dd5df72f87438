use Rattle.std.proofs.Common.{◌≡◌, ◌∙◌, ◌+◌, ◌-◌, Option, Some, None, Err, replicate, ap, subst, arith}
use Rattle.run_types.specs.Partial.{◌>>=◌}
use Rattle.pool_syntax.specs.Terms.{ProgramTree}
use Rattle.pool_relation.specs.Configuration.{Configuration}
use Rattle.pool_relation.specs.Transition.{run, transition}
use Rattle.pool_semantics.specs.PlainOf.{configuration_of, program_tree}
use Rattle.search_text.proofs.RunLaws.{one_of_them}
use Rattle.search_text.proofs.shown.repeat.Goals as goal

pub loop-made-preserved : goal.loop-made-preserved
loop-made-preserved c =
    let l = c.loop-made in
    let p = program_tree c.args.plain.now in
    let label = c.args.label.now in
    let from = configuration_of l.plain in
    let to = configuration_of c.apply.new.self in
    let step : transition p from label ≡ Some to = subst (λ (q : ProgramTree). transition q from label ≡ Some to) l.invariant.program c.in-Ok.ensures.made in
    record {
      program = c.apply.ensures.program ∙ l.invariant.program;
      left =
          l.invariant.left ∙ one_of_them p from label c.args.times l._made (omega (arith, c.loop-made-test.true))
          ∙ ap (λ (o : Option Configuration). o >>= λ d. run p d (replicate (c.args.times - (l._made + 1)) label)) step;
    }

pub returns-in-Err-NotPossible-clause-program : goal.returns-in-Err-NotPossible-clause-program
returns-in-Err-NotPossible-clause-program c = c.apply.ensures.program ∙ c.loop-made.invariant.program

pub returns-in-Err-NotPossible-clause-refused : goal.returns-in-Err-NotPossible-clause-refused
returns-in-Err-NotPossible-clause-refused c = λ told.
    let l = c.loop-made in
    let p = program_tree c.args.plain.now in
    let label = c.args.label.now in
    let from = configuration_of l.plain in
    let refused = (c.in-Err-NotPossible.ensures.refused c.in-Err-NotPossible.field-0-0 (ap Err c.in-Err-NotPossible.field-0-is)).0 in
    let none : transition p from label ≡ None = subst (λ (q : ProgramTree). transition q from label ≡ None) l.invariant.program refused in
    l.invariant.left ∙ one_of_them p from label c.args.times l._made (omega (arith, c.loop-made-test.true))
    ∙ ap (λ (o : Option Configuration). o >>= λ d. run p d (replicate (c.args.times - (l._made + 1)) label)) none

pub returns-clause-made : goal.returns-clause-made
returns-clause-made c = λ told.
    let l = c.loop-made in
    let none : c.args.times - l._made ≡ 0 = omega (arith, c.loop-made-test.false) in
    l.invariant.left ∙ ap (λ n. run (program_tree c.args.plain.now) (configuration_of l.plain) (replicate n c.args.label.now)) none
