use Rattle.std.proofs.Common.{◌≡◌, Some, arith, subst, ◌∙◌}
use Rattle.run_types.specs.declared.types.Label.TheVariants as L
use Rattle.pool_syntax.specs.Terms.{ProgramTree}
use Rattle.pool_relation.specs.Transition.{transition}
use Rattle.pool_semantics.specs.PlainOf.{configuration_of, program_tree}
use Rattle.stream_check.proofs.LocalRuns.{one_more}
use Rattle.stream_check.proofs.local.make_local.Goals as goal

pub loop-made-preserved : goal.loop-made-preserved
loop-made-preserved c =
    let l = c.loop-made in
    let p = program_tree c.args.plain.now in
    let lab = L.Local c.args.object in
    record {
      few = omega (arith, c.loop-made-test.true);
      program = c.apply.ensures.program ∙ l.invariant.program;
      going_on = λ h. (c.in-Ok.ensures.going_on (λ e. cc)).1;
      leads =
          one_more p lab l.made (configuration_of c.args.plain.now) (configuration_of l.plain) (configuration_of c.apply.new.self) l.invariant.leads
          (subst (λ (t : ProgramTree). transition t (configuration_of l.plain) lab ≡ Some (configuration_of c.apply.new.self)) l.invariant.program c.in-Ok.ensures.made);
    }
