use Rattle.std.proofs.Common.{◌≡◌, suc, ◌+◌, ◌<◌, ◌∷◌, ◌++◌, length, drop, take, Some, sym, ap, subst, ◌∙◌, arith}
use Rattle.std.specs.Prelude.{IfNone, IfSome}
use Rattle.std.proofs.Math.Seq.{drop-cons}
use Rattle.std.proofs.lemmas.List.{take-append-drop}
use Rattle.pool_syntax.specs.Terms.{ProgramTree}
use Rattle.pool_relation.specs.Transition.{run}
use Rattle.mesh_semantics.specs.Record.{labels_of}
use Rattle.pool_semantics.specs.PlainOf.{configuration_of, program_tree}
use Rattle.record_check.specs.Verdicts.{StopsLine}
use Rattle.record_check.proofs.RunExtension.{line_more}
use Rattle.record_check.proofs.lead.follow.Goals as goal

pub returns-in-Ok-Some-clause-stops : goal.returns-in-Ok-Some-clause-stops
returns-in-Ok-Some-clause-stops c =
    let l = c.loop-line in
    let lines = c.args.lines.now in
    let line = c.line-item.result in
    let inside : l.line-index < length lines = omega (arith, c.loop-line-test.true, l.auto.line-index-end) in
    let next : suc l.line-index ≡ l.line-index + 1 = omega arith in
    record {
      before = take l.line-index lines;
      line = line;
      behind = drop (l.line-index + 1) lines;
      whole =
          sym (take-append-drop l.line-index lines)
          ∙ ap (λ xs. take l.line-index lines ++ xs)
          (drop-cons lines l.line-index line inside ∙ (ap (λ x. x ∷ drop (suc l.line-index) lines) (sym c.line-item.is) ∙ ap (λ k. line ∷ drop k lines) next));
      between = configuration_of l.plain;
      leads = l.invariant.leads;
      stops =
          subst (λ (p : ProgramTree). StopsLine p (configuration_of l.plain) line c.in-Ok-Some.stop.number (configuration_of c.follow_line.new.plain) c.in-Ok-Some.stop.redex)
          l.invariant.program
          (subst (λ o. IfSome o (λ s. StopsLine (program_tree l.plain) (configuration_of l.plain) line s.number (configuration_of c.follow_line.new.plain) s.redex)) c.in-Ok-Some.field-0-is c.in-Ok-Some.ensures.stops);
    }

pub loop-line-preserved : goal.loop-line-preserved
loop-line-preserved c =
    let l = c.loop-line in
    let lines = c.args.lines.now in
    let line = c.line-item.result in
    let inside : l.line-index < length lines = omega (arith, c.loop-line-test.true, l.auto.line-index-end) in
    record {
      program = c.follow_line.ensures.program ∙ l.invariant.program;
      going_on = λ h. c.in-Ok-None.ensures.going_on (l.invariant.going_on h);
      leads =
          line_more (program_tree c.args.plain.now) lines l.line-index line (configuration_of c.args.plain.now) (configuration_of l.plain) (configuration_of c.follow_line.new.plain) inside
          (sym c.line-item.is) l.invariant.leads
          (subst (λ (p : ProgramTree). run p (configuration_of l.plain) (labels_of line) ≡ Some (configuration_of c.follow_line.new.plain)) l.invariant.program
          (subst (λ o. IfNone o (run (program_tree l.plain) (configuration_of l.plain) (labels_of line) ≡ Some (configuration_of c.follow_line.new.plain))) c.in-Ok-None.field-0-is c.in-Ok-None.ensures.leads));
    }
