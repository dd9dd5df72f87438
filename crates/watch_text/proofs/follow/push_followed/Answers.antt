use Rattle.std.proofs.Common.{◌≡◌, suc, ◌+◌, ◌<◌, ◌∷◌, ◌++◌, length, drop, take, Some, sym, ap, subst, ◌∙◌, arith}
use Rattle.std.specs.Prelude.{IfNone, IfSome}
use Rattle.std.proofs.Math.Seq.{drop-cons}
use Rattle.std.proofs.lemmas.List.{take-append-drop}
use Rattle.pool_syntax.specs.Terms.{ProgramTree}
use Rattle.pool_relation.specs.Transition.{run}
use Rattle.mesh_semantics.specs.Record.{labels_of}
use Rattle.pool_semantics.specs.PlainOf.{configuration_of, program_tree}
use Rattle.record_check.specs.Verdicts.{StopsLine}
use Rattle.record_check.proofs.Laws.{line_more}
use Rattle.term_text.specs.Watched.{followed_text}
use Rattle.watch_text.specs.Steps.{step_text}
use Rattle.watch_text.proofs.Stopping.{followed_cut, followed_put, stops_none}
use Rattle.watch_text.proofs.follow.push_followed.Goals as goal

pub loop-line-preserved : goal.loop-line-preserved
loop-line-preserved c =
    let l = c.loop-line in
    let names = c.args.names.now in
    let lines = c.args.lines.now in
    let line = c.line-item.result in
    let p = program_tree c.args.plain.now in
    let from = configuration_of l.plain in
    let to = configuration_of c.push_step.new.plain in
    let inside : l.line-index < length lines = omega (arith, c.loop-line-test.true, l.auto.line-index-end) in
    let led : run p from (labels_of line) ≡ Some to =
    subst (λ (q : ProgramTree). run q from (labels_of line) ≡ Some to) l.invariant.program
    (subst (λ o. IfNone o (run (program_tree l.plain) from (labels_of line) ≡ Some to)) c.in-Ok-None.field-0-is c.in-Ok-None.ensures.leads) in
    record {
      program = c.push_step.ensures.program ∙ l.invariant.program;
      going_on = λ h. c.in-Ok-None.ensures.going_on (l.invariant.going_on h);
      leads = line_more p lines l.line-index line (configuration_of c.args.plain.now) from to inside (sym c.line-item.is) l.invariant.leads led;
      text =
          followed_put names p from to line lines l.line-index l.text.items c.push_step.new.text.items (c.args.text.now.items ++ followed_text names p (configuration_of c.args.plain.now) lines)
          inside c.line-item.is led
          (c.in-Ok-None.ensures.text ∙ ap (λ (q : ProgramTree). l.text.items ++ step_text names q from line) l.invariant.program) l.invariant.text;
    }

pub returns-in-Ok-Some-clause-stops : goal.returns-in-Ok-Some-clause-stops
returns-in-Ok-Some-clause-stops c =
    let l = c.loop-line in
    let lines = c.args.lines.now in
    let line = c.line-item.result in
    let inside : l.line-index < length lines = omega (arith, c.loop-line-test.true, l.auto.line-index-end) in
    let next : suc l.line-index ≡ l.line-index + 1 = omega arith in
    record {
      before = take l.line-index lines;
      line = line;
      behind = drop (l.line-index + 1) lines;
      whole =
          sym (take-append-drop l.line-index lines)
          ∙ ap (λ xs. take l.line-index lines ++ xs)
          (drop-cons lines l.line-index line inside ∙ (ap (λ x. x ∷ drop (suc l.line-index) lines) (sym c.line-item.is) ∙ ap (λ k. line ∷ drop k lines) next));
      between = configuration_of l.plain;
      leads = l.invariant.leads;
      stops =
          subst (λ (p : ProgramTree). StopsLine p (configuration_of l.plain) line c.in-Ok-Some.stop.number (configuration_of c.push_step.new.plain) c.in-Ok-Some.stop.redex)
          l.invariant.program
          (subst (λ o. IfSome o (λ s. StopsLine (program_tree l.plain) (configuration_of l.plain) line s.number (configuration_of c.push_step.new.plain) s.redex)) c.in-Ok-Some.field-0-is c.in-Ok-Some.ensures.stops);
    }

pub returns-in-Ok-Some-clause-text : goal.returns-in-Ok-Some-clause-text
returns-in-Ok-Some-clause-text c =
    let l = c.loop-line in
    let names = c.args.names.now in
    let lines = c.args.lines.now in
    let line = c.line-item.result in
    let p = program_tree c.args.plain.now in
    let from = configuration_of l.plain in
    let to = configuration_of c.push_step.new.plain in
    let stop = c.in-Ok-Some.stop in
    let inside : l.line-index < length lines = omega (arith, c.loop-line-test.true, l.auto.line-index-end) in
    followed_cut names p from line lines l.line-index l.text.items c.push_step.new.text.items (c.args.text.now.items ++ followed_text names p (configuration_of c.args.plain.now) lines)
    inside c.line-item.is
    (stops_none p from line stop.number to stop.redex
    (subst (λ (q : ProgramTree). StopsLine q from line stop.number to stop.redex) l.invariant.program
    (subst (λ o. IfSome o (λ s. StopsLine (program_tree l.plain) from line s.number to s.redex)) c.in-Ok-Some.field-0-is c.in-Ok-Some.ensures.stops)))
    (c.in-Ok-Some.ensures.text ∙ ap (λ (q : ProgramTree). l.text.items ++ step_text names q from line) l.invariant.program) l.invariant.text
