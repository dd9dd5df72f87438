use Rattle.std.proofs.Common.{sym, ap, subst, ◌∙◌, ◌++◌}
use Rattle.std.specs.Prelude.{IfSome}
use Rattle.pool_semantics.specs.PlainOf.{configuration_of, program_tree}
use Rattle.record_check.specs.Verdicts.{StopsLine}
use Rattle.watch_text.proofs.Stopping.{step_stops, stops_none}
use Rattle.watch_text.proofs.follow.push_step.Goals as goal

pub returns-in-Ok-Some-clause-text : goal.returns-in-Ok-Some-clause-text
returns-in-Ok-Some-clause-text c =
    let p = program_tree c.args.plain.now in
    let from = configuration_of c.args.plain.now in
    let to = configuration_of c.follow_line.new.plain in
    let line = c.args.line.now in
    let stop = c.in-Ok-Some.stop in
    let base = c.args.text.now.items in
    c.in_ok-push_line.ensures
    ∙ ap (λ t. base ++ t)
    (sym (step_stops c.args.names.now p from line
    (stops_none p from line stop.number to stop.redex (subst (λ o. IfSome o (λ s. StopsLine p from line s.number to s.redex)) c.in-Ok-Some.field-0-is c.in-Ok-Some.ensures.stops))))
