use Rattle.std.proofs.Common.{◌≡◌, Some, subst}
use Rattle.std.specs.Prelude.{IfNone}
use Rattle.std.proofs.lemmas.Option.{IfSome_then}
use Rattle.std.proofs.result.Match.{if_ok_then}
use Rattle.pool_syntax.specs.Terms.{ProgramTree}
use Rattle.pool_relation.specs.Transition.{run}
use Rattle.mesh_semantics.specs.Record.{labels}
use Rattle.pool_semantics.specs.PlainOf.{configuration_of, program_tree}
use Rattle.record_check.specs.Verdicts.{StopsIn}
use Rattle.watch_text.proofs.JoinedLines.{IfNone_then, leads_on, stops_late}
use Rattle.watch_text.proofs.part.push_from.Goals as goal

pub returns-in-Ok-None-clause-leads : goal.returns-in-Ok-None-clause-leads
returns-in-Ok-None-clause-leads c =
    let p = program_tree c.args.plain.now in
    let from = configuration_of c.args.plain.now in
    let mid = configuration_of c.push_followed.new.plain in
    let to = configuration_of c.follow.new.plain in
    let xs = c.args.shown.now in
    let ys = c.args.behind.now in
    let led : run p from (labels xs) ≡ Some mid = subst (λ o. IfNone o (run p from (labels xs) ≡ Some mid)) c.in-Ok-None.field-0-is c.in-Ok-None.ensures.leads in
    if_ok_then c.follow.result _ _
    (λ r h. IfNone_then r (λ e. leads_on p from mid to xs ys led (subst (λ (q : ProgramTree). run q mid (labels ys) ≡ Some to) c.push_followed.ensures.program e)) h)
    c.follow.ensures.leads

pub returns-in-Ok-None-clause-stops : goal.returns-in-Ok-None-clause-stops
returns-in-Ok-None-clause-stops c =
    let p = program_tree c.args.plain.now in
    let from = configuration_of c.args.plain.now in
    let mid = configuration_of c.push_followed.new.plain in
    let to = configuration_of c.follow.new.plain in
    let xs = c.args.shown.now in
    let ys = c.args.behind.now in
    let led : run p from (labels xs) ≡ Some mid = subst (λ o. IfNone o (run p from (labels xs) ≡ Some mid)) c.in-Ok-None.field-0-is c.in-Ok-None.ensures.leads in
    if_ok_then c.follow.result _ _
    (λ r h. IfSome_then r h
    (λ s t. stops_late p from mid to xs ys s.number s.redex led (subst (λ (q : ProgramTree). StopsIn q mid ys s.number to s.redex) c.push_followed.ensures.program t)))
    c.follow.ensures.stops
